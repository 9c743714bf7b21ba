use Rattle.std.proofs.Common.{◌<◌, ◌≤◌, ◌+◌, length, ap, ◌∙◌, rules, arith}
use Rattle.std.proofs.lemmas.List.{take_all}
use Rattle.pst_base.specs.Counts.{counts_plus}
use Rattle.pst_history.specs.History.{total_counts, run_counts, counts_of}
use Rattle.pst_history.specs.Direct.{meaning_of}
use Rattle.pst_history.proofs.Numbered.{numbered-at}
use Rattle.pst_history.proofs.Sound.{present}
use Rattle.pst_replay.specs.Replay.{kept_for}
use Rattle.pst_replay.proofs.Totals.{sum-more, few-more}
use Rattle.pst_replay.proofs.answer.stats.Goals as goal

pub loop-at-preserved : goal.loop-at-preserved
loop-at-preserved c =
    let h = kept_for c.args.program.now c.args.history.now in
    let i = c.loop-at.at in
    let below : i < length h.runs = search rules in
    let found = present h.runs i below in
    let f = run_counts (meaning_of c.args.program.now) h in
    record {
      sum = sum-more f h.runs i found.0 (record { records = 1; pointer_writes = 0; value_writes = 0 }) c.loop-at.total c.in_ok-counts.counts
          c.plus-total.result found.1 c.loop-at.invariant.sum
          (c.in_ok-counts.ensures.counts found.0 (numbered-at 1 h.runs (i + 1) i (omega arith) ∙ found.1)) c.plus-total.ensures;
      few = few-more i c.loop-at.total c.in_ok-counts.counts c.plus-total.result c.loop-at.invariant.few c.in_ok-counts.ensures.few c.plus-total.ensures;
    }

pub returns : goal.returns
unfolding counts_of
returns c =
    let h = kept_for c.args.program.now c.args.history.now in
    let all : length h.runs ≤ c.loop-at.at = search rules in
    c.loop-at.invariant.sum ∙ ap (λ xs. counts_plus (record { records = 1; pointer_writes = 0; value_writes = 0 })
    (total_counts (run_counts (meaning_of c.args.program.now) h) 1 xs)) (take_all c.loop-at.at h.runs all)
