use Rattle.std.proofs.Common.{◌≡◌, ◌+◌, ◌*◌, take}
use Rattle.pst_base.specs.Counts.{counts_plus}
use Rattle.pst_program.specs.Sound.{CountsWithin}
use Rattle.pst_history.specs.History.{total_counts, run_counts}
use Rattle.pst_history.specs.Direct.{meaning_of}
use Rattle.pst_replay.specs.Replay.{kept_for}
use Rattle.pst_replay.proofs.answer.stats.Given as goal

abbrev pub invariant-loop-at : goal.invariant-loop-at
invariant-loop-at l = record {
  sum : l.total ≡ counts_plus (record { records = 1; pointer_writes = 0; value_writes = 0 })
      (total_counts (run_counts (meaning_of l.program) (kept_for l.program l.history)) 1 (take l.at l.history.since.runs));
  few : CountsWithin l.total (1 + l.at * 4294967295);
}
