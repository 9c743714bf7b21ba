use Rattle.std.proofs.Common.{refl}
use Rattle.pst_program.specs.View.{routines_of}
use Rattle.pst_history.specs.History.{run_at}
use Rattle.pst_history.specs.Direct.{meaning_of}
use Rattle.pst_history.proofs.DirectLemmas.{direct_is_lawful}
use Rattle.pst_replay.specs.Replay.{kept_for}
use Rattle.pst_replay.proofs.Totals.{few-under}
use Rattle.pst_replay.proofs.answer.counts_under.Goals as goal

pub returns-clause-counts : goal.returns-clause-counts
returns-clause-counts c = λ r e. (c.in_ok-outcome.ensures r e).counts

pub returns-clause-few : goal.returns-clause-few
returns-clause-few c =
    let m = meaning_of c.args.program.now in
    let h = kept_for c.args.program.now c.args.history.now in
    few-under m (direct_is_lawful (routines_of c.args.program.now) c.requires.typed.valid) h c.requires.sound c.args.number.0
    (run_at h c.args.number.0) refl c.requires.there c.in_ok-outcome.outcome.counts (λ r e. (c.in_ok-outcome.ensures r e).counts)
