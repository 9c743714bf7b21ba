use Rattle.std.proofs.Common.{sym}
use Rattle.pst_engine_runs.proofs.Entries.{open-where}
use Rattle.pst_engine_runs.proofs.refusal.refusal_of_run.Goals as goal

pub returns-then-is_some : goal.returns-then-is_some
returns-then-is_some g c = open-where c.args.active.now c.args.run c.expected_at.result (sym c.if-is_some.ensures) c.expected_at.ensures.within c.expected_at.ensures.run
