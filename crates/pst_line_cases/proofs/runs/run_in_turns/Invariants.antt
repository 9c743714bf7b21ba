use Rattle.std.proofs.Common.{◌-◌, ◌*◌}
use Rattle.pst_line_cases.specs.Trials.{IsReady}
use Rattle.pst_line_cases.proofs.runs.run_in_turns.Given as goal

abbrev pub invariant-loop-n : goal.invariant-loop-n
invariant-loop-n g l = IsReady (g.S.HeapAt.state l.store) (g.S.LineCalls.stored l.store) l.field.0 (2 * (l.times - l.n))
