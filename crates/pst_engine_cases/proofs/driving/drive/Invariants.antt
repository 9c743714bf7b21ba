use Rattle.pst_engine_cases.specs.Twins.{CanAnswer}
use Rattle.pst_engine_cases.proofs.driving.drive.Given as goal

abbrev pub invariant-loop : goal.invariant-loop
invariant-loop g l = CanAnswer l.twins.code l.twins.engine (g.H.HeapAt.state l.twins.heap) l.twins.program l.twins.replayer
