use Rattle.pst_engine_cases.specs.Twins.{CanAnswer}
use Rattle.pst_engine_cases.proofs.driving.tell_anew.Given as goal

abbrev pub invariant-loop-line : goal.invariant-loop-line
invariant-loop-line g l = CanAnswer l.twins.code l.twins.engine (g.H.HeapAt.state l.twins.heap) l.twins.program l.twins.replayer
