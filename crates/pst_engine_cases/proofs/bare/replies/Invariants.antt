use Rattle.pst_forest.specs.Forest.{state_of}
use Rattle.pst_engine_cases.specs.Bare.{CanRun}
use Rattle.pst_engine_cases.proofs.bare.replies.Given as goal

abbrev pub invariant-loop-line : goal.invariant-loop-line
invariant-loop-line l = CanRun l.bare.code l.bare.engine (state_of l.bare.heap)
