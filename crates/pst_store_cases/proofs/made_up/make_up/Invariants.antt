use Rattle.pst_store_cases.specs.Going.{IsGoing}
use Rattle.pst_store_cases.proofs.made_up.make_up.Given as goal

abbrev pub invariant-loop : goal.invariant-loop
invariant-loop g l = IsGoing l.session.code l.session.engine (g.H.HeapAt.state l.session.heap)
