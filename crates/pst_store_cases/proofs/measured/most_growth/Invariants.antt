use Rattle.pst_store.specs.Whole.{state_in}
use Rattle.pst_store_cases.specs.Going.{IsGoing}
use Rattle.pst_store_cases.proofs.measured.most_growth.Given as goal

abbrev pub invariant-loop : goal.invariant-loop
invariant-loop g l = IsGoing l.session.code l.session.engine (state_in l.session.heap)
