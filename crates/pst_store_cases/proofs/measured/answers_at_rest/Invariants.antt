use Rattle.pst_store.specs.Whole.{state_in}
use Rattle.pst_store_cases.specs.Going.{IsGoing}
use Rattle.pst_store_cases.proofs.measured.answers_at_rest.Given as goal

abbrev pub invariant-loop-line : goal.invariant-loop-line
invariant-loop-line g l = IsGoing l.session.code l.session.engine (state_in l.session.heap)
