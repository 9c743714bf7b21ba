use Rattle.pst_versions.specs.State.{Keeps}
use Rattle.pst_store_meaning.specs.Store.{state_of}
use Rattle.pst_store_splits_cases.proofs.repeated.number_again.Given as goal

-- what was there before the first call
abbrev pub invariant-loop : goal.invariant-loop
invariant-loop g l = Keeps (state_of l.initial.store) (state_of l.store)
