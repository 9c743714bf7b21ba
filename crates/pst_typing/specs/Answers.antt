-- Checks one after another: the first that fails is the answer.
use Rattle.std.specs.Prelude.{Bool, true, false, List, [], ◌∷◌, Option, Some, None, Result, Ok, Err}
use Rattle.pst_typing.specs.declared.fault.TypeFault.{TypeFault}

-- the next checks, with what the checks before gave
abbrev pub and_then : {A B : Type 0} → Result A TypeFault → (A → Result B TypeFault) → Result B TypeFault
and_then (Ok a) next = next a
and_then (Err fault) next = Err fault

-- a check, which fails with a fault, and the next ones
abbrev pub check : {A : Type 0} → Bool → TypeFault → Result A TypeFault → Result A TypeFault
check true fault next = next
check false fault next = Err fault

-- a look-up, where a name that is not found is a fault, and the next checks
abbrev pub found : {A B : Type 0} → Option A → TypeFault → (A → Result B TypeFault) → Result B TypeFault
found None fault next = Err fault
found (Some a) fault next = next a

-- the items in order, each judged with what the items before it gave
abbrev pub through : {S A : Type 0} → (S → A → Result S TypeFault) → S → List A → Result S TypeFault
through judge before [] = Ok before
through judge before (item ∷ items) = and_then (judge before item) (λ now. through judge now items)
