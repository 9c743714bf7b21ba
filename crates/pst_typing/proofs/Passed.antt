-- Checks that were passed.
use Rattle.std.proofs.Common.{◌≡◌, ℕ, Bool, true, false, not, ◌&&◌, List, is_some, Option, Some, None, Result, Ok, Err, refl, subst}
use Rattle.pst_typing.specs.declared.fault.TypeFault.{TypeFault}
use Rattle.pst_typing.specs.Answers.{and_then, check, found}
use Rattle.pst_typing.specs.Names.{Scope, is_named, is_free}

-- a check that was passed
pub passed : {A : Type 0} (b : Bool) (f : TypeFault) (next : Result A TypeFault) (a : A) → check b f next ≡ Ok a → (b ≡ true) × (next ≡ Ok a)
passed true f next a e = (refl, e)
passed false f next a e = cc

-- the first part of checks that were passed
pub first_passed : {A B : Type 0} (r : Result A TypeFault) (next : A → Result B TypeFault) (b : B) → and_then r next ≡ Ok b → (a : A) × ((r ≡ Ok a) × (next a ≡ Ok b))
first_passed (Ok a) next b e = (a, (refl, e))
first_passed (Err f) next b e = cc

-- a look-up that was passed
pub found_passed : {A B : Type 0} (o : Option A) (f : TypeFault) (next : A → Result B TypeFault) (b : B) → found o f next ≡ Ok b → (a : A) × ((o ≡ Some a) × (next a ≡ Ok b))
found_passed None f next b e = cc
found_passed (Some a) f next b e = (a, (refl, e))

pub same_ok : {A : Type 0} (a b : A) → ◌≡◌ {A = Result A TypeFault} (Ok a) (Ok b) → a ≡ b
same_ok a b e = cc

pub of_ok : {A : Type 0} (P : A → Type 0) (a b : A) → P a → ◌≡◌ {A = Result A TypeFault} (Ok a) (Ok b) → P b
of_ok P a b p e = subst P (same_ok a b e) p

pub some_of : {A : Type 0} (o : Option A) → is_some o ≡ true → (a : A) × (o ≡ Some a)
some_of None e = cc
some_of (Some a) e = (a, refl)

pub both_true : (a b : Bool) → (a && b) ≡ true → (a ≡ true) × (b ≡ true)
both_true true b e = (refl, e)
both_true false b e = cc

both_not : (a b c : Bool) → (not a && (not b && not c)) ≡ true → (a ≡ false) × (b ≡ false) × (c ≡ false)
both_not false false false e = (refl, refl, refl)
both_not false false true e = cc
both_not false true c e = cc
both_not true b c e = cc

-- a free name is no type's, no root's and no procedure's
pub free_parts : (scope : Scope) (x : List ℕ) → is_free scope x ≡ true → (is_named x scope.types ≡ false) × (is_named x scope.roots.list ≡ false) × (is_named x scope.procedures ≡ false)
free_parts scope x free = both_not _ _ _ free
