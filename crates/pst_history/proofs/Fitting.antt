-- Arguments that fit.
use Rattle.std.proofs.Common.{◌≡◌, ◌≢◌, ℕ, ℤ, List, [], ◌∷◌, length, refl, ap, arith, false, nat_eq, suc}
use Rattle.std.specs.List.{list_all}
use Rattle.std.proofs.lemmas.Bool.Decides.{nat_tests}
use Rattle.pst_base.specs.declared.names.Kind.{Kind}
use Rattle.pst_base.specs.declared.names.Kind.TheVariants.{Int, Pointer}
use Rattle.pst_history.specs.Meaning.{fits}
use Rattle.pst_history.specs.Kinds.{is_number}

pub fits-lengths : (kinds : List Kind) (xs : List ℤ) → length kinds ≡ length xs → list_all is_number kinds ≡ fits kinds xs
fits-lengths [] [] e = refl
fits-lengths [] (x ∷ xs) e = absurd (omega arith)
fits-lengths (Int ∷ kinds) [] e = absurd (omega arith)
fits-lengths (Int ∷ kinds) (x ∷ xs) e = fits-lengths kinds xs (omega arith)
fits-lengths (Pointer ty ∷ kinds) xs e = refl

pub unfit-lengths : (kinds : List Kind) (xs : List ℤ) → length kinds ≢ length xs → false ≡ fits kinds xs
unfit-lengths [] [] ne = absurd (ne refl)
unfit-lengths [] (x ∷ xs) ne = refl
unfit-lengths (Int ∷ kinds) [] ne = refl
unfit-lengths (Int ∷ kinds) (x ∷ xs) ne = unfit-lengths kinds xs (λ e. ne (ap suc e))
unfit-lengths (Pointer ty ∷ kinds) xs ne = refl

pub unequal : (a b : ℕ) → a ≢ b → nat_eq a b ≡ false
unequal a b ne = grind (arith, nat_tests)
