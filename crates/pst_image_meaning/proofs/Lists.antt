-- What stands in lists.
use Rattle.std.proofs.Common.{◌≡◌, ℕ, zero, suc, ◌<◌, ◌≤◌, List, [], ◌∷◌, length, get_or, map, Some, refl, ap₂, arith}
use Rattle.std.specs.Prelude.{slice_get}
use Rattle.std.specs.List.{AllByRecursion}

pub all_at : {A : Type 0} (P : A → Type 0) (xs : List A) (d : A) → AllByRecursion P xs → (i : ℕ) → i < length xs → P (get_or xs i d)
all_at P [] d h i l = absurd (omega arith)
all_at P (x ∷ xs) d h zero l = h.0
all_at P (x ∷ xs) d h (suc i) l = all_at P xs d h.1 i (omega (arith, l))

-- a list that is made of another one and back again is that one, where each element is
pub map-back : {A B : Type 0} (f : A → B) (g : B → A) (xs : List A) (d : A) → ((i : ℕ) → i < length xs → g (f (get_or xs i d)) ≡ get_or xs i d) → map g (map f xs) ≡ xs
map-back f g [] d h = refl
map-back f g (x ∷ xs) d h = ap₂ (λ y ys. y ∷ ys) (h 0 (omega arith)) (map-back f g xs d (λ i l. h (suc i) (omega (arith, l))))

-- two ways to make a list give the same, where they do of each element
pub map-same : {A B : Type 0} (f g : A → B) (xs : List A) → ((i : ℕ) (x : A) → slice_get xs i ≡ Some x → f x ≡ g x) → map f xs ≡ map g xs
map-same f g [] h = refl
map-same f g (x ∷ xs) h = ap₂ (λ y ys. y ∷ ys) (h 0 x refl) (map-same f g xs (λ i x e. h (suc i) x e))

pub get_or-past : {A : Type 0} (xs : List A) (g : ℕ) (d : A) → length xs ≤ g → get_or xs g d ≡ d
get_or-past [] g d l = refl
get_or-past (x ∷ xs) zero d l = absurd (omega arith)
get_or-past (x ∷ xs) (suc g) d l = get_or-past xs g d (omega (arith, l))
