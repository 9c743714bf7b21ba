-- Lists with one item more, and items of lists.
use Rattle.std.proofs.Common.{◌≡◌, ◌⊎◌, ℕ, ◌<◌, zero, suc, Bool, true, false, List, [], ◌∷◌, ◌++◌, map, length, get_or, Some, refl, sym, ap, ◌∙◌, subst, arith, inl, inr, ◌||◌}
use Rattle.std.specs.Prelude.{slice_get}
use Rattle.std.specs.List.{AllZip, Contains, list_any}
use Rattle.indexmap.proofs.CallerLemmas.{Contains-list_any}
use Rattle.pst_base.specs.declared.names.Name.{Name}
use Rattle.pst_base.specs.Name.{same_name}
use Rattle.pst_base.proofs.NameLemmas.{same_name-true, same_name-same}

module _ {X : Type 0} where
  pub slice_get-push : (xs : List X) (y : X) (i : ℕ) (x : X) → slice_get (xs ++ y ∷ []) i ≡ Some x → (slice_get xs i ≡ Some x) ⊎ ((i ≡ length xs) × (y ≡ x))
  slice_get-push [] y zero x e = inr (refl, cc)
  slice_get-push [] y (suc i) x e = absurd (cc)
  slice_get-push (z ∷ xs) y zero x e = inl e
  slice_get-push (z ∷ xs) y (suc i) x e = elim (slice_get-push xs y i x e) [ inl h ↦ inl h | inr h ↦ inr (ap suc h.0, h.1) ]

  pub slice_get-kept : (xs : List X) (y : X) (i : ℕ) (x : X) → slice_get xs i ≡ Some x → slice_get (xs ++ y ∷ []) i ≡ Some x
  slice_get-kept [] y i x e = absurd (cc)
  slice_get-kept (z ∷ xs) y zero x e = e
  slice_get-kept (z ∷ xs) y (suc i) x e = slice_get-kept xs y i x e

  pub slice_get-last : (xs : List X) (y : X) → slice_get (xs ++ y ∷ []) (length xs) ≡ Some y
  slice_get-last [] y = refl
  slice_get-last (z ∷ xs) y = slice_get-last xs y

  contains_at : (x : X) (xs : List X) (y : X) (k : ℕ) → k < length (x ∷ xs) → get_or (x ∷ xs) k y ≡ y → (x ≡ y) ⊎ Contains xs y
  contains_at x xs y zero l e = inl e
  contains_at x xs y (suc k) l e = inr (k, omega arith, e)

  pub Contains-cases : (x : X) (xs : List X) (y : X) → Contains (x ∷ xs) y → (x ≡ y) ⊎ Contains xs y
  Contains-cases x xs y c = contains_at x xs y c.0 c.1 c.2

  pub Contains-first : (x : X) (xs : List X) → Contains (x ∷ xs) x
  Contains-first x xs = (zero, omega arith, refl)

  pub Contains-rest : (x : X) (xs : List X) (y : X) → Contains xs y → Contains (x ∷ xs) y
  Contains-rest x xs y c = (suc c.0, (let l = c.1 in omega arith), c.2)

  none_contained : (y : X) → ¬ (Contains [] y)
  none_contained y c = let l = c.1 in omega arith

  pub Contains-none : (y : X) → ¬ (Contains [] y)
  Contains-none y c = none_contained y c

  -- where an item is
  pub record Placed (xs : List X) (x : X) : Type 0 where
    pub index : ℕ
    pub at : slice_get xs index ≡ Some x

  placed_at : (xs : List X) (x : X) (k : ℕ) → k < length xs → get_or xs k x ≡ x → slice_get xs k ≡ Some x
  placed_at [] x k l e = absurd (omega arith)
  placed_at (y ∷ xs) x zero l e = ap Some e
  placed_at (y ∷ xs) x (suc k) l e = placed_at xs x k (omega arith) e

  pub place : (xs : List X) (x : X) → Contains xs x → Placed xs x
  place xs x c = record { index = c.0; at = placed_at xs x c.0 c.1 c.2 }

  contained_at : (xs : List X) (x : X) (k : ℕ) → slice_get xs k ≡ Some x → Contains xs x
  contained_at [] x k e = absurd (cc)
  contained_at (y ∷ xs) x zero e = subst (λ (z : X). Contains (y ∷ xs) z) (let same : y ≡ x = cc in same) (Contains-first y xs)
  contained_at (y ∷ xs) x (suc k) e = Contains-rest y xs x (contained_at xs x k e)

  pub Contains-from_place : (xs : List X) (x : X) (k : ℕ) → slice_get xs k ≡ Some x → Contains xs x
  Contains-from_place xs x k e = contained_at xs x k e

-- two functions of the items of one list, item by item
pub AllZip-map : {X A B : Type 0} (f : X → A) (g : X → B) (R : A → B → Type 0) (xs : List X) → ((i : ℕ) (x : X) → slice_get xs i ≡ Some x → R (f x) (g x)) → AllZip R (map f xs) (map g xs)
AllZip-map f g R [] each = tt
AllZip-map f g R (x ∷ xs) each = (each 0 x refl, AllZip-map f g R xs (λ i y e. each (suc i) y e))

pub AllZip-length : {A B : Type 0} (R : A → B → Type 0) (xs : List A) (ys : List B) → AllZip R xs ys → length xs ≡ length ys
AllZip-length R [] [] h = refl
AllZip-length R [] (y ∷ ys) h = absurd h
AllZip-length R (x ∷ xs) [] h = absurd h
AllZip-length R (x ∷ xs) (y ∷ ys) h = ap suc (AllZip-length R xs ys h.1)

pub AllZip-at : {A B : Type 0} (R : A → B → Type 0) (xs : List A) (ys : List B) (i : ℕ) (d : A) (e : B) → AllZip R xs ys → i < length xs → R (get_or xs i d) (get_or ys i e)
AllZip-at R [] ys i d e h l = absurd (omega arith)
AllZip-at R (x ∷ xs) [] i d e h l = absurd h
AllZip-at R (x ∷ xs) (y ∷ ys) zero d e h l = h.0
AllZip-at R (x ∷ xs) (y ∷ ys) (suc i) d e h l = AllZip-at R xs ys i d e h.1 (omega arith)

-- ---- names in lists

or_none : (a b : Bool) → (a || b) ≡ false → (a ≡ false) × (b ≡ false)
or_none true b e = absurd (cc)
or_none false b e = (refl, e)

-- a name that is in the list
pub Contains-listed : (names : List Name) (n : Name) → list_any (same_name n) names ≡ true → Contains names n
Contains-listed names n e = Contains-list_any same_name same_name-true names n e

-- a name that is not in it
pub unlisted_apart : (names : List Name) (n : Name) (i : ℕ) (m : Name) → list_any (same_name n) names ≡ false → slice_get names i ≡ Some m → ¬ (n ≡ m)
unlisted_apart [] n i m e at same = absurd (cc)
unlisted_apart (k ∷ names) n zero m e at same =
    let none = or_none (same_name n k) (list_any (same_name n) names) e in
    let here : n ≡ k = (let first : k ≡ m = cc in same ∙ sym first) in
    let yes : same_name n k ≡ true = subst (λ (x : Name). same_name n x ≡ true) here (same_name-same n) in
    let no = none.0 in
    cc
unlisted_apart (k ∷ names) n (suc i) m e at same = unlisted_apart names n i m (or_none (same_name n k) (list_any (same_name n) names) e).1 at same
