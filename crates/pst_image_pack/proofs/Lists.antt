-- Lists that are made item by item.
use Rattle.std.proofs.Common.{◌≡◌, ℕ, zero, suc, Some, IfSome, slice_get, ◌+◌, ◌<◌, ◌≤◌, List, [], ◌∷◌, ◌++◌, length, get_or, map, take, refl, sym, ap, ap₂, ◌∙◌, subst, ⊎_elim, arith}
use Rattle.std.specs.List.{AllByRecursion}
use Rattle.std.proofs.lemmas.Bool.{cases_eq}
use Rattle.std.proofs.lemmas.List.{map_more, length-map, get_or-map}

-- one more, at the end
pub all_push : {A : Type 0} (P : A → Type 0) (xs : List A) (x : A) → AllByRecursion P xs → P x → AllByRecursion P (xs ++ x ∷ [])
all_push P [] x all here = (here, tt)
all_push P (y ∷ ys) x all here = (all.0, all_push P ys x all.1 here)

pub map_push_at : {A B : Type 0} (f : A → B) (xs : List A) (i : ℕ) (d : A) (ys : List B) (y : B) → i < length xs → ys ≡ map f (take i xs)
    → y ≡ f (get_or xs i d) → ys ++ y ∷ [] ≡ map f (take (i + 1) xs)
map_push_at f xs i d ys y l e here = ap₂ (λ zs z. zs ++ z ∷ []) e here ∙ sym (map_more f xs i d l)

-- the same, where what stands at the index is said by an option
pub map_push_some : {A B : Type 0} (f : A → B) (xs : List A) (i : ℕ) (ys : List B) (y : B) → i < length xs → ys ≡ map f (take i xs)
    → IfSome (slice_get xs i) (λ x. y ≡ f x) → ys ++ y ∷ [] ≡ map f (take (i + 1) xs)
map_push_some f xs i ys y l e here = by (slice_get-there xs i l)
  where
    slice_get-there : {A : Type 0} (xs : List A) (k : ℕ) → k < length xs → (x : A) × (slice_get xs k ≡ Some x)
    slice_get-there [] k l = absurd (omega arith)
    slice_get-there (x ∷ xs) zero l = (x, refl)
    slice_get-there (x ∷ xs) (suc k) l = slice_get-there xs k (omega arith)

    by : (x : _) × (slice_get xs i ≡ Some x) → ys ++ y ∷ [] ≡ map f (take (i + 1) xs)
    by x = map_push_at f xs i x.0 ys y l e (subst (λ o. IfSome o (λ x. y ≡ f x)) x.1 here ∙ ap f (sym (at xs i x.0 x.1)))
      where
        at : {A : Type 0} (xs : List A) (i : ℕ) (x : A) → slice_get xs i ≡ Some x → get_or xs i x ≡ x
        at [] i x e = absurd (cc)
        at (y ∷ ys) zero x e = (let same : y ≡ x = cc in same)
        at (y ∷ ys) (suc i) x e = at ys i x e

-- the same, of a list that has one item more
pub map_step : {A B : Type 0} (f : A → B) (xs : List A) (i : ℕ) (ys zs : List B) (y : B) → zs ≡ ys ++ y ∷ [] → i < length xs → ys ≡ map f (take i xs)
    → IfSome (slice_get xs i) (λ x. y ≡ f x) → zs ≡ map f (take (i + 1) xs)
map_step f xs i ys zs y more l e here = more ∙ map_push_some f xs i ys y l e here

pub all_step : {A : Type 0} (P : A → Type 0) (xs ys : List A) (x : A) → ys ≡ xs ++ x ∷ [] → AllByRecursion P xs → P x → AllByRecursion P ys
all_step P xs ys x more all here = subst (AllByRecursion P) (sym more) (all_push P xs x all here)

-- the same, of a list of what is seen
pub seen_step : {A B C : Type 0} (f : B → C) (g : A → B) (xs : List A) (i : ℕ) (x : A) (ys zs : List C) (y : C) → zs ≡ ys ++ y ∷ [] → i < length xs
    → x ≡ get_or xs i x → ys ≡ map f (take i (map g xs)) → y ≡ f (g x) → zs ≡ map f (take (i + 1) (map g xs))
seen_step f g xs i x ys zs y more l is e here =
    more ∙ map_push_at f (map g xs) i (g x) ys y (omega (arith, l, length-map xs g)) e (here ∙ ap f (ap g is ∙ sym (get_or-map g xs i x (g x) l)))

pub seen_at : {A B : Type 0} (g : A → B) (xs : List A) (i : ℕ) (x : A) → i < length xs → x ≡ get_or xs i x → slice_get (map g xs) i ≡ Some (g x)
seen_at g [] i x l is = absurd (omega arith)
seen_at g (y ∷ ys) zero x l is = ap Some (ap g (sym is))
seen_at g (y ∷ ys) (suc i) x l is = seen_at g ys i x (omega arith) is

-- what is so of each item before an index and of the one there is so of one more
pub one_more : {A : Type 0} (P : A → Type 0) (xs : List A) (k : ℕ) (x : A) → slice_get xs k ≡ Some x → P x
    → ((i : ℕ) (y : A) → i < k → slice_get xs i ≡ Some y → P y) → (i : ℕ) (y : A) → i < k + 1 → slice_get xs i ≡ Some y → P y
one_more P xs k x at here before i y l e = ⊎_elim
    (λ (q : i ≡ k). let there : slice_get xs i ≡ Some x = ap (slice_get xs) q ∙ at in let same : x ≡ y = cc in subst P same here)
    (λ (ne : i ≡ k → ⊥). before i y (omega (arith, l, ne)) e)
    (cases_eq i k)
