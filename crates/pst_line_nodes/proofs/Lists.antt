-- Elements of lists.
use Rattle.std.proofs.Common.{◌≡◌, ℕ, zero, suc, ◌+◌, ◌<◌, List, [], ◌∷◌, ◌++◌, length, map, take, drop, get_or, refl, ap, sym, ◌∙◌, ◌≤◌, ⊎_elim, arith}
use Rattle.std.proofs.lemmas.Bool.{cases_lt}
use Rattle.std.proofs.lemmas.List.{get_or_append_left}
use Rattle.std.proofs.Math.Seq.{get_or-append_seam}
use Rattle.std.proofs.Math.ListN.{set}
use Rattle.std.proofs.lemmas.List.Edits.{map_over_more}

pub get_or-any : {X : Type 0} (xs : List X) (i : ℕ) (d e : X) → i < length xs → get_or xs i d ≡ get_or xs i e
get_or-any [] i d e l = absurd (omega arith)
get_or-any (x ∷ xs) zero d e l = refl
get_or-any (x ∷ xs) (suc i) d e l = get_or-any xs i d e (omega arith)

-- a loop that writes f x over each element x of xs
pub map_step : {X : Type 0} (f : X → X) (xs ys : List X) (i : ℕ) (v d : X) → i < length xs → length ys ≡ length xs → ys ≡ map f (take i xs) ++ drop i xs → v ≡ f (get_or ys i d) → set ys i v ≡ map f (take (i + 1) xs) ++ drop (i + 1) xs
map_step f xs ys i v d l n e is = ap (set ys i) is ∙ map_over_more f xs ys i (get_or ys i d) l e (get_or-any ys i d (get_or ys i d) (omega (arith, l, n)))

pub get_or-map : {X Y : Type 0} (f : X → Y) (xs : List X) (i : ℕ) (d : X) (e : Y) → f d ≡ e → get_or (map f xs) i e ≡ f (get_or xs i d)
get_or-map f [] i d e h = sym h
get_or-map f (x ∷ xs) zero d e h = refl
get_or-map f (x ∷ xs) (suc i) d e h = get_or-map f xs i d e h

-- an element is pushed
pub pushed_each : {X : Type 0} (xs ys : List X) (v d : X) (n : ℕ) (f : ℕ → X) → ys ≡ xs ++ v ∷ [] → length xs ≡ n → ((g : ℕ) → g < n → get_or xs g d ≡ f g) → v ≡ f n → (length ys ≡ n + 1) × ((g : ℕ) → g < n + 1 → get_or ys g d ≡ f g)
pushed_each xs ys v d n f e count each is =
    let more : suc (length xs) ≡ n + 1 = omega (arith, count) in (
      ap length e ∙ pushed xs v ∙ more,
      λ g m. ap (λ zs. get_or zs g d) e ∙ ⊎_elim
          (λ (l : g < n). get_or_append_left xs (v ∷ []) d g (omega (arith, count)) ∙ each g l)
          (λ (l : n ≤ g). let at : g ≡ length xs = omega (arith, count) in let same : n ≡ g = omega arith in ap (λ (k : ℕ). get_or (xs ++ v ∷ []) k d) at ∙ get_or-append_seam xs v [] d ∙ is ∙ ap f same)
          (cases_lt g n),
    )
  where
    pushed : {X : Type 0} (xs : List X) (v : X) → length (xs ++ v ∷ []) ≡ suc (length xs)
    pushed [] v = refl
    pushed (x ∷ xs) v = ap suc (pushed xs v)
