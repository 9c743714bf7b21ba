-- One more version in the order of runs.
use Rattle.std.proofs.Common.{◌≡◌, ◌≢◌, ℕ, ◌+◌, ◌<◌, ◌≤◌, List, [], ◌∷◌, ◌++◌, length, get_or, refl, sym, ap, subst, ◌∙◌, arith, ◌⊎◌, inl, inr, length-append}
use Rattle.std.specs.List.{Contains}
use Rattle.std.proofs.lemmas.Bool.{cases_eq, cases_lt}
use Rattle.std.proofs.lemmas.List.{get_or_append_left}
use Rattle.std.proofs.lemmas.List.Elements.{Contains-append_left, Contains-push}
use Rattle.pst_image_form.specs.declared.parts.VersionPart.{VersionPart}
use Rattle.pst_image_rules.specs.Versions.{run_of, IsFurther, AreInside, IsOrderOfRuns}
use Rattle.pst_image_rules.specs.Walk.{IsTable, IsOrderTo}

last_is : (xs : List ℕ) (v : ℕ) → get_or (xs ++ v ∷ []) (length xs) 0 ≡ v
last_is [] v = refl
last_is (x ∷ xs) v = last_is xs v

is_new : (vs : List VersionPart) (r : ℕ) (table : List ℕ) → IsTable vs (length vs) table → (v : ℕ) → IsFurther vs v → run_of vs v < r + 1 → (v ≡ get_or table r 0) ⊎ (run_of vs v < r)
is_new vs r table t v fv lt = by (cases_eq (run_of vs v) r)
  where
    by : (run_of vs v ≡ r) ⊎ (run_of vs v ≢ r) → (v ≡ get_or table r 0) ⊎ (run_of vs v < r)
    by (inl is) = inl (sym (t.there v fv.low fv.high) ∙ ap (λ k. get_or table k 0) is)
    by (inr not) = inr (omega arith)

pub none_more : (vs : List VersionPart) (r : ℕ) (table order : List ℕ) → IsTable vs (length vs) table → IsOrderTo vs r order → get_or table r 0 ≡ 0 → IsOrderTo vs (r + 1) order
none_more vs r table order t h none = record {
  each = h.each;
  below = λ k lt. omega (arith, h.below k lt);
  rising = h.rising;
  all = λ v fv lt. by v fv (is_new vs r table t v fv lt);
} where
  by : (v : ℕ) → IsFurther vs v → (v ≡ get_or table r 0) ⊎ (run_of vs v < r) → Contains order v
  by v fv (inl is) = absurd (omega (arith, is, none, fv.low))
  by v fv (inr lt) = h.all v fv lt

pub one_more : (vs : List VersionPart) (r : ℕ) (table order : List ℕ) → IsTable vs (length vs) table → IsOrderTo vs r order → 0 < get_or table r 0
    → IsOrderTo vs (r + 1) (order ++ get_or table r 0 ∷ [])
one_more vs r table order t h some = record {
  each = λ k lt. each_by k (at k lt);
  below = λ k lt. below_by k (at k lt);
  rising = λ k lt. rising_by k (at k (omega arith)) (at (k + 1) lt);
  all = λ v fv lt. all_by v fv (is_new vs r table t v fv lt);
} where
  wider : length (order ++ get_or table r 0 ∷ []) ≡ length order + 1
  wider = length-append order (get_or table r 0 ∷ [])

  known : (get_or table r 0 < length vs) × (run_of vs (get_or table r 0) ≡ r)
  known = t.only r some

  at : (k : ℕ) → k < length (order ++ get_or table r 0 ∷ []) → ((k < length order) × (get_or (order ++ get_or table r 0 ∷ []) k 0 ≡ get_or order k 0))
      ⊎ ((k ≡ length order) × (get_or (order ++ get_or table r 0 ∷ []) k 0 ≡ get_or table r 0))
  at k lt = by (cases_lt k (length order))
    where
      by : (k < length order) ⊎ (length order ≤ k) → ((k < length order) × (get_or (order ++ get_or table r 0 ∷ []) k 0 ≡ get_or order k 0))
          ⊎ ((k ≡ length order) × (get_or (order ++ get_or table r 0 ∷ []) k 0 ≡ get_or table r 0))
      by (inl less) = inl (less, get_or_append_left order (get_or table r 0 ∷ []) 0 k less)
      by (inr le) = (let is : k ≡ length order = omega (arith, wider) in inr (is, ap (λ (n : ℕ). get_or (order ++ get_or table r 0 ∷ []) n 0) is ∙ last_is order (get_or table r 0)))

  each_by : (k : ℕ) → ((k < length order) × (get_or (order ++ get_or table r 0 ∷ []) k 0 ≡ get_or order k 0))
      ⊎ ((k ≡ length order) × (get_or (order ++ get_or table r 0 ∷ []) k 0 ≡ get_or table r 0)) → IsFurther vs (get_or (order ++ get_or table r 0 ∷ []) k 0)
  each_by k (inl a) = subst (IsFurther vs) (sym a.1) (h.each k a.0)
  each_by k (inr b) = subst (IsFurther vs) (sym b.1) (record { low = some; high = known.0 })

  below_by : (k : ℕ) → ((k < length order) × (get_or (order ++ get_or table r 0 ∷ []) k 0 ≡ get_or order k 0))
      ⊎ ((k ≡ length order) × (get_or (order ++ get_or table r 0 ∷ []) k 0 ≡ get_or table r 0))
      → run_of vs (get_or (order ++ get_or table r 0 ∷ []) k 0) < r + 1
  below_by k (inl a) = omega (arith, ap (run_of vs) a.1, h.below k a.0)
  below_by k (inr b) = omega (arith, ap (run_of vs) b.1, known.1)

  rising_by : (k : ℕ) → ((k < length order) × (get_or (order ++ get_or table r 0 ∷ []) k 0 ≡ get_or order k 0))
      ⊎ ((k ≡ length order) × (get_or (order ++ get_or table r 0 ∷ []) k 0 ≡ get_or table r 0))
      → ((k + 1 < length order) × (get_or (order ++ get_or table r 0 ∷ []) (k + 1) 0 ≡ get_or order (k + 1) 0))
      ⊎ ((k + 1 ≡ length order) × (get_or (order ++ get_or table r 0 ∷ []) (k + 1) 0 ≡ get_or table r 0))
      → run_of vs (get_or (order ++ get_or table r 0 ∷ []) k 0) < run_of vs (get_or (order ++ get_or table r 0 ∷ []) (k + 1) 0)
  rising_by k (inl a) (inl b) = omega (arith, ap (run_of vs) a.1, ap (run_of vs) b.1, h.rising k b.0)
  rising_by k (inl a) (inr b) = omega (arith, ap (run_of vs) a.1, ap (run_of vs) b.1, h.below k a.0, known.1)
  rising_by k (inr a) (inl b) = absurd (omega (arith, a.0, b.0))
  rising_by k (inr a) (inr b) = absurd (omega (arith, a.0, b.0))

  all_by : (v : ℕ) → IsFurther vs v → (v ≡ get_or table r 0) ⊎ (run_of vs v < r) → Contains (order ++ get_or table r 0 ∷ []) v
  all_by v fv (inl is) = subst (λ (x : ℕ). Contains (order ++ get_or table r 0 ∷ []) x) (sym is) (Contains-push order (get_or table r 0))
  all_by v fv (inr lt) = Contains-append_left order (get_or table r 0 ∷ []) v (h.all v fv lt)

pub all_in_order : (vs : List VersionPart) (next_run r : ℕ) (order : List ℕ) → AreInside next_run vs → IsOrderTo vs r order → next_run ≤ r → IsOrderOfRuns vs order
all_in_order vs next_run r order inside h le = record { each = h.each; rising = h.rising; all = λ v fv. h.all v fv (omega (arith, (inside v fv).run_high)) }
