-- The place before which the next child of each version must end.
use Rattle.std.proofs.Common.{◌≡◌, ◌≢◌, ℕ, ◌+◌, ◌<◌, ◌≤◌, List, length, get_or, set, sym, ap, ◌∙◌, arith, ◌⊎◌, inl, inr, get_or-set_other, get_or-set_same}
use Rattle.std.proofs.lemmas.List.{length-set}
use Rattle.std.proofs.lemmas.Bool.{cases_eq}
use Rattle.pst_image_form.specs.declared.parts.VersionPart.{VersionPart}
use Rattle.pst_image_rules.specs.Versions.{parent_of, run_of, begin_of, end_of, IsFurther, AreInside}
use Rattle.pst_image_rules.specs.Walk.{IsTable, IsOrdered}

-- the version u of run r stands before its siblings of lesser runs
pub one_of_run : (next_run : ℕ) (vs : List VersionPart) (r u : ℕ) (table bounds : List ℕ) → AreInside next_run vs → IsTable vs (length vs) table
    → IsOrdered vs r bounds → IsFurther vs u → run_of vs u ≡ r
    → end_of vs u < get_or bounds (parent_of vs u) 0 → IsOrdered vs (r + 1) (set bounds (parent_of vs u) (begin_of vs u))
one_of_run next_run vs r u table bounds inside t h fu run_is before = record {
  same = length-set bounds (parent_of vs u) (begin_of vs u) ∙ h.same;
  low = λ v fv lt. low_then v fv lt (cases_eq (parent_of vs v) (parent_of vs u)) (is_new v fv lt);
  apart = λ v w fv fw p lt high. apart_then v w fv fw p lt (is_new w fw high);
  from = λ p lt. from_then p lt (cases_eq p (parent_of vs u));
} where
  there : parent_of vs u < length vs
  there = omega (arith, (inside u fu).older, fu.high)

  wide : parent_of vs u < length bounds
  wide = omega (arith, there, h.same)

  is_new : (v : ℕ) → IsFurther vs v → run_of vs v < r + 1 → (v ≡ u) ⊎ (run_of vs v < r)
  is_new v fv lt = by (cases_eq (run_of vs v) r)
    where
      by : (run_of vs v ≡ r) ⊎ (run_of vs v ≢ r) → (v ≡ u) ⊎ (run_of vs v < r)
      by (inl is) = inl (sym (t.there v fv.low fv.high) ∙ (ap (λ k. get_or table k 0) (is ∙ sym run_is) ∙ t.there u fu.low fu.high))
      by (inr not) = inr (omega arith)

  low_then : (v : ℕ) → IsFurther vs v → run_of vs v < r + 1 → (parent_of vs v ≡ parent_of vs u) ⊎ (parent_of vs v ≢ parent_of vs u) → (v ≡ u)
      ⊎ (run_of vs v < r) → get_or (set bounds (parent_of vs u) (begin_of vs u)) (parent_of vs v) 0 ≤ begin_of vs v
  low_then v fv lt (inl same) (inl is) = omega (
    arith,
    ap (λ k. get_or (set bounds (parent_of vs u) (begin_of vs u)) k 0) same,
    get_or-set_same bounds (parent_of vs u) (begin_of vs u) 0 wide,
    ap (begin_of vs) is,
  )
  low_then v fv lt (inl same) (inr older) = omega (
    arith,
    ap (λ k. get_or (set bounds (parent_of vs u) (begin_of vs u)) k 0) same,
    get_or-set_same bounds (parent_of vs u) (begin_of vs u) 0 wide,
    h.low v fv older,
    ap (λ k. get_or bounds k 0) same,
    before,
    (inside u fu).life,
  )
  low_then v fv lt (inr not) (inl is) = absurd (not (ap (parent_of vs) is))
  low_then v fv lt (inr not) (inr older) = omega (arith, get_or-set_other bounds (parent_of vs u) (parent_of vs v) (begin_of vs u) 0 not, h.low v fv older)

  apart_then : (v w : ℕ) → IsFurther vs v → IsFurther vs w → parent_of vs v ≡ parent_of vs w → run_of vs v < run_of vs w → (w ≡ u) ⊎ (run_of vs w < r) → end_of vs w < begin_of vs v
  apart_then v w fv fw p lt (inl is) =
      let lesser : run_of vs v < r = omega (arith, lt, ap (run_of vs) is, run_is) in
      omega (arith, h.low v fv lesser, ap (λ k. get_or bounds k 0) p, ap (λ k. get_or bounds (parent_of vs k) 0) is, before, ap (end_of vs) is)
  apart_then v w fv fw p lt (inr older) = h.apart v w fv fw p lt older

  later : (p : ℕ) → (get_or bounds p 0 ≡ end_of vs p) ⊎ ((v : ℕ) × IsFurther vs v × (parent_of vs v ≡ p) × (run_of vs v < r)
      × (get_or bounds p 0 ≡ begin_of vs v)) → get_or (set bounds (parent_of vs u) (begin_of vs u)) p 0 ≡ get_or bounds p 0
      → (get_or (set bounds (parent_of vs u) (begin_of vs u)) p 0 ≡ end_of vs p)
      ⊎ ((v : ℕ) × IsFurther vs v × (parent_of vs v ≡ p) × (run_of vs v < r + 1)
      × (get_or (set bounds (parent_of vs u) (begin_of vs u)) p 0 ≡ begin_of vs v))
  later p (inl e) kept = inl (kept ∙ e)
  later p (inr e) kept = inr (e.0, e.1, e.2, omega (arith, e.3), kept ∙ e.4)

  from_then : (p : ℕ) → p < length vs → (p ≡ parent_of vs u) ⊎ (p ≢ parent_of vs u)
      → (get_or (set bounds (parent_of vs u) (begin_of vs u)) p 0 ≡ end_of vs p)
      ⊎ ((v : ℕ) × IsFurther vs v × (parent_of vs v ≡ p) × (run_of vs v < r + 1)
      × (get_or (set bounds (parent_of vs u) (begin_of vs u)) p 0 ≡ begin_of vs v))
  from_then p lt (inl is) = inr (
    u,
    fu,
    sym is,
    omega (arith, run_is),
    ap (λ k. get_or (set bounds (parent_of vs u) (begin_of vs u)) k 0) is
        ∙ get_or-set_same bounds (parent_of vs u) (begin_of vs u) 0 wide,
  )
  from_then p lt (inr not) = later p (h.from p lt) (get_or-set_other bounds (parent_of vs u) p (begin_of vs u) 0 not)
