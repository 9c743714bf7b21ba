-- All versions of a history have runs of their own: those of the opening lower ones than those since.
use Rattle.std.proofs.Common.{◌≡◌, ◌⊎◌, inl, inr, ℕ, ◌+◌, ◌<◌, ◌≤◌, List, [], ◌∷◌, ◌++◌, length, ap, arith, zero, suc, slice_get, Some}
use Rattle.pst_history.specs.declared.history.Descent.{Descent}
use Rattle.pst_history.specs.Meaning.{Meaning}
use Rattle.pst_history.specs.History.{History, next_run}
use Rattle.pst_history.specs.Sound.{IsSoundHistory}
use Rattle.pst_history.specs.Laws.{VersionsHaveOwnRuns}
use Rattle.pst_history.proofs.Numbered.{numbered-within}

-- an element of the second of two lists
record IsBehind {A : Type 0} (xs ys : List A) (i : ℕ) (x : A) : Type 0 where
  index : ℕ
  number : i ≡ length xs + index
  found : slice_get ys index ≡ Some x

of_both : {A : Type 0} (xs ys : List A) (i : ℕ) (x : A) → slice_get (xs ++ ys) i ≡ Some x → (slice_get xs i ≡ Some x) ⊎ IsBehind xs ys i x
of_both [] ys i x e = inr (record { index = i; number = omega arith; found = e })
of_both (y ∷ xs) ys zero x e = inl e
of_both (y ∷ xs) ys (suc i) x e = elim (of_both xs ys i x e) [
  | inl q ↦ inl q
  | inr q ↦ inr (record { index = q.index; number = omega (arith, q.number); found = q.found })
]

-- the run of a version since the opening
since-within : (m : Meaning) (h : History) → IsSoundHistory m h → (i : ℕ) (v : Descent) → slice_get h.versions i ≡ Some v → (h.start.next_run ≤ v.run.0) × (v.run.0 < next_run h)
since-within m h sound i v e = let s = sound.versions i v e in numbered-within h.start.next_run h.runs v.run.0 s.run s.found

pub versions_have_own_runs : VersionsHaveOwnRuns
versions_have_own_runs m h sound = record {
  below = λ i v e. elim (of_both h.start.versions h.versions i v e) as (λ _. (0 < v.run.0) × (v.run.0 < next_run h)) [
    | inl q ↦ let w = sound.start.runs i v q in (w.0, omega (arith, w.1))
    | inr q ↦ let w = since-within m h sound q.index v q.found in let low = sound.start.next in (omega (arith, low, w.0), w.1)
  ];
  apart = λ i j v w e f same. elim (of_both h.start.versions h.versions i v e) as (λ _. i ≡ j) [
    | inl p ↦ elim (of_both h.start.versions h.versions j w f) as (λ _. i ≡ j) [
      | inl q ↦ sound.start.apart i j v w p q same
      | inr q ↦ absurd (let a = sound.start.runs i v p in let b = since-within m h sound q.index w q.found in omega (arith, a.1, b.0, ap (λ z. z.0) same))
    ]
    | inr p ↦ elim (of_both h.start.versions h.versions j w f) as (λ _. i ≡ j) [
      | inl q ↦ absurd (let a = sound.start.runs j w q in let b = since-within m h sound p.index v p.found in omega (arith, a.1, b.0, ap (λ z. z.0) same))
      | inr q ↦ let k = sound.apart p.index q.index v w p.found q.found same in omega (arith, p.number, q.number, k)
    ]
  ];
}
