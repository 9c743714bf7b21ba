-- The order of runs has each version after 0, and each once: so it is as long as there are such versions.
use Rattle.std.proofs.Common.{◌≡◌, ℕ, zero, suc, ◌+◌, ◌-◌, ◌<◌, ◌≤◌, List, length, get_or, ap, ◌∙◌, sym, subst, ⊎_elim, arith}
use Rattle.std.specs.Prelude.{nat_eq}
use Rattle.std.specs.List.{Contains, IsDistinct}
use Rattle.std.proofs.lemmas.Bool.{cases_lt, ne_eqb}
use Rattle.std.proofs.lemmas.Bool.Decides.{Decides-eqb}
use Rattle.std.proofs.lemmas.Cmp.{nat_eq_equiv}
use Rattle.std.proofs.lemmas.Grind.{get_or_default_zero}
use Rattle.std.proofs.lemmas.Map.Keys.{IsDistinct-from_apart}
use Rattle.std.proofs.lemmas.Map.Made.{length-le_from_is_member, is_member-Decides}
use Rattle.pst_base.proofs.Below.{get_or-listed, length-listed}
use Rattle.pst_base.specs.Below.{listed}
use Rattle.pst_image_form.specs.declared.parts.VersionPart.{VersionPart}
use Rattle.pst_image_rules.specs.Versions.{run_of, AreInside, IsOrderOfRuns}
use Rattle.pst_image_unpack.specs.Listing.{AreOfVersions}

-- ---- numbers in lists

-- different numbers stand in a list
distinct : (xs : List ℕ) → ((j k : ℕ) → j < length xs → k < length xs → get_or xs j 0 ≡ get_or xs k 0 → j ≡ k) → IsDistinct nat_eq xs
distinct xs once = IsDistinct-from_apart nat_eq xs (λ i j d l m.
    ne_eqb (get_or xs i d) (get_or xs j d) (λ e.
    let a = get_or_default_zero xs i d (omega (arith, l, m)) in
    let b = get_or_default_zero xs j d m in
    let same : i ≡ j = once i j (omega (arith, l, m)) m (sym a ∙ e ∙ b) in
    omega (arith, same, l)))

-- a list of different numbers that all stand in another one is no longer
no_longer : (xs ys : List ℕ) → ((j k : ℕ) → j < length xs → k < length xs → get_or xs j 0 ≡ get_or xs k 0 → j ≡ k) → ((x : ℕ) → Contains xs x → Contains ys x) → length xs ≤ length ys
no_longer xs ys once all =
    length-le_from_is_member nat_eq_equiv xs ys (distinct xs once)
    (λ q e. (is_member-Decides Decides-eqb ys q).1 (all q ((is_member-Decides Decides-eqb xs q).0 e)))

-- the numbers from 1 to n
from_one : (n x : ℕ) → 0 < x → x < suc n → Contains (listed n suc) x
from_one n (suc x) l m = (x, omega (arith, m, length-listed n suc), get_or-listed n suc x (suc x) (omega (arith, m)))
from_one n zero l m = absurd (omega (arith, l))

in_one : (n x : ℕ) → Contains (listed n suc) x → (0 < x) × (x < suc n)
in_one n x c =
    let l : c.0 < n = omega (arith, c.1, length-listed n suc) in
    let same : suc c.0 ≡ x = sym (get_or-listed n suc c.0 x l) ∙ c.2 in
    (omega (arith, same), omega (arith, same, l))

one_once : (n j k : ℕ) → j < length (listed n suc) → k < length (listed n suc) → get_or (listed n suc) j 0 ≡ get_or (listed n suc) k 0 → j ≡ k
one_once n j k l m e =
    let many = length-listed n suc in
    let same : suc j ≡ suc k = sym (get_or-listed n suc j 0 (omega (arith, l, many))) ∙ e ∙ get_or-listed n suc k 0 (omega (arith, m, many)) in
    omega (arith, same)

-- ---- the order of runs

module _ (vs : List VersionPart) (order : List ℕ) (h : IsOrderOfRuns vs order) where
  -- the version in a place of the order
  abbrev pub at : ℕ → ℕ
  at k = get_or order k 0

  -- runs rise along it
  pub rises : (j k : ℕ) → j < k → k < length order → run_of vs (at j) < run_of vs (at k)
  rises j zero l m = absurd (omega (arith, l))
  rises j (suc k) l m =
      let next : k + 1 ≡ suc k = omega arith in
      let step : run_of vs (at k) < run_of vs (at (suc k)) = subst (λ (n : ℕ). run_of vs (at k) < run_of vs (at n)) next (h.rising k (omega (arith, m))) in
      ⊎_elim
      (λ (lt : j < k). let below = rises j k lt (omega (arith, m)) in omega (arith, below, step))
      (λ (le : k ≤ j). let same : k ≡ j = omega (arith, le, l) in subst (λ (n : ℕ). run_of vs (at n) < run_of vs (at (suc k))) same step)
      (cases_lt j k)

  pub once : (j k : ℕ) → j < length order → k < length order → at j ≡ at k → j ≡ k
  once j k l m e =
      let runs : run_of vs (at j) ≡ run_of vs (at k) = ap (run_of vs) e in
      ⊎_elim
      (λ (lt : j < k). absurd (let less = rises j k lt m in omega (arith, less, runs)))
      (λ (le : k ≤ j). ⊎_elim
      (λ (lt : k < j). absurd (let less = rises k j lt l in omega (arith, less, runs)))
      (λ (ge : j ≤ k). omega (arith, le, ge))
      (cases_lt k j))
      (cases_lt j k)

  -- so it can be taken for the order of forks
  pub of_versions : AreOfVersions (length vs) order
  of_versions = record { some = λ k l. (h.each k l).low; below = λ k l. (h.each k l).high; once = once }

  -- there is one for each version after 0
  pub many : 0 < length vs → suc (length order) ≡ length vs
  many some =
      let n : ℕ = length vs - 1 in
      let up : length order ≤ length (listed (length vs - 1) suc) = no_longer order (listed (length vs - 1) suc) once
      (λ x c.
      let f = h.each c.0 c.1 in
      let same : at c.0 ≡ x = sym (get_or_default_zero order c.0 x c.1) ∙ c.2 in
      let low = f.low in
      let high = f.high in
      from_one (length vs - 1) x (omega (arith, low, same)) (omega (arith, high, same, some))) in
      let down : length (listed (length vs - 1) suc) ≤ length order = no_longer (listed (length vs - 1) suc) order (one_once (length vs - 1))
      (λ x c. let b = in_one (length vs - 1) x c in h.all x (record { low = b.0; high = omega (arith, b.1, some) })) in
      omega (arith, up, down, some, length-listed (length vs - 1) suc)

  -- each takes a run of its own, from 1 on
  run_high : (next : ℕ) → AreInside next vs → (k : ℕ) → k < length order → k < run_of vs (at k)
  run_high next inside zero l = (let low = (inside (at 0) (h.each 0 l)).run_low in omega (arith, low))
  run_high next inside (suc k) l =
      let below = run_high next inside k (omega (arith, l)) in
      let less = rises k (suc k) (omega arith) l in
      omega (arith, below, less)

  -- so there are fewer than the next run
  pub few : (next : ℕ) → 1 ≤ next → AreInside next vs → length order < next
  few next one inside = ⊎_elim
      (λ (lt : 0 < length order).
      let l : length order - 1 < length order = omega (arith, lt) in
      let high = run_high next inside (length order - 1) l in
      let below = (inside (at (length order - 1)) (h.each (length order - 1) l)).run_high in
      omega (arith, high, below, lt))
      (λ (le : length order ≤ 0). omega (arith, le, one))
      (cases_lt 0 (length order))
