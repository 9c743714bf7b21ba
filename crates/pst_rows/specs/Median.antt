-- A number in the middle of a list.
use Rattle.std.specs.Prelude.{ℕ, ◌+◌, ◌*◌, ◌<◌, ◌≤◌, List, length, get_or, count_by, nat_lt}

-- how many of the numbers are below one
abbrev pub below : ℕ → List ℕ → ℕ
below s xs = count_by (λ x. nat_lt x s) xs

-- how many of the numbers are above one
abbrev pub above : ℕ → List ℕ → ℕ
above s xs = count_by (λ x. nat_lt s x) xs

-- at most half of the numbers are below this one of them, and at most half are above it
pub record IsMiddle (xs : List ℕ) (i : ℕ) : Type 0 where
  pub there : i < length xs
  pub few_below : 2 * below (get_or xs i 0) xs ≤ length xs
  pub few_above : 2 * above (get_or xs i 0) xs ≤ length xs

-- some number of each list that is not empty is such a one
abbrev pub MiddleLaw : Type 0
MiddleLaw = (xs : List ℕ) → 0 < length xs → (i : ℕ) × IsMiddle xs i

-- what is below and what is above is less than all
abbrev pub MiddleCountsLaw : Type 0
MiddleCountsLaw = (xs : List ℕ) (i : ℕ) → i < length xs → below (get_or xs i 0) xs + above (get_or xs i 0) xs < length xs
