-- Places in the order of a list, cut at the first one that is after a place.
use Rattle.std.specs.Prelude.{◌≡◌, ℕ, ◌+◌, ◌*◌, ◌^◌, ◌<◌, ◌≤◌, List, length, get_or}
use Rattle.pst_order.specs.Places.{rank}

-- The places from one index to another stand in the list, in its order.
pub record AreRising (list places : List ℕ) (from to : ℕ) : Type 0 where
  pub within : to ≤ length places
  pub each : (i : ℕ) → from ≤ i → i < to → rank list (get_or places i 0) < length list
  pub rising : (i j : ℕ) → from ≤ i → i < j → j < to → rank list (get_or places i 0) < rank list (get_or places j 0)

-- Of the places from one index to another, those before k are not after a place, and the others are.
pub record IsPartition (list places : List ℕ) (from to at k : ℕ) : Type 0 where
  pub low : from ≤ k
  pub high : k ≤ to
  pub early : (i : ℕ) → from ≤ i → i < k → rank list (get_or places i 0) ≤ rank list at
  pub late : (i : ℕ) → k ≤ i → i < to → rank list at < rank list (get_or places i 0)

-- At most s more, where 2 ^ s is at most 2 * n + 1.
pub record IsFewMore (n old new : ℕ) : Type 0 where
  pub more : ℕ
  pub count : new ≡ old + more
  pub few : 2 ^ more ≤ 2 * n + 1
