-- A table of positions, by the numbers of places.
use Rattle.std.specs.Prelude.{◌≡◌, ℕ, List, length, get_or}
use Rattle.pst_order.specs.Places.{rank}

-- the position of a place; the number of places, for one that is not there
abbrev pub position_in : List ℕ → ℕ → ℕ
position_in positions p = get_or positions p (length positions)

-- a table has the position of each place
pub record ArePositions (places positions : List ℕ) : Type 0 where
  pub count : length positions ≡ length places
  pub each : (p : ℕ) → position_in positions p ≡ rank places p
