-- A node of a list, by its index.
use Rattle.std.specs.Prelude.{◌≡◌, ℕ, ◌<◌, List, length, get_or}
use Rattle.pst_roots.specs.declared.pieces.Spot.{Spot}

-- A node stands in a list at its index.
pub record IsSpotIn (held : List ℕ) (spot : Spot) : Type 0 where
  pub there : spot.index < length held
  pub node : spot.node.0 ≡ get_or held spot.index 0
