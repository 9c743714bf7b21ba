-- Stretches of a list in pieces, and how they are cut in two.
use Rattle.std.specs.Prelude.{◌≡◌, ℕ, ◌-◌, ◌<◌, ◌≤◌, length, get_or}
use Rattle.pst_roots.specs.declared.pieces.Stretch.{Stretch}
use Rattle.pst_roots.specs.declared.pieces.Halves.{Halves}
use Rattle.pst_roots.specs.declared.pieces.Cut.{Cut}
use Rattle.pst_roots.specs.Pieces.{Held, IsPieceAt}

-- A stretch has a node, its first one falls into its first piece, and the pieces before its end are those that start before it ends.
pub record IsStretch (held : Held) (stretch : Stretch) : Type 0 where
  pub ordered : stretch.low < stretch.high
  pub within : stretch.high ≤ length held.nodes
  pub falls : IsPieceAt held.starts stretch.low stretch.piece
  pub some : stretch.piece < stretch.end
  pub there : stretch.end ≤ length held.starts
  pub early : (k : ℕ) → k < stretch.end → get_or held.starts k 0 < stretch.high
  pub late : (k : ℕ) → stretch.end ≤ k → k < length held.starts → stretch.high ≤ get_or held.starts k 0

-- A stretch is cut inside, with at most so many nodes before the index and from it on, and the index falls into the piece.
pub record IsCut (held : Held) (stretch : Stretch) (most : ℕ) (cut : Cut) : Type 0 where
  pub after : stretch.low < cut.index
  pub before : cut.index < stretch.high
  pub first : cut.index - stretch.low ≤ most
  pub second : stretch.high - cut.index ≤ most
  pub falls : IsPieceAt held.starts cut.index cut.piece

-- Two stretches are the halves of one, with at most so many nodes in each, and a node is the first one of the second half.
pub record AreHalvesOf (held : Held) (stretch : Stretch) (most : ℕ) (halves : Halves) : Type 0 where
  pub first : IsStretch held halves.first
  pub second : IsStretch held halves.second
  pub low : halves.first.low ≡ stretch.low
  pub high : halves.second.high ≡ stretch.high
  pub meet : halves.first.high ≡ halves.second.low
  pub first_most : halves.first.high - halves.first.low ≤ most
  pub second_most : halves.second.high - halves.second.low ≤ most
  pub node : halves.node.0 ≡ get_or held.nodes halves.second.low 0
