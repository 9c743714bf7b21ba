-- The mirror rule said by whole segments, and that it is the rule by positions.
use Rattle.std.specs.Prelude.{◌≡◌, ◌≢◌, ℕ, ◌<◌, ◌≤◌, true, false}
use Rattle.pst_mirror.specs.Mirror.{Chart, IsMirrored, IsSteady}
use Rattle.pst_rows.specs.declared.content.Content.TheVariants.{Null}
use Rattle.pst_mirror.specs.Contents.{Target, From}

-- from a to c, without c: one segment of the slot
pub record IsSegmentOf (w : Chart) (x f a c : ℕ) : Type 0 where
  pub begins : w.edge x f a ≡ true
  pub ends : w.edge x f c ≡ true
  pub some : a < c
  pub whole : (n : ℕ) → a < n → n < c → w.edge x f n ≡ false

-- what is held is held in a segment
abbrev pub IsTiled : Chart → Type 0
IsTiled w = (x f n : ℕ) → w.holds x f n ≢ Null → (a : ℕ) × (c : ℕ) × (a ≤ n) × (n < c) × IsSegmentOf w x f a c

-- the mirror rule on segments
pub record AreSegmentsMirrored (w : Chart) : Type 0 where
  -- each pointer segment has exactly one entry segment with its ends
  pub pointers : (x f a c y : ℕ) → IsSegmentOf w x f a c → w.holds x f a ≡ Target y →
      (s : ℕ) × IsSegmentOf w y s a c × (w.holds y s a ≡ From x f) × ((t : ℕ) → IsSegmentOf w y t a c → w.holds y t a ≡ From x f → t ≡ s)
  -- each entry segment has its pointer segment
  pub entries : (y s a c x f : ℕ) → IsSegmentOf w y s a c → w.holds y s a ≡ From x f → IsSegmentOf w x f a c × (w.holds x f a ≡ Target y)

abbrev pub SegmentsFromPositions : Type 0
SegmentsFromPositions = (w : Chart) → IsSteady w → IsMirrored w → AreSegmentsMirrored w

abbrev pub PositionsFromSegments : Type 0
PositionsFromSegments = (w : Chart) → IsSteady w → IsTiled w → AreSegmentsMirrored w → IsMirrored w
