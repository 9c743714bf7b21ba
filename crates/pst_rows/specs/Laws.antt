-- What holds of rows, for those who build on the definitions.
use Rattle.std.specs.Prelude.{◌≡◌, ◌≢◌, ℕ, suc, ◌+◌, ◌<◌, ◌≤◌, ◌==◌, ◌||◌, false, List, length, if◌then◌else◌}
use Rattle.pst_order.specs.Places.{rank, IsInsertedAfter}
use Rattle.pst_order.specs.declared.order.Pos.{Pos}
use Rattle.pst_rows.specs.declared.content.Content.{Content}
use Rattle.pst_rows.specs.declared.row.Row.{Row}
use Rattle.pst_rows.specs.Timeline.{AreInside, start_of}
use Rattle.pst_rows.specs.Rows.{stamps_of, content_at, row_edge, IsRow, IsRowIn}
use Rattle.pst_rows.specs.Changes.{IsRowSet, IsRowCut, IsRowReplaced, IsRowSplit}

-- the stamps of each slot lie strictly inside the life
abbrev pub RowsAreInside : Type 0
RowsAreInside = (r : ℕ → ℕ) (places : ℕ) (row : Row) → IsRow r places row → (slot : ℕ) → AreInside (stamps_of r row slot) (r row.lo.0) (r row.hi.0)

-- what a slot holds changes at edges alone
abbrev pub RowsAreSteady : Type 0
RowsAreSteady = (r : ℕ → ℕ) (row : Row) (slot n : ℕ) → row_edge r row slot (suc n) ≡ false → content_at r row slot (suc n) ≡ content_at r row slot n

-- where a place comes in, each row over the places stays one
abbrev pub InsertionsKeepRows : Type 0
InsertionsKeepRows = (old new : List ℕ) (p z : ℕ) → rank old p < length old → IsInsertedAfter old new p z → (row : Row) → IsRowIn old row → IsRowIn new row

-- the other slots hold what they held, in the segments that they had
pub record AreOthersKept (r : ℕ → ℕ) (old new : Row) (f : ℕ) : Type 0 where
  pub reads : (g n : ℕ) → g ≢ f → content_at r new g n ≡ content_at r old g n
  pub edges : (g n : ℕ) → g ≢ f → row_edge r new g n ≡ row_edge r old g n

-- a slot set over one position holds the content there and what it held elsewhere, and that position is a segment
pub record HoldsOver (r : ℕ → ℕ) (old new : Row) (f b : ℕ) (c : Content) : Type 0 where
  pub reads : (n : ℕ) → r old.lo.0 ≤ n → n < r old.hi.0 → content_at r new f n ≡ (if n == b then c else content_at r old f n)
  pub edges : (n : ℕ) → row_edge r new f n ≡ ((n == b || n == b + 1) || row_edge r old f n)
  pub others : AreOthersKept r old new f

-- so it is after each set
abbrev pub SetsHold : Type 0
SetsHold = (r : ℕ → ℕ) (old new : Row) (f b : ℕ) (c : Content) → IsRowSet r old new f b c → HoldsOver r old new f b c

-- a segment cut at a position: the content is held from there to the old end, and one edge more is there
pub record HoldsFrom (r : ℕ → ℕ) (old new : Row) (f t : ℕ) (c : Content) : Type 0 where
  pub reads : (n : ℕ) → content_at r new f n ≡ (if start_of (stamps_of r new f) (r old.lo.0) n == t then c else content_at r old f n)
  pub edges : (n : ℕ) → row_edge r new f n ≡ (n == t || row_edge r old f n)
  pub others : AreOthersKept r old new f

-- so it is after each cut
abbrev pub CutsHold : Type 0
CutsHold = (r : ℕ → ℕ) (old new : Row) (f t : ℕ) (c : Content) → IsRowCut r old new f t c → HoldsFrom r old new f t c

-- the segment that covers a position holds another content
pub record HoldsThroughout (r : ℕ → ℕ) (old new : Row) (f t : ℕ) (c : Content) : Type 0 where
  pub reads : (n : ℕ) → content_at r new f n ≡ (if start_of (stamps_of r old f) (r old.lo.0) n == start_of (stamps_of r old f) (r old.lo.0) t then c else content_at r old f n)
  pub edges : (n : ℕ) → row_edge r new f n ≡ row_edge r old f n
  pub others : AreOthersKept r old new f

-- so it is after each replacement
abbrev pub ReplacementsHold : Type 0
ReplacementsHold = (r : ℕ → ℕ) (old new : Row) (f t : ℕ) (c : Content) → IsRowReplaced r old new f t c → HoldsThroughout r old new f t c

-- the halves hold what the row held, in its segments; those that cross the place are cut there
pub record AreHalves (r : ℕ → ℕ) (old left right : Row) (s : Pos) : Type 0 where
  pub left_reads : (g n : ℕ) → n < r s.0 → content_at r left g n ≡ content_at r old g n
  pub left_edges : (g n : ℕ) → n < r s.0 → row_edge r left g n ≡ row_edge r old g n
  pub right_reads : (g n : ℕ) → r s.0 ≤ n → content_at r right g n ≡ content_at r old g n
  pub right_edges : (g n : ℕ) → r s.0 ≤ n → row_edge r right g n ≡ (n == r s.0 || row_edge r old g n)

-- so it is after each split
abbrev pub SplitsHold : Type 0
SplitsHold = (r : ℕ → ℕ) (old left right : Row) (s : Pos) → IsRowSplit r old left right s → AreHalves r old left right s
