-- What a change of one row does to a list of nodes.
use Rattle.std.specs.Prelude.{◌≡◌, ◌≢◌, ℕ, ◌+◌, ◌<◌, ◌≤◌, ◌&&◌, ◌==◌, nat_lt, nat_le, List, length, if◌then◌else◌}
use Rattle.pst_rows.specs.declared.content.Content.{Content}
use Rattle.pst_rows.specs.declared.row.Row.{Row}
use Rattle.pst_order.specs.Places.{rank}
use Rattle.pst_mirror.specs.Mirror.{Chart, IsLinked, IsUnlinked}
use Rattle.pst_mirror.specs.Segments.{IsSegmentOf}
use Rattle.pst_mirror.specs.Contents.{Target}
use Rattle.pst_mirror.specs.Charts.{HasOneEdgeMore, IsMovedApart, IsSlotSet}
use Rattle.pst_mirror.specs.Lives.{IsSplitLife}
use Rattle.pst_rows.specs.Changes.{missing}
use Rattle.pst_rows.specs.Rows.{width_of, stamped_count, stamped_before, stamped_after, shown}
use Rattle.pst_nodes.specs.declared.node.Node.{Node}
use Rattle.pst_nodes.specs.Arena.{HasRoom, row_at, frames_of, frame_at, link_at, lo_at, hi_at, chart, lives}

-- At most k values more are stamped in one row, in the room that it had. Nothing else changes but what this row holds.
pub record IsTouched (k : ℕ) (old new : List Node) (x : ℕ) : Type 0 where
  pub count : length new ≡ length old
  pub frames : frames_of new ≡ frames_of old
  pub links : (i : ℕ) → link_at new i ≡ link_at old i
  pub lo : (i : ℕ) → lo_at new i ≡ lo_at old i
  pub hi : (i : ℕ) → hi_at new i ≡ hi_at old i
  pub width : (i : ℕ) (d : Row) → width_of (row_at new i d) ≡ width_of (row_at old i d)
  pub others : (i : ℕ) (d : Row) → i ≢ x → row_at new i d ≡ row_at old i d
  pub stamped : (d : Row) → stamped_count (row_at new x d) ≤ stamped_count (row_at old x d) + k
  pub room : (d : Row) (j : ℕ) → HasRoom (row_at old x d) (j + k) → HasRoom (row_at new x d) j
  pub spare : (d : Row) (j t : ℕ) → stamped_count (row_at new x d) ≡ stamped_count (row_at old x d) + t → HasRoom (row_at old x d) (j + t) → HasRoom (row_at new x d) j

-- How many values setting a slot over one position stamps: one where no segment begins at the position, and one where none begins or ends directly behind it.
abbrev pub added : Chart → ℕ → ℕ → ℕ → ℕ
added w x slot n = missing (w.edge x slot n) + missing (w.edge x slot (n + 1))

-- so many values more are stamped in the row
abbrev pub HasStampedOver : List ℕ → List Node → List Node → ℕ → ℕ → ℕ → Type 0
HasStampedOver qs old new x slot n = (d : Row) → stamped_count (row_at new x d) ≡ stamped_count (row_at old x d) + added (chart qs old) x slot n

-- Two slots set over one position, one after the other: what is stamped in each row, in the room that it had.
pub record AreTouched (qs : List ℕ) (old new : List Node) (x f y s n : ℕ) : Type 0 where
  pub mid : List Node
  pub first : IsTouched 2 old mid x
  pub second : IsTouched 2 mid new y
  pub first_stamped : (d : Row) → stamped_count (row_at mid x d) ≡ stamped_count (row_at old x d) + added (chart qs old) x f n
  pub second_stamped : (d : Row) → stamped_count (row_at new y d) ≡ stamped_count (row_at mid y d) + added (chart qs old) y s n

-- the same nodes, some rows in other allocations
pub record AreSameNodes (old new : List Node) : Type 0 where
  pub count : length new ≡ length old
  pub frames : frames_of new ≡ frames_of old
  pub links : (i : ℕ) → link_at new i ≡ link_at old i
  pub rows : (i : ℕ) (d : Row) → shown (row_at new i d) ≡ shown (row_at old i d)
  pub room : (i : ℕ) (d : Row) (k : ℕ) → HasRoom (row_at old i d) k → HasRoom (row_at new i d) k

-- one slot of one node holds another content over the segment from a to e
pub record IsReplacedOver (old new : Chart) (x slot a e : ℕ) (c : Content) : Type 0 where
  pub holds : (i g m : ℕ) → new.holds i g m ≡ (if (i == x && g == slot) && (nat_le a m && nat_lt m e) then c else old.holds i g m)
  pub edges : (i g m : ℕ) → new.edge i g m ≡ old.edge i g m

-- The segment of a slot that covers a position holds another content over its whole length, wherever in it the position is.
pub record IsSegmentReplaced (qs : List ℕ) (old new : List Node) (x slot n : ℕ) (c : Content) : Type 0 where
  pub low : ℕ
  pub high : ℕ
  pub segment : IsSegmentOf (chart qs old) x slot low high
  pub begun : low ≤ n
  pub not_over : n < high
  pub replaced : IsReplacedOver (chart qs old) (chart qs new) x slot low high c

-- The row of the node to which a field leads has room for two values, or for four where it is the row of the field too.
abbrev pub HasRoomForEntry : List ℕ → List Node → ℕ → ℕ → ℕ → Type 0
HasRoomForEntry qs ns x f n = (y : ℕ) (d : Row) → (chart qs ns).holds x f n ≡ Target y → HasRoom (row_at ns y d) (if y == x then 4 else 2)

-- one slot of one node gets a content over one position
abbrev pub HasSlotSet : List ℕ → List Node → List Node → (x slot n : ℕ) → Content → Type 0
HasSlotSet qs old new x slot n c = IsSlotSet (chart qs old) (chart qs new) x slot n c

-- a segment of one slot begins at a position, with the content that the slot held there
abbrev pub IsSegmentBegun : List ℕ → List Node → List Node → (x slot n : ℕ) → Type 0
IsSegmentBegun qs old new x slot n = HasOneEdgeMore (chart qs old) (chart qs new) x slot n

-- a pointer to node y is put into the field f of node x, and its entry into a slot of y, over one position
abbrev pub IsFieldLinked : List ℕ → List Node → List Node → (x f y slot n : ℕ) → Type 0
IsFieldLinked qs old new x f y slot n = IsLinked (chart qs old) (chart qs new) x f y slot n

-- the pointer in a field and its entry are taken away over one position
abbrev pub IsFieldUnlinked : List ℕ → List Node → List Node → ℕ → ℕ → ℕ → Type 0
IsFieldUnlinked qs old new x f n = (y : ℕ) → (chart qs old).holds x f n ≡ Target y → (s : ℕ) × IsUnlinked (chart qs old) (chart qs new) x f y s n × AreTouched qs old new x f y s n

-- node x is cut in two at place s, and the right part is the last node
pub record IsCutInTwo (qs : List ℕ) (old new : List Node) (x z s : ℕ) : Type 0 where
  pub there : x < length old
  pub is_last : z ≡ length old
  pub apart : IsMovedApart (chart qs old) (chart qs new) x z (rank qs s)
  pub life : IsSplitLife (lives qs old) (lives qs new) x (rank qs s)
  pub types : (i : ℕ) → i < length old → (frame_at new i).ty ≡ (frame_at old i).ty
  pub new_type : (frame_at new z).ty ≡ (frame_at old x).ty
  pub links : (i : ℕ) → link_at new i ≡ link_at old i
  pub left : (d : Row) → stamped_count (row_at new x d) ≡ stamped_before (rank qs) (row_at old x d) (rank qs s)
  pub right : (d : Row) → stamped_count (row_at new z d) ≡ stamped_after (rank qs) (row_at old x d) (rank qs s)
  pub left_width : (d : Row) → width_of (row_at new x d) ≡ width_of (row_at old x d)
  pub right_width : (d : Row) → width_of (row_at new z d) ≡ width_of (row_at old x d)
  pub others : (i : ℕ) (d : Row) → i ≢ x → i ≢ z → row_at new i d ≡ row_at old i d
