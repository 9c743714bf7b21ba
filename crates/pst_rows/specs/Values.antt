-- What a row shows: all of it but its room and where it lies in memory. What a row means is said of what it shows.
use Rattle.std.specs.Prelude.{◌≡◌, ◌≢◌, ℕ, ◌+◌, ◌*◌, ◌<◌, ◌≤◌, Bool, ◌&&◌, ◌==◌, nat_lt, List, [], ◌∷◌, length, get_or, count_by, Option, Some, None, if◌then◌else◌, ⊤}
use Rattle.pst_order.specs.declared.order.Pos.{Pos}
use Rattle.pst_rows.specs.declared.content.Content.{Content}
use Rattle.pst_rows.specs.declared.content.Content.TheVariants.{Null}
use Rattle.pst_rows.specs.declared.content.Stamp.{Stamp}
use Rattle.pst_rows.specs.Slots.{SlotValue as Slot}
use Rattle.pst_rows.specs.Timeline.{in_force, is_edge, IsSegment, IsSetOver, IsCut, IsReplaced, IsSplitOff}

-- where the life begins and ends, what each slot holds at first and where its stamps begin, and what is stamped
pub record RowValue : Type 0 where
  pub lo : Pos
  pub hi : Pos
  pub slots : List Slot
  pub stamps : List Stamp

-- what is stamped for a slot at a position
abbrev pub stamp_at : (ℕ → ℕ) → List Stamp → ℕ → ℕ → Option Content
stamp_at r [] slot n = None
stamp_at r (e ∷ es) slot n = if (e.slot.0 == slot) && (r e.place.0 == n) then Some e.content else stamp_at r es slot n

-- for a slot that is not there
abbrev pub no_slot : Slot
no_slot = record { content = Null; start = 0 }

-- for how many stamped values a row with so many slots makes room at most, where it is to hold so many: twice as many, one for each slot,
-- and one that stands in the row itself
abbrev pub room_for : (slots held : ℕ) → ℕ
room_for slots held = 2 * held + slots + 1

-- what is stamped in a row for a slot at a position
abbrev pub stamps_in : (ℕ → ℕ) → RowValue → ℕ → ℕ → Option Content
stamps_in r row slot n = stamp_at r row.stamps slot n

-- how many slots a row has
abbrev pub width_in : RowValue → ℕ
width_in row = length row.slots

-- what a slot holds from the begin of the life on
abbrev pub base_in : RowValue → ℕ → Content
base_in row slot = (get_or row.slots slot no_slot).content

-- what a slot holds at a position
abbrev pub content_in : (ℕ → ℕ) → RowValue → ℕ → ℕ → Content
content_in r row slot n = in_force (stamps_in r row slot) (base_in row slot) n

-- whether a segment of a slot begins or ends at a position
abbrev pub edge_in : (ℕ → ℕ) → RowValue → ℕ → ℕ → Bool
edge_in r row slot n = is_edge (stamps_in r row slot) (r row.lo.0) (r row.hi.0) n

-- how many stamped values a row has
abbrev pub count_in : RowValue → ℕ
count_in row = length row.stamps

-- how many stamped values lie before a position
abbrev pub before_in : (ℕ → ℕ) → RowValue → ℕ → ℕ
before_in r row n = count_by (λ e. nat_lt (r e.place.0) n) row.stamps

-- how many stamped values lie after a position
abbrev pub after_in : (ℕ → ℕ) → RowValue → ℕ → ℕ
after_in r row n = count_by (λ e. nat_lt n (r e.place.0)) row.stamps

-- a stamp stands before another one: in an earlier slot, or at an earlier place of the same slot
pub record IsBefore (r : ℕ → ℕ) (a b : Stamp) : Type 0 where
  pub slots : a.slot.0 ≤ b.slot.0
  pub places : a.slot.0 ≡ b.slot.0 → r a.place.0 < r b.place.0

-- a stamp stands before all of these
abbrev pub IsBeforeAll : (ℕ → ℕ) → Stamp → List Stamp → Type 0
IsBeforeAll r a [] = ⊤
IsBeforeAll r a (e ∷ es) = IsBefore r a e × IsBeforeAll r a es

-- the stamps are of slots that are there, lie strictly inside the life, and stand in the order of slot and then place
abbrev pub AreStamps : (ℕ → ℕ) → ℕ → ℕ → ℕ → List Stamp → Type 0
AreStamps r lo hi width [] = ⊤
AreStamps r lo hi width (e ∷ es) = (e.slot.0 < width) × (lo < r e.place.0) × (r e.place.0 < hi) × IsBeforeAll r e es × AreStamps r lo hi width es

-- how many stamps are of earlier slots
abbrev pub before_slot : List Stamp → ℕ → ℕ
before_slot stamps slot = count_by (λ e. nat_lt e.slot.0 slot) stamps

-- each slot knows where its stamps begin
abbrev pub AreStarts : List Slot → List Stamp → Type 0
AreStarts slots stamps = (slot : ℕ) → slot < length slots → (get_or slots slot no_slot).start ≡ before_slot stamps slot

-- what a row over a list of places shows
pub record IsValue (r : ℕ → ℕ) (places : ℕ) (row : RowValue) : Type 0 where
  pub life : r row.lo.0 < r row.hi.0
  pub there : r row.hi.0 < places
  pub narrow : length row.slots ≤ 256
  pub stamps : AreStamps r (r row.lo.0) (r row.hi.0) (length row.slots) row.stamps
  pub starts : AreStarts row.slots row.stamps

-- from a to c, without c: the segment of a slot that covers a position
pub record IsValueSegment (r : ℕ → ℕ) (row : RowValue) (slot n a c : ℕ) : Type 0 where
  pub segment : IsSegment (stamps_in r row slot) (r row.lo.0) (r row.hi.0) a c
  pub begun : a ≤ n
  pub ended : n < c
  pub high : c ≤ r row.hi.0

-- a row with one slot set over one position, the others as they were
pub record IsValueSet (r : ℕ → ℕ) (old new : RowValue) (f b : ℕ) (c : Content) : Type 0 where
  pub lo : new.lo ≡ old.lo
  pub hi : new.hi ≡ old.hi
  pub width : width_in new ≡ width_in old
  pub slot : IsSetOver (stamps_in r old f) (stamps_in r new f) (base_in old f) (base_in new f) (r old.lo.0) (r old.hi.0) b c
  pub stamps : (g n : ℕ) → g ≢ f → stamps_in r new g n ≡ stamps_in r old g n
  pub bases : (g : ℕ) → g ≢ f → base_in new g ≡ base_in old g

-- a row with one more stamp, in one slot
pub record IsValueCut (r : ℕ → ℕ) (old new : RowValue) (f t : ℕ) (c : Content) : Type 0 where
  pub lo : new.lo ≡ old.lo
  pub hi : new.hi ≡ old.hi
  pub width : width_in new ≡ width_in old
  pub slot : IsCut (stamps_in r old f) (stamps_in r new f) (r old.lo.0) (r old.hi.0) t c
  pub stamps : (g n : ℕ) → g ≢ f → stamps_in r new g n ≡ stamps_in r old g n
  pub bases : (g : ℕ) → base_in new g ≡ base_in old g

-- a row with another content in one segment
pub record IsValueReplaced (r : ℕ → ℕ) (old new : RowValue) (f t : ℕ) (c : Content) : Type 0 where
  pub lo : new.lo ≡ old.lo
  pub hi : new.hi ≡ old.hi
  pub width : width_in new ≡ width_in old
  pub slot : IsReplaced (stamps_in r old f) (stamps_in r new f) (base_in old f) (base_in new f) (r old.lo.0) (r old.hi.0) t c
  pub stamps : (g n : ℕ) → g ≢ f → stamps_in r new g n ≡ stamps_in r old g n
  pub bases : (g : ℕ) → g ≢ f → base_in new g ≡ base_in old g

-- a place where a row may be split: at most half of its stamped values lie before it, and at most half after it
pub record IsValueSplitStamp (r : ℕ → ℕ) (row : RowValue) (n : ℕ) : Type 0 where
  pub low : r row.lo.0 < n
  pub high : n < r row.hi.0
  pub few_before : 2 * before_in r row n ≤ count_in row
  pub few_after : 2 * after_in r row n ≤ count_in row
  pub stamped_there : before_in r row n + after_in r row n < count_in row

-- a row is cut in two, with the place s between
pub record IsValueSplit (r : ℕ → ℕ) (old left right : RowValue) (s : Pos) : Type 0 where
  pub left_lo : left.lo ≡ old.lo
  pub left_hi : left.hi ≡ s
  pub right_lo : right.lo ≡ s
  pub right_hi : right.hi ≡ old.hi
  pub left_width : width_in left ≡ width_in old
  pub right_width : width_in right ≡ width_in old
  pub slots : (g : ℕ) → IsSplitOff (stamps_in r old g) (stamps_in r left g) (stamps_in r right g) (base_in old g) (base_in left g) (base_in right g) (r old.lo.0) (r old.hi.0) (r s.0)
  pub left_count : count_in left ≡ before_in r old (r s.0)
  pub right_count : count_in right ≡ after_in r old (r s.0)
