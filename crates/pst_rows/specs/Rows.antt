-- What a row means: what each slot holds at each position, and where its segments begin and end. A position is the rank
-- of a place in the list of places, and r gives the rank of a place.
use Rattle.std.specs.Prelude.{ℕ, ◌+◌, ◌-◌, ◌<◌, ◌≤◌, max, Bool, ◌==◌, nat_lt, List, length, get_or, count_by, Option}
use Rattle.pst_order.specs.Places.{rank}
use Rattle.pst_rows.specs.declared.content.Content.{Content}
use Rattle.pst_rows.specs.declared.content.Content.TheVariants.{Null}
use Rattle.pst_rows.specs.declared.content.Stamp.{Stamp}
use Rattle.pst_rows.specs.declared.row.Row.{Row}
use Rattle.pst_rows.specs.Timeline.{in_force, is_edge}
use Rattle.pst_rows.specs.Values.{RowValue, IsValue, room_for, stamp_at, no_slot}

-- what is stamped in a row for a slot at a position
abbrev pub stamps_of : (ℕ → ℕ) → Row → ℕ → ℕ → Option Content
stamps_of r row slot n = stamp_at r row.cells.stamps slot n

-- for a stamp that is not there
abbrev pub no_stamp : Stamp
no_stamp = record { slot = record { 0 = 0 }; place = record { 0 = 0 }; content = Null }

-- how many slots a row has
abbrev pub width_of : Row → ℕ
width_of row = length row.cells.slots

-- what a slot holds from the begin of the life on
abbrev pub base_of : Row → ℕ → Content
base_of row slot = (get_or row.cells.slots slot no_slot).content

-- what a slot holds at a position
abbrev pub content_at : (ℕ → ℕ) → Row → ℕ → ℕ → Content
content_at r row slot n = in_force (stamps_of r row slot) (base_of row slot) n

-- whether a segment of a slot begins or ends at a position
abbrev pub row_edge : (ℕ → ℕ) → Row → ℕ → ℕ → Bool
row_edge r row slot n = is_edge (stamps_of r row slot) (r row.lo.0) (r row.hi.0) n

-- how many stamped values a row has
abbrev pub stamped_count : Row → ℕ
stamped_count row = length row.cells.stamps

-- how many stamped values a slot of a row has
abbrev pub stamped_in : Row → ℕ → ℕ
stamped_in row slot = count_by (λ e. e.slot.0 == slot) row.cells.stamps

-- how many stamped values lie before a position
abbrev pub stamped_before : (ℕ → ℕ) → Row → ℕ → ℕ
stamped_before r row n = count_by (λ e. nat_lt (r e.place.0) n) row.cells.stamps

-- how many stamped values lie after a position
abbrev pub stamped_after : (ℕ → ℕ) → Row → ℕ → ℕ
stamped_after r row n = count_by (λ e. nat_lt n (r e.place.0)) row.cells.stamps

-- for how many stamped values a row has room in all
abbrev pub room_of : Row → ℕ
room_of row = row.cells.capacity

-- how many stamped values more a row can take without memory
abbrev pub spare_of : Row → ℕ
spare_of row = row.cells.capacity - length row.cells.stamps

-- a row in which room was made for so many stamped values more: it has what it had, or no more than what is made for as many as it then
-- is to hold
abbrev pub HasMadeRoom : (old new : Row) (count : ℕ) → Type 0
HasMadeRoom old new count = room_of new ≤ max (room_of old) (room_for (width_of old) (stamped_count old + count))

-- of the halves of a row that was split the left one has no more room than it had, and the right one no more than is made for as many as
-- it held
pub record HasSplitRoom (old left right : Row) : Type 0 where
  pub left_room : room_of left ≤ room_of old
  pub right_room : room_of right ≤ room_for (width_of old) (stamped_count old)

-- what a row shows
abbrev pub shown : Row → RowValue
shown row = record { lo = row.lo; hi = row.hi; slots = row.cells.slots; stamps = row.cells.stamps }

-- a row over a list of places
abbrev pub IsRow : (ℕ → ℕ) → ℕ → Row → Type 0
IsRow r places row = IsValue r places (shown row)

-- a row over the places of an order
abbrev pub IsRowIn : List ℕ → Row → Type 0
IsRowIn places row = IsRow (rank places) (length places) row

-- a place lies in the life of a row
pub record IsInLife (places : List ℕ) (row : Row) (place : ℕ) : Type 0 where
  pub after : rank places row.lo.0 ≤ rank places place
  pub before : rank places place < rank places row.hi.0
