-- What a contract sees of the slots and stamps of a row.
use Rattle.std.specs.Prelude.{◌≡◌, ℕ, ◌+◌, ◌-◌, ◌^◌, ◌<◌, ◌≤◌, List, ◌++◌, length, map, take, drop, get_or}
use Rattle.pst_rows.specs.declared.content.Content.TheVariants.{Null}
use Rattle.pst_rows.specs.Slots.{SlotValue}
use Rattle.pst_rows.specs.Stamps.{StampValue}
use Rattle.pst_rows.specs.Values.{no_slot}

-- the slots, the stamps, and for how many stamps there is room
pub record CellsValue : Type 0 where
  pub slots : List SlotValue
  pub stamps : List StampValue
  pub capacity : ℕ

-- a slot as it is kept: where its stamps begin stands in the place of a place
abbrev pub slot_kept : StampValue → SlotValue
slot_kept s = record { content = s.content; start = s.place.0 }

-- for a cell that is not there
abbrev pub no_cell : StampValue
no_cell = record { slot = record { 0 = 0 }; place = record { 0 = 0 }; content = Null }

-- how many slots stand in the head
abbrev pub head_size : ℕ
head_size = 3

-- so many slots, the first in the head and the others in front of the list, and behind them the stamps
abbrev pub shown_cells : (width : ℕ) (head list : List StampValue) (capacity : ℕ) → CellsValue
shown_cells width head list capacity = record {
  slots = map slot_kept (take width (head ++ list));
  stamps = drop (width - head_size) list;
  capacity = capacity - (width - head_size);
}

-- the head is whole, the list has the other slots, so many, and what stands behind the slots of the head begins behind all their
-- stamps: a cell of the head, or the end of a full head, which is where the stamps of the next slot begin
pub record AreSound (width behind end : ℕ) (head list : List StampValue) (capacity : ℕ) : Type 0 where
  pub whole : length head ≡ head_size
  pub there : width ≤ head_size + length list
  pub most : capacity ≤ 2 ^ 32 - 256
  pub rest : behind ≡ width - head_size
  pub ends : width < head_size → (s : StampValue) → (get_or head width s).place.0 ≡ length list
  pub full : width ≡ head_size → end ≡ length list
  pub next : head_size < width → (s : StampValue) → (get_or list 0 s).place.0 ≡ end

-- the head with the end marked behind so many slots, with how many stamps there are
pub record IsMarked (old new : List StampValue) (width count : ℕ) : Type 0 where
  pub whole : length new ≡ length old
  pub end : width < head_size → (s : StampValue) → (get_or new width s).place.0 ≡ count
  pub slots : take width new ≡ take width old

-- where the stamps of a slot begin, and where they end: where those of the next slot begin, or behind all
pub record IsPart (cells : CellsValue) (slot start stop : ℕ) : Type 0 where
  pub begin : start ≡ (get_or cells.slots slot no_slot).start
  pub next : slot + 1 < length cells.slots → stop ≡ (get_or cells.slots (slot + 1) no_slot).start
  pub last : slot + 1 ≡ length cells.slots → stop ≡ length cells.stamps

-- a slot has no stamps: they end where they begin
abbrev pub IsBare : CellsValue → ℕ → Type 0
IsBare cells slot = IsPart cells slot (get_or cells.slots slot no_slot).start (get_or cells.slots slot no_slot).start
