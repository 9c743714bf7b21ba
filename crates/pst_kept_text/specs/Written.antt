-- What writes to a file leave of the text in it, which begins at `base`.
use Rattle.std.specs.Prelude.{◌≡◌, ◌⊎◌, ℕ, ◌-◌, ◌^◌, ◌<◌, ◌≤◌, List, [], ◌++◌, length, take, drop, slice_index, IsTrue}
use Rattle.sqlite_disk.specs.declared.Disk.{Ghosts}
use Rattle.sqlite_disk.specs.Disk.{Holds, Torn, Only}
use Rattle.pst_kept_text.specs.Text.{whole, behind, IsTornEnd}
use Rattle.pst_kept_text.specs.declared.place.Place.{Place}

-- the groups that a file stands for
abbrev pub groups_in : ℕ → List ℕ → List ℕ
groups_in base file = whole (drop base file)

pub record IsPlace (place : Place) : Type 0 where
  pub begins : place.base ≤ place.end
  pub has_room : place.end < place.room
  pub small : place.room < 2 ^ 62

-- whole groups up to `end`, and then zeros, one at least, up to `room`
pub record IsAtRest (base end room : ℕ) (file : List ℕ) : Type 0 where
  pub size : length file ≡ room
  pub text : groups_in base file ≡ take (end - base) (drop base file)
  pub zeros : (i : ℕ) → end ≤ i → slice_index file i ≡ 0

-- the same before the text, which has these groups more, and behind them what a crash may leave
pub record Adds (base : ℕ) (old more file : List ℕ) : Type 0 where
  pub front : take base file ≡ take base old
  pub stands : groups_in base file ≡ groups_in base old ++ more
  pub torn_end : IsTornEnd (behind (drop base file))

-- the same as before, or this group more
abbrev pub AddsOrNot : ℕ → List ℕ → List ℕ → List ℕ → Type 0
AddsOrNot base old group file = Adds base old [] file ⊎ Adds base old group file

-- the file can be used, and all of it is on the disk
pub record IsSettled {D : Type 0} (g : Ghosts D) (disk : D) (place : Place) : Type 0 where
  pub usable : IsTrue (g.is_usable disk)
  pub durable : Only (g.seen disk) (g.may_leave disk)
  pub is_place : IsPlace place
  pub at_rest : IsTrue (g.is_clean disk) → IsAtRest place.base place.end place.room (g.seen disk)

-- these bytes are in the file, and all of it is on the disk
pub record IsWritten {D : Type 0} (g : Ghosts D) (at : ℕ) (bytes : List ℕ) (old new : D) : Type 0 where
  pub usable : IsTrue (g.is_usable new)
  pub durable : Only (g.seen new) (g.may_leave new)
  pub torn : Torn at (length bytes) (g.seen old) (g.seen new)
  pub holds : Holds (g.seen new) at bytes

-- what a call that only reads leaves of a disk
pub record OnlyReads {D : Type 0} (g : Ghosts D) (old new : D) : Type 0 where
  pub seen : g.seen new ≡ g.seen old
  pub clean : IsTrue (g.is_clean new) → IsTrue (g.is_clean old)
  pub usable : IsTrue (g.is_usable new)
  pub crash : (c : List ℕ) → g.may_leave new c → g.may_leave old c
