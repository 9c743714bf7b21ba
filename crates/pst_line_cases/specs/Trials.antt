-- What the clients of the tests need and do.
use Rattle.std.specs.Prelude.{◌≡◌, ℕ, ◌+◌, ◌<◌, ◌⊎◌, Some, None, length}
use Rattle.pst_base.specs.declared.names.NodeId.{NodeId}
use Rattle.pst_base.specs.declared.names.Kind.TheVariants.{Int}
use Rattle.pst_base.specs.Name.{root_name}
use Rattle.pst_base.specs.Heap.{kind_in}
use Rattle.pst_versions.specs.State.{State}
use Rattle.pst_versions.specs.Client.{HasRoomFor}
use Rattle.pst_line.specs.declared.place.LinePlace.{LinePlace}
use Rattle.pst_line.specs.Store.{Stored}

-- No run is open, a field of the root record holds a number at each place, and so many runs can write one and be published.
pub record IsReady (h : State LinePlace NodeId) (s : Stored) (slot n : ℕ) : Type 0 where
  pub closed : s.opened ≡ None
  pub some : 0 < length h.versions
  pub few : length h.versions + n < 4294967295
  pub all : (p : LinePlace) → p.stamp.0 < length h.versions → h.has p
  pub field : (p : LinePlace) → h.has p → kind_in h.shape (h.heap p) root_name slot ≡ Some Int
  pub room : HasRoomFor h n

-- A run is open, and has written a number there.
pub record HasWritten (old new : State LinePlace NodeId) (slot n : ℕ) (at : LinePlace) : Type 0 where
  pub shape : new.shape ≡ old.shape
  pub place : at.stamp.0 ≡ length old.versions
  pub writable : new.writable at
  pub there : new.has at
  pub versions : new.versions ≡ old.versions
  pub has : (p : LinePlace) → old.has p → new.has p
  pub back : (p : LinePlace) → new.has p → (p ≡ at) ⊎ old.has p
  pub heaps : (p : LinePlace) → old.has p → new.heap p ≡ old.heap p
  pub field : kind_in new.shape (new.heap at) root_name slot ≡ Some Int
  pub room : HasRoomFor new n
