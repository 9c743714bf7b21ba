-- What a line store means, and what it keeps.
-- Letters: s is a store, p a place, r a reference, i a node, v a version.
use Rattle.std.specs.Prelude.{◌≡◌, ℕ, suc, ◌+◌, ◌-◌, ◌<◌, ◌≤◌, ◌⊎◌, ◌↔◌, ◌++◌, Bool, false, ◌&&◌, ◌||◌, nat_le, nat_lt, List, [], ◌∷◌, length, Option, Some, None, unwrap_or, slice_get}
use Rattle.pst_base.specs.declared.names.NodeId.{NodeId}
use Rattle.pst_base.specs.declared.names.RunNo.{RunNo}
use Rattle.pst_base.specs.declared.names.VersionNo.{VersionNo}
use Rattle.pst_base.specs.declared.names.Counts.{Counts}
use Rattle.pst_base.specs.declared.shape.TypeShape.{TypeShape}
use Rattle.pst_base.specs.Shape.{type_at, IsValid}
use Rattle.pst_base.specs.Heap.{IsWellFormed, initial_heap}
use Rattle.pst_versions.specs.declared.rows.VersionRow.{VersionRow}
use Rattle.pst_versions.specs.State.{State}
use Rattle.pst_line_nodes.specs.Line.{Line, IsLive, IsLine, IsQuiet, heap_at, load, most}
use Rattle.pst_line.specs.declared.place.LinePlace.{LinePlace}
use Rattle.pst_line.specs.declared.place.Stretch.{Stretch}

-- ---- which records are of a version

-- the first node of the record was made in the stretch of some version, from `begin` to `publish` of its run
abbrev pub in_stretch : List Stretch → ℕ → Bool
in_stretch [] i = false
in_stretch (v ∷ vs) i = (nat_le v.from i && nat_lt i v.to) || in_stretch vs i

-- or since the open run began
abbrev pub in_run : Option ℕ → ℕ → Bool
in_run None i = false
in_run (Some b) i = nat_le b i

abbrev pub is_made : List Stretch → Option ℕ → ℕ → Bool
is_made versions opened i = in_stretch versions i || in_run opened i

-- ---- a line store

-- the place with a stamp
abbrev pub place_at : ℕ → LinePlace
place_at n = record { stamp = record { 0 = n } }

-- The record types; the nodes; the stretches of the versions; how many nodes there were when the open run began, if one is
-- open; whether a store of this run answered Memory; and what was made and written.
pub record Stored : Type 0 where
  pub shape : List TypeShape
  pub line : Line
  pub versions : List Stretch
  pub opened : Option ℕ
  pub failed : Bool
  pub counts : Counts

-- the newest stamp: that of the open run, or of the next one
abbrev pub stamp : Stored → ℕ
stamp s = length s.versions

pub record IsRun (s : Stored) (p : LinePlace) : Type 0 where
  pub begun : ℕ
  pub opened : s.opened ≡ Some begun
  pub newest : p.stamp.0 ≡ stamp s

-- a place of the store: a version, or the open run
abbrev pub IsPlace : Stored → LinePlace → Type 0
IsPlace s p = (p.stamp.0 < stamp s) ⊎ IsRun s p

pub record IsWritable (s : Stored) (p : LinePlace) : Type 0 where
  pub run : IsRun s p
  pub whole : s.failed ≡ false

-- the versions as the traits have them: each one comes from the one before it
abbrev pub rows_from : ℕ → List Stretch → List (VersionRow LinePlace)
rows_from v [] = []
rows_from v (r ∷ rs) = record { parent = record { 0 = v - 1 }; run = r.run; place = place_at v } ∷ rows_from (suc v) rs

-- A line has no forks.
abbrev pub state_of : Stored → State LinePlace NodeId
state_of s = record {
  shape = s.shape;
  has = IsPlace s;
  heap = λ p. heap_at s.shape s.line p.stamp.0;
  name = λ i. s.line.name i.0;
  live = λ p i. IsPlace s p × IsLive s.line i.0 p.stamp.0;
  writable = IsWritable s;
  counts = s.counts;
  versions = rows_from 0 s.versions;
  forks = [];
  fork_calls = 0;
  spent = 0;
}

-- ---- what a line store keeps

-- at most one node for each record and for each write
abbrev pub bound : Counts → ℕ
bound c = c.records + c.pointer_writes + c.value_writes

-- At all times, in the middle of a cascade and after want of memory too. The nodes, the stamped values of newest nodes and
-- the pointers that are still to be redirected are within the bound.
pub record IsStored (s : Stored) : Type 0 where
  pub valid : (p : LinePlace) → IsPlace s p → IsValid s.shape
  pub line : IsLine s.shape (stamp s) s.line
  pub homes : (i : ℕ) → i < s.line.count → s.line.home i < s.line.count
  pub own : (i : ℕ) → i < s.line.count → s.line.home (s.line.home i) ≡ s.line.home i
  pub made : (i : ℕ) → i < s.line.count → s.line.made i ≡ is_made s.versions s.opened (s.line.home i)
  pub begun : (b : ℕ) → s.opened ≡ Some b → b ≤ s.line.count
  pub ended : (i : ℕ) → unwrap_or s.opened s.line.count ≤ i → in_stretch s.versions i ≡ false
  pub well_formed : (p : LinePlace) → IsPlace s p → IsWellFormed s.shape (heap_at s.shape s.line p.stamp.0)
  pub bounded : load s.shape s.line (stamp s) ≤ bound s.counts

-- Between two calls, unless a store answered Memory: no pointer is still to be redirected, so that the rule on pointer
-- segments holds, and each node has at most E stamped values.
pub record IsRested (s : Stored) : Type 0 where
  pub quiet : IsQuiet s.line (stamp s)
  pub small : (i : ℕ) → i < s.line.count → s.line.stamped i ≤ most (type_at s.shape (s.line.ty i))

-- While no run is open, the next run's stamp has the newest version's heap.
pub record IsClosed (s : Stored) : Type 0 where
  pub none : s.opened ≡ None
  pub rested : IsRested s
  pub same : (v : ℕ) → suc v ≡ stamp s → heap_at s.shape s.line (stamp s) ≡ heap_at s.shape s.line v

-- ---- the store's own calls

-- a run is open at the place, which is that of the next version, with the newest heap, and nothing else changes
pub record Began (old new : State LinePlace NodeId) (at : LinePlace) : Type 0 where
  pub shape : new.shape ≡ old.shape
  pub place : at.stamp.0 ≡ length old.versions
  pub fresh : old.has at → ⊥
  pub has : (p : LinePlace) → old.has p → new.has p
  pub only : (p : LinePlace) → new.has p → (p ≡ at) ⊎ old.has p
  pub writable : new.writable at
  pub newest : (v : LinePlace) → suc v.stamp.0 ≡ length old.versions → new.heap at ≡ old.heap v
  pub heaps : (p : LinePlace) → old.has p → new.heap p ≡ old.heap p
  pub live : (p : LinePlace) (r : NodeId) → old.live p r → new.live p r
  pub name : (r : NodeId) → new.name r ≡ old.name r
  pub versions : new.versions ≡ old.versions
  pub counts : new.counts ≡ old.counts

-- the open run's place is the next version
pub record LinePublished (old new : State LinePlace NodeId) (run : RunNo) (version : VersionNo) : Type 0 where
  pub shape : new.shape ≡ old.shape
  pub number : version.0 ≡ length old.versions
  pub versions : new.versions ≡ old.versions ++ record { parent = record { 0 = length old.versions - 1 }; run = run; place = place_at (length old.versions) } ∷ []
  pub has : (p : LinePlace) → old.has p → new.has p
  pub back : (p : LinePlace) → new.has p → old.has p
  pub heaps : (p : LinePlace) → old.has p → new.heap p ≡ old.heap p
  pub live : (p : LinePlace) (r : NodeId) → old.live p r → new.live p r
  pub name : (r : NodeId) → new.name r ≡ old.name r
  pub closed : (p : LinePlace) → new.writable p → ⊥
  pub counts : new.counts ≡ old.counts

-- no run is open, and the versions are as they were; what was written and made stays counted
pub record Undone (old new : State LinePlace NodeId) : Type 0 where
  pub shape : new.shape ≡ old.shape
  pub has : (p : LinePlace) → p.stamp.0 < length old.versions → new.has p
  pub back : (p : LinePlace) → new.has p → p.stamp.0 < length old.versions
  pub heaps : (p : LinePlace) → new.has p → new.heap p ≡ old.heap p
  pub live : (p : LinePlace) (r : NodeId) → new.has p → old.live p r → new.live p r
  pub name : (r : NodeId) → new.name r ≡ old.name r
  pub versions : new.versions ≡ old.versions
  pub closed : (p : LinePlace) → new.writable p → ⊥
  pub counts : new.counts ≡ old.counts

-- ---- an empty store, and one as started

pub record IsEmpty (s : Stored) : Type 0 where
  pub versions : s.versions ≡ []
  pub nodes : s.line.count ≡ 0
  pub opened : s.opened ≡ None
  pub failed : s.failed ≡ false
  pub counts : s.counts ≡ record { records = 0; pointer_writes = 0; value_writes = 0 }

pub record IsStarted (shape : List TypeShape) (s : Stored) : Type 0 where
  pub shape_is : s.shape ≡ shape
  pub rows : rows_from 0 s.versions ≡ record { parent = record { 0 = 0 }; run = record { 0 = 0 }; place = place_at 0 } ∷ []
  pub opened : s.opened ≡ None
  pub failed : s.failed ≡ false
  pub heap : heap_at shape s.line 0 ≡ initial_heap shape
  pub counts : s.counts ≡ record { records = 1; pointer_writes = 0; value_writes = 0 }

-- ---- a heap at many places that is a line store

-- What the heap means is what the line store says.
pub record Means (h : State LinePlace NodeId) (s : Stored) : Type 0 where
  pub shape : h.shape ≡ s.shape
  pub has : (p : LinePlace) → h.has p ↔ IsPlace s p
  pub heap : (p : LinePlace) → h.heap p ≡ heap_at s.shape s.line p.stamp.0
  pub name : (r : NodeId) → h.name r ≡ s.line.name r.0
  pub live : (p : LinePlace) (r : NodeId) → h.live p r ↔ (IsPlace s p × IsLive s.line r.0 p.stamp.0)
  pub writable : (p : LinePlace) → h.writable p ↔ IsWritable s p
  pub counts : h.counts ≡ s.counts
  pub versions : h.versions ≡ rows_from 0 s.versions
  pub forks : h.forks ≡ []
  pub fork_calls : h.fork_calls ≡ 0

-- Each version's place is that of its number, and comes from the version before it.
pub record IsChain (h : State LinePlace NodeId) : Type 0 where
  pub place : (v : ℕ) (row : VersionRow LinePlace) → slice_get h.versions v ≡ Some row → row.place ≡ place_at v
  pub parent : (v : ℕ) (row : VersionRow LinePlace) → slice_get h.versions v ≡ Some row → row.parent ≡ record { 0 = v - 1 }
  pub has : (v : ℕ) (row : VersionRow LinePlace) → slice_get h.versions v ≡ Some row → h.has row.place
