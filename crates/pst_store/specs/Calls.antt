-- What a store keeps between two calls, and what its calls do.
use Rattle.std.specs.Prelude.{◌≡◌, ◌⊎◌, ℕ, ◌≤◌, ◌^◌, ℤ, List, ◌∷◌, [], Option, Some, Result, Ok, Err}
use Rattle.pst_base.specs.declared.names.Counts.{Counts}
use Rattle.pst_base.specs.declared.names.NodeId.{NodeId}
use Rattle.pst_base.specs.declared.names.Name.{Name}
use Rattle.pst_base.specs.declared.names.Kind.{Kind}
use Rattle.pst_base.specs.declared.shape.TypeShape.{TypeShape}
use Rattle.pst_base.specs.Heap.{initial_heap, kind_in, IsFull}
use Rattle.pst_versions.specs.Rows.{first_row}
use Rattle.pst_versions.specs.declared.rows.VersionRow.{VersionRow}
use Rattle.pst_versions.specs.declared.heap_at.StoreFault.{StoreFault}
use Rattle.pst_versions.specs.declared.heap_at.StoreFault.TheVariants.{InDegree, Memory}
use Rattle.pst_order.specs.Places.{IsInsertedAfter}
use Rattle.pst_versions.specs.State.{ValueStored, PointerStored, Unchanged, WritesStay}
use Rattle.pst_store_meaning.specs.declared.place.Place.{Place}
use Rattle.pst_store_meaning.specs.declared.place.Fork.{Fork}
use Rattle.pst_store_meaning.specs.Store.{Node, Noted, Stored, arena, AreAllHeld, AreHeld, IsRested, IsStore, state_of}
use Rattle.pst_store_meaning.specs.Steps.{HasGrownBy}
use Rattle.pst_store_arena.specs.Calls.{AreWaiting, IsRepaired}

-- a store of these parts
abbrev pub stored_of : (shape : List TypeShape) (places : List ℕ) (nodes : List Node) (noted : Noted) (start : Place) (versions : List (VersionRow Place))
    (forks : List Fork) (calls : ℕ) (relics : List Place) (spent : ℕ) (counts : Counts) → Stored
stored_of shape places nodes noted start versions forks calls relics spent counts = record {
  shape = shape;
  places = places;
  nodes = nodes;
  noted = noted;
  start = start;
  versions = versions;
  forks = forks;
  calls = calls;
  relics = relics;
  spent = spent;
  counts = counts;
}

-- each count is at most 2^60, so that the sums of the bound on nodes fit 64 bits
pub record AreCounted (counts : Counts) : Type 0 where
  pub records : counts.records ≤ 2 ^ 60
  pub pointer_writes : counts.pointer_writes ≤ 2 ^ 60
  pub value_writes : counts.value_writes ≤ 2 ^ 60

-- What is so of a store between two calls, also after want of memory: the nodes over their capacity wait, and no others, and
-- the root index holds the nodes of the root record among those that were looked at.
pub record IsKept (s : Stored) : Type 0 where
  pub store : IsStore s
  pub waiting : AreWaiting s.shape s.nodes s.noted.queue
  pub held : AreHeld (arena s) s.noted
  pub counted : AreCounted s.counts

-- a store with version 0, which has the root record alone, and nothing that waits
pub record IsStarted (shape : List TypeShape) (s : Stored) : Type 0 where
  pub shape_is : s.shape ≡ shape
  pub rested : IsRested s
  pub versions : s.versions ≡ first_row s.start ∷ []
  pub forks : s.forks ≡ []
  pub calls : s.calls ≡ 0
  pub relics : s.relics ≡ []
  pub spent : s.spent ≡ 0
  pub counts : s.counts ≡ record { records = 1; pointer_writes = 0; value_writes = 0 }
  pub heap : (state_of s).heap s.start ≡ initial_heap shape

-- ---- the calls, by references

-- the kind of a field of a record
abbrev pub kind_at : Stored → Place → NodeId → ℕ → Option Kind
kind_at s at r f = kind_in s.shape ((state_of s).heap at) ((state_of s).name r) f

-- a number is written
abbrev pub IsNumberStored : Stored → Place → NodeId → ℕ → ℤ → Stored → Type 0
IsNumberStored old at r f v new = ValueStored (state_of old) at ((state_of old).name r) f v (state_of new)

-- a pointer is written
abbrev pub IsPointerStored : Stored → Place → NodeId → ℕ → Option Name → Stored → Type 0
IsPointerStored old at r f p new = PointerStored (state_of old) at ((state_of old).name r) f p (state_of new)

abbrev pub Stays : Stored → Stored → Type 0
Stays old new = WritesStay (state_of old) (state_of new)

abbrev pub Same : Stored → Stored → Type 0
Same old new = Unchanged (state_of old) (state_of new)

-- a record has no room for a pointer from a field of another one
abbrev pub HasNoRoom : Stored → Place → NodeId → ℕ → NodeId → Type 0
HasNoRoom s at r f q = IsFull s.shape ((state_of s).heap at) ((state_of s).name r) f (Some ((state_of s).name q))

-- a pointer to a record that has room for it is written
abbrev pub IsLinked : Stored → Place → NodeId → ℕ → NodeId → Stored → Type 0
IsLinked old at r f q new = IsPointerStored old at r f (Some ((state_of old).name q)) new × Stays old new × ¬ (HasNoRoom old at r f q)

-- a pointer to a record that has no room for it is refused
abbrev pub IsRefused : Stored → Place → NodeId → ℕ → NodeId → Stored → Type 0
IsRefused old at r f q new = HasNoRoom old at r f q × Same old new × Stays old new

-- some nodes were split, one after another, and nothing else was done
pub record IsSplitUp (old new : Stored) : Type 0 where
  pub shape : new.shape ≡ old.shape
  pub places : new.places ≡ old.places
  pub repaired : IsRepaired old.shape old.places old.nodes new.nodes

-- no node came, none has fewer stamped values, and at most k were added in all
pub record IsStamped (k : ℕ) (old new : Stored) : Type 0 where
  pub shape : new.shape ≡ old.shape
  pub places : new.places ≡ old.places
  pub grown : HasGrownBy old.shape old.nodes new.nodes k

-- a write: nodes that waited were split, at most k values were stamped, and nodes that waited then were split
pub record StampsAtMost (k : ℕ) (old new : Stored) : Type 0 where
  pub ready : Stored
  pub written : Stored
  pub before : IsSplitUp old ready
  pub stamped : IsStamped k ready written
  pub after : IsSplitUp written new

-- every node of the root record is held by the root index
abbrev pub HoldsRoots : Stored → Type 0
HoldsRoots s = AreAllHeld (arena s) s.noted

-- every node of the root record is held after a pointer write, but where memory ran out
abbrev pub HoldsAfter : Result (Unit {0}) StoreFault → Stored → Type 0
HoldsAfter (Ok u) s = HoldsRoots s
HoldsAfter (Err InDegree) s = HoldsRoots s
HoldsAfter (Err Memory) s = Unit {0}

-- nothing waits after a pointer write, but where memory ran out
abbrev pub RestsAfter : Result (Unit {0}) StoreFault → List ℕ → Type 0
RestsAfter (Ok u) queue = queue ≡ []
RestsAfter (Err InDegree) queue = queue ≡ []
RestsAfter (Err Memory) queue = Unit {0}

-- a place with number n came in: its end and then its begin, each directly behind another entry of the order
pub record IsPlaceIn (old new : List ℕ) (p n : ℕ) (place : Place) : Type 0 where
  pub number : place.number ≡ n
  pub mid : List ℕ
  pub end_in : IsInsertedAfter old mid p place.end.0
  pub begin_in : IsInsertedAfter mid new p place.begin.0

-- one entry at most came in directly behind another one
abbrev pub IsOneInAtMost : (old new : List ℕ) → ℕ → Type 0
IsOneInAtMost old new p = (new ≡ old) ⊎ ((z : ℕ) × IsInsertedAfter old new p z)
