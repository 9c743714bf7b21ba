-- What a store means that may not be started yet: an empty store has no place, no version and no node.
use Rattle.std.specs.Prelude.{◌≡◌, ℕ, ◌+◌, ◌≤◌, List, [], length, map, slice_get, Option, Some, None}
use Rattle.std.specs.FinMap.{empty}
use Rattle.pst_base.specs.declared.names.NodeId.{NodeId}
use Rattle.pst_base.specs.Name.{root_name}
use Rattle.pst_base.specs.Shape.{type_at}
use Rattle.pst_mirror.specs.Potential.{capacity, potential}
use Rattle.pst_versions.specs.State.{State}
use Rattle.pst_store_meaning.specs.declared.place.Place.{Place}
use Rattle.pst_store_meaning.specs.Store.{Node, Stored, bound, load_of, state_of}
use Rattle.pst_store.specs.Calls.{StampsAtMost}

abbrev pub state_in : Option Stored → State Place NodeId
state_in None = record {
  shape = [];
  has = λ p. ⊥;
  heap = λ p. empty;
  name = λ i. root_name;
  live = λ p i. ⊥;
  writable = λ p. ⊥;
  counts = record { records = 0; pointer_writes = 0; value_writes = 0 };
  versions = [];
  forks = [];
  fork_calls = 0;
  spent = 0;
}
state_in (Some s) = state_of s

abbrev pub nodes_in : Option Stored → List Node
nodes_in None = []
nodes_in (Some s) = s.nodes

-- the nodes that wait to be split
abbrev pub queue_in : Option Stored → List ℕ
queue_in None = []
queue_in (Some s) = s.noted.queue

-- a write of so many stamped values at most, and the splits around it; a store that is not started has none
abbrev pub Stamps : ℕ → (old new : Option Stored) → Type 0
Stamps k None new = new ≡ None
Stamps k (Some old) None = ⊥
Stamps k (Some old) (Some new) = StampsAtMost k old new

-- by how many stamped values in all the nodes exceed half their capacity
abbrev pub potential_in : Option Stored → ℕ
potential_in o = potential (map (load_of (state_in o).shape) (nodes_in o))

-- no more nodes than what was made and written pays for
pub record IsBounded (o : Option Stored) : Type 0 where
  pub bounded : length (nodes_in o) + potential_in o ≤ bound (state_in o).counts

-- no node has more stamped values than its type's capacity
pub record IsSmall (o : Option Stored) : Type 0 where
  pub small : (i : ℕ) (n : Node) → slice_get (nodes_in o) i ≡ Some n → length n.row.stamps ≤ capacity (type_at (state_in o).shape n.head.ty)
