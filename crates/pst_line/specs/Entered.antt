-- What the steps of a store's calls do to what it holds.
use Rattle.std.specs.Prelude.{◌≡◌, ℕ, ◌<◌, ◌⊎◌, true, List, length, Option, Some, ℤ}
use Rattle.pst_base.specs.declared.names.Name.{Name}
use Rattle.pst_base.specs.declared.names.NodeId.{NodeId}
use Rattle.pst_base.specs.Shape.{type_at}
use Rattle.pst_base.specs.declared.names.Kind.{Kind}
use Rattle.pst_base.specs.Heap.{IsFull, kind_in}
use Rattle.pst_versions.specs.State.{ValueStored, PointerStored, WritesStay}
use Rattle.pst_line_nodes.specs.Line.{Line, IsQuiet, most}
use Rattle.pst_line_nodes.specs.Seen.{Seen}
use Rattle.pst_line_nodes.specs.Nodes.{line_of, AreKept}
use Rattle.pst_line_nodes.specs.Carried.{IsCarried}
use Rattle.pst_line.specs.declared.place.LinePlace.{LinePlace}
use Rattle.pst_line.specs.declared.place.Undo.{Undo}
use Rattle.pst_line.specs.Store.{is_made, state_of, place_at}
use Rattle.pst_line.specs.Undoing.{IsNewestOf}
use Rattle.pst_line.specs.Noted.{with_entry}
use Rattle.pst_line.specs.Held.{Held, IsRootAt, line_in, stored_of}

-- other nodes, as a line of the same records
abbrev pub line_with : Held → List Seen → Line
line_with h nodes = line_of (is_made h.versions h.opened) nodes

-- the place of the open run
abbrev pub newest_place : Held → LinePlace
newest_place h = place_at (length h.versions)

-- the record of node r has the field, as the open run sees it
abbrev pub HasField : Held → NodeId → (f : ℕ) → Type 0
HasField h r f = let s = state_of (stored_of h) in (k : Kind) × (kind_in h.shape (s.heap (newest_place h)) (s.name r) f ≡ Some k)

-- what a write of a field finds in a node
abbrev pub entry_at : Held → List Seen → (x f : ℕ) → Undo
entry_at h nodes x f = record { node = record { 0 = (line_with h nodes).home x }; slot = record { 0 = f }; content = (line_with h nodes).holds x f (length h.versions) }

-- Some nodes were copied so that x, the newest node of the record of node r, has room for a write of a field; all pointers to
-- copied nodes are redirected.
pub record HasMadeRoom (old : Held) (nodes : List Seen) (r f x : ℕ) : Type 0 where
  pub newest : IsNewestOf (line_with old nodes) (length old.versions) r x
  pub room : ((line_with old nodes).since x f ≡ length old.versions) ⊎ ((line_with old nodes).stamped x < most (type_at old.shape ((line_with old nodes).ty x)))
  pub carried : IsCarried old.shape (length old.versions) (line_in old) (line_with old nodes)
  pub quiet : IsQuiet (line_with old nodes) (length old.versions)
  pub kept : AreKept old.shape (length old.versions) nodes

-- and what the field holds is entered, unless the field is noted already, and the root's node is found anew; the store has failed until the field is written
pub record HasEntered (old new : Held) (r f x : ℕ) : Type 0 where
  pub nodes : List Seen
  pub room : HasMadeRoom old nodes r f x
  pub root : NodeId
  pub rooted : IsRootAt nodes (length old.versions) root
  pub is : new ≡ record old { nodes = nodes; undo = with_entry (entry_at old nodes x f) old.undo; failed = true; root = root }

-- ---- numbers and pointers, by references

-- a number is written
abbrev pub IsNumberStored : Held → LinePlace → NodeId → ℕ → ℤ → Held → Type 0
IsNumberStored old at r f v new = ValueStored (state_of (stored_of old)) at ((state_of (stored_of old)).name r) f v (state_of (stored_of new))

-- a pointer is written
abbrev pub IsPointerStored : Held → LinePlace → NodeId → ℕ → Option Name → Held → Type 0
IsPointerStored old at r f p new = PointerStored (state_of (stored_of old)) at ((state_of (stored_of old)).name r) f p (state_of (stored_of new))

-- whether a place can be written stays
abbrev pub Stays : Held → Held → Type 0
Stays old new = WritesStay (state_of (stored_of old)) (state_of (stored_of new))

-- a record has no room for a pointer from a field of another one
abbrev pub HasNoRoom : Held → LinePlace → NodeId → ℕ → NodeId → Type 0
HasNoRoom h at r f q = IsFull h.shape ((state_of (stored_of h)).heap at) ((state_of (stored_of h)).name r) f (Some ((state_of (stored_of h)).name q))

-- a pointer to a record that has room for it is written
abbrev pub IsLinked : Held → LinePlace → NodeId → ℕ → NodeId → Held → Type 0
IsLinked old at r f q new = IsPointerStored old at r f (Some ((state_of (stored_of old)).name q)) new × Stays old new × ¬ (HasNoRoom old at r f q)
