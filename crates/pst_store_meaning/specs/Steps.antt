-- What each call of a store does, said of what it does to the order list and to the nodes.
-- Letters: s is the store before and t after, or a, b, c and d one after another; p is a place, x and y nodes, f a field, v
-- a number.
use Rattle.std.specs.Prelude.{◌≡◌, ℕ, ◌+◌, ◌<◌, ◌≤◌, suc, ℤ, List, [], ◌∷◌, ◌++◌, length, insert, true, false, map, slice_get, slice_set, Some, None, zero, ◌≢◌, Option}
use Rattle.pst_base.specs.declared.names.VersionNo.{VersionNo}
use Rattle.pst_base.specs.declared.names.RunNo.{RunNo}
use Rattle.pst_base.specs.declared.names.TypeNo.{TypeNo}
use Rattle.pst_base.specs.declared.names.NodeId.{NodeId}
use Rattle.pst_base.specs.declared.names.Name.{Name}
use Rattle.pst_base.specs.declared.names.Counts.{Counts}
use Rattle.pst_base.specs.declared.names.Kind.TheVariants.{Pointer}
use Rattle.pst_base.specs.declared.shape.TypeShape.{TypeShape}
use Rattle.pst_base.specs.Shape.{type_at, field_kind, root_type, IsValid}
use Rattle.pst_base.specs.Name.{root_name}
use Rattle.pst_base.specs.Heap.{type_in, kind_in, value_in, pointer_in, initial_heap}
use Rattle.std.specs.Option.{option_map}
use Rattle.pst_versions.specs.declared.rows.VersionRow.{VersionRow}
use Rattle.pst_versions.specs.Rows.{first_row}
use Rattle.pst_versions.specs.declared.versioned.TheConstants.{MOST_FORKS}
use Rattle.pst_versions.specs.State.{IsPublished, Forked, ForkRefused, Published, IsSound, IsVersioned, IsNewType, IsFresh, Allocated, ValueStored, PointerStored, Unchanged, WritesStay}
use Rattle.pst_order.specs.Places.{rank}
use Rattle.pst_rows.specs.Values.{base_in, IsValue}
use Rattle.pst_mirror.specs.Charts.{AllRows}
use Rattle.pst_mirror.specs.Potential.{potential, HasGrown, stamped_in_all}
use Rattle.pst_store_meaning.specs.declared.place.Place.{Place}
use Rattle.pst_store_meaning.specs.declared.place.Fork.{Fork}
use Rattle.pst_mirror.specs.Contents.{Target}
use Rattle.pst_rows.specs.Contents.{number}
use Rattle.pst_store_meaning.specs.Arena.{Arena, IsIn, IsLive, denoted}
use Rattle.pst_store_meaning.specs.Changes.{default_content, IsNumberSet, IsCleared, IsPointerPut, IsSplit}
use Rattle.pst_store_meaning.specs.Store.{Node, Stored, Noted, arena_of, arena, begin_of, end_of, IsPlace, IsOpen, AreWide, width, load_of, loads, state_of, IsStore, IsRested}

-- ---- what is always so

abbrev pub StoreIsSoundLaw : Type 0
StoreIsSoundLaw = (s : Stored) → IsStore s → IsSound (state_of s)

abbrev pub StoreIsVersionedLaw : Type 0
StoreIsVersionedLaw = (s : Stored) → IsStore s → IsVersioned (state_of s)

-- A record is there exactly over one place of the store, the one at which it was made: at each position from the place's begin up
-- to its end one of the record's nodes lives, and at no other position does one.
abbrev pub LifeLaw : Type 0
LifeLaw = (s : Stored) (i : ℕ) → IsStore s → i < length s.nodes → (p : Place) × IsPlace s p
    × ((n : ℕ) → begin_of s p ≤ n → n < end_of s p → (j : ℕ) × IsIn (arena s) j n × ((arena s).name j ≡ (arena s).name i))
    × ((j n : ℕ) → IsIn (arena s) j n → (arena s).name j ≡ (arena s).name i → (begin_of s p ≤ n) × (n < end_of s p))

-- ---- forks

-- a new place comes in directly behind another one: what `insert_after` of an order does
pub record IsNewPlace (old new : List ℕ) (p z : ℕ) : Type 0 where
  pub there : rank old p < length old
  pub fresh : rank old z ≡ length old
  pub list : new ≡ insert old (suc (rank old p)) z

-- the store with the fork, once its end and then its begin came in behind the begin of the place that it is made from
abbrev pub forked : Stored → Place → Place → List ℕ → Stored
forked s from place places = record s { places = places; forks = s.forks ++ record { place = place; from = from; published = false } ∷ []; calls = s.calls + 1 }

abbrev pub ForkLaw : Type 0
ForkLaw = (s : Stored) (from place : Place) (mid places : List ℕ) → IsStore s → IsPublished (state_of s) from → s.calls < MOST_FORKS → place.number ≡ length s.forks
    → IsNewPlace s.places mid from.begin.0 place.end.0 → IsNewPlace mid places from.begin.0 place.begin.0
    → IsStore (forked s from place places) × Forked (state_of s) from place (state_of (forked s from place places))

-- the call is counted, and at most one place came in, which no fork has
abbrev pub fork_counted : Stored → List ℕ → Stored
fork_counted s places = record s { places = places; calls = s.calls + 1 }

abbrev pub ForkRefusedLaw : Type 0
ForkRefusedLaw = (s : Stored) → IsStore s → s.calls < MOST_FORKS → IsStore (fork_counted s s.places) × ForkRefused (state_of s) (state_of (fork_counted s s.places))

abbrev pub ForkBrokenLaw : Type 0
ForkBrokenLaw = (s : Stored) (from : Place) (z : ℕ) (places : List ℕ) → IsStore s → IsPublished (state_of s) from → s.calls < MOST_FORKS → IsNewPlace s.places places from.begin.0 z
    → IsStore (fork_counted s places) × ForkRefused (state_of s) (state_of (fork_counted s places))

-- ---- versions

-- the store with one fork published as the next version
abbrev pub published : Stored → VersionNo → RunNo → Place → ℕ → Fork → Stored
published s parent run at k f = record s { versions = s.versions ++ record { parent = parent; run = run; place = at } ∷ []; forks = slice_set s.forks k (record f { published = true }) }

abbrev pub PublishLaw : Type 0
PublishLaw = (s : Stored) (parent : VersionNo) (run : RunNo) (at : Place) (k : ℕ) (f : Fork) → IsStore s → option_map (λ (row : VersionRow Place). row.place) (slice_get s.versions parent.0) ≡ Some f.from → slice_get s.forks k ≡ Some f → f.place ≡ at → f.published ≡ false
    → IsStore (published s parent run at k f) × Published (state_of s) parent run at (record { 0 = length s.versions }) (state_of (published s parent run at k f))

-- ---- nodes

-- the store with other nodes
abbrev pub with_nodes : Stored → List Node → Noted → Counts → Stored
with_nodes s nodes noted counts = record s { nodes = nodes; noted = noted; counts = counts }

-- nodes at the store's places
abbrev pub arena_with : Stored → List Node → Arena
arena_with s nodes = arena_of (rank s.places) nodes

abbrev pub HasRows : Stored → List Node → Type 0
HasRows s nodes = AllRows (rank s.places) (length s.places) (map (λ n. n.row) nodes) × AreWide s.shape nodes

-- no node has fewer stamped values, and at most k were added in all
pub record HasGrownBy (shape : List TypeShape) (old new : List Node) (k : ℕ) : Type 0 where
  pub each : HasGrown (map (load_of shape) old) (map (load_of shape) new)
  pub few : stamped_in_all (map (load_of shape) new) ≤ stamped_in_all (map (load_of shape) old) + k

-- a node for a new record at a place, with default fields and nothing stamped
pub record IsNewNode (shape : List TypeShape) (n : Node) (q : Name) (ty : TypeNo) (at : Place) : Type 0 where
  pub name : n.head.name ≡ q
  pub typed : n.head.ty ≡ ty
  pub later : n.head.later ≡ None
  pub lo : n.row.lo.0 ≡ at.begin.0
  pub hi : n.row.hi.0 ≡ at.end.0
  pub row_is : (r : ℕ → ℕ) (places : ℕ) → r at.begin.0 < r at.end.0 → r at.end.0 < places → IsValue r places n.row
  pub wide : length n.row.slots ≡ width (type_at shape ty)
  pub base : (g : ℕ) → base_in n.row g ≡ default_content (type_at shape ty) g
  pub stamped : n.row.stamps ≡ []

abbrev pub one_record : Counts → Counts
one_record c = record c { records = c.records + 1 }

abbrev pub one_number : Counts → Counts
one_number c = record c { value_writes = c.value_writes + 1 }

abbrev pub one_pointer : Counts → Counts
one_pointer c = record c { pointer_writes = c.pointer_writes + 1 }

abbrev pub AllocateLaw : Type 0
AllocateLaw = (s : Stored) (noted : Noted) (at : Place) (ty : TypeNo) (q : Name) (n : Node) → IsStore s → IsOpen s.forks at → IsNewType (state_of s) ty → IsFresh (state_of s) q → IsNewNode s.shape n q ty at
    → let t : Stored = with_nodes s (s.nodes ++ n ∷ []) noted (one_record s.counts) in
    IsStore t × Allocated (state_of s) at ty q (record { 0 = length s.nodes }) (state_of t)

abbrev pub ValueLaw : Type 0
ValueLaw = (s : Stored) (nodes : List Node) (noted : Noted) (at : Place) (x f : ℕ) (v : ℤ) → IsStore s → IsOpen s.forks at → HasRows s nodes → HasGrownBy s.shape s.nodes nodes 2
    → IsNumberSet (arena s) (arena_with s nodes) x f (begin_of s at) v → IsIn (arena s) x (begin_of s at) → f < (type_at s.shape ((arena s).ty x)).values
    → let t : Stored = with_nodes s nodes noted (one_number s.counts) in
    IsStore t × ValueStored (state_of s) at ((arena s).name x) f v (state_of t) × WritesStay (state_of s) (state_of t)

-- null is written
abbrev pub NullLaw : Type 0
NullLaw = (s : Stored) (nodes : List Node) (noted : Noted) (at : Place) (x f : ℕ) (u : TypeNo) → IsStore s → IsOpen s.forks at → HasRows s nodes → HasGrownBy s.shape s.nodes nodes 6
    → IsIn (arena s) x (begin_of s at) → field_kind (type_at s.shape ((arena s).ty x)) f ≡ Some (Pointer u) → IsCleared (arena s) (arena_with s nodes) x f (begin_of s at)
    → let t : Stored = with_nodes s nodes noted (one_pointer s.counts) in
    IsStore t × PointerStored (state_of s) at ((arena s).name x) f None (state_of t) × WritesStay (state_of s) (state_of t)

-- a pointer to the record of node y is written, by the inverse slot i of y
abbrev pub LinkLaw : Type 0
LinkLaw = (s : Stored) (mid nodes : List Node) (noted : Noted) (at : Place) (x f y i : ℕ) → IsStore s → IsOpen s.forks at → HasRows s mid → HasRows s nodes → HasGrownBy s.shape s.nodes nodes 6
    → IsIn (arena s) x (begin_of s at) → field_kind (type_at s.shape ((arena s).ty x)) f ≡ Some (Pointer ((arena s).ty y)) → IsCleared (arena s) (arena_with s mid) x f (begin_of s at) → IsPointerPut (arena_with s mid) (arena_with s nodes) x f y i (begin_of s at)
    → let t : Stored = with_nodes s nodes noted (one_pointer s.counts) in
    IsStore t × PointerStored (state_of s) at ((arena s).name x) f (Some ((arena s).name y)) (state_of t) × WritesStay (state_of s) (state_of t)

-- a split changes no heap and no count, adds a node and lowers the potential
abbrev pub SplitStepLaw : Type 0
SplitStepLaw = (s : Stored) (nodes : List Node) (noted : Noted) (x p : ℕ) → IsStore s → HasRows s nodes → IsSplit (arena s) (arena_with s nodes) x p
    → potential (map (load_of s.shape) nodes) + 1 ≤ potential (loads s)
    → let t : Stored = with_nodes s nodes noted s.counts in
    IsStore t × Unchanged (state_of s) (state_of t) × WritesStay (state_of s) (state_of t)

-- one split: of a node, at a position
pub record IsSplitStep (shape : List TypeShape) (places : List ℕ) (old new : List Node) : Type 0 where
  pub node : ℕ
  pub position : ℕ
  pub rows : AllRows (rank places) (length places) (map (λ n. n.row) new)
  pub wide : AreWide shape new
  pub split : IsSplit (arena_of (rank places) old) (arena_of (rank places) new) node position
  pub falls : potential (map (load_of shape) new) + 1 ≤ potential (map (load_of shape) old)

-- k splits, one after another: what a repair does
abbrev pub AreSplits : List TypeShape → List ℕ → ℕ → List Node → List Node → Type 0
AreSplits shape places zero old new = new ≡ old
AreSplits shape places (suc k) old new = (mid : List Node) × IsSplitStep shape places old mid × AreSplits shape places k mid new

abbrev pub RepairLaw : Type 0
RepairLaw = (s : Stored) (k : ℕ) (nodes : List Node) (noted : Noted) → IsStore s → AreSplits s.shape s.places k s.nodes nodes
    → let t : Stored = with_nodes s nodes noted s.counts in
    IsStore t × Unchanged (state_of s) (state_of t) × WritesStay (state_of s) (state_of t) × (k + potential (loads t) ≤ potential (loads s))

-- ---- one change after another

abbrev pub UnchangedLaw : Type 0
UnchangedLaw = (a b c : Stored) → Unchanged (state_of a) (state_of b) → Unchanged (state_of b) (state_of c) → Unchanged (state_of a) (state_of c)

-- a number is written between two repairs
abbrev pub ValueAroundLaw : Type 0
ValueAroundLaw = (a b c d : Stored) (at : Place) (n : Name) (f : ℕ) (v : ℤ) → IsPlace a at → Unchanged (state_of a) (state_of b) → ValueStored (state_of b) at n f v (state_of c) → Unchanged (state_of c) (state_of d) → ValueStored (state_of a) at n f v (state_of d)

abbrev pub PointerAroundLaw : Type 0
PointerAroundLaw = (a b c d : Stored) (at : Place) (n : Name) (f : ℕ) (p : Option Name) → IsPlace a at → Unchanged (state_of a) (state_of b) → PointerStored (state_of b) at n f p (state_of c) → Unchanged (state_of c) (state_of d) → PointerStored (state_of a) at n f p (state_of d)

-- a record is made after a repair
abbrev pub AllocatedAfterLaw : Type 0
AllocatedAfterLaw = (a b c : Stored) (at : Place) (ty : TypeNo) (n : Name) (r : NodeId) → IsPlace a at → Unchanged (state_of a) (state_of b) → WritesStay (state_of a) (state_of b) → Allocated (state_of b) at ty n r (state_of c) → Allocated (state_of a) at ty n r (state_of c)

-- ---- what is read

-- the kind of a field, by the node that lives there
abbrev pub KindLaw : Type 0
KindLaw = (s : Stored) (p : Place) (x f : ℕ) → IsStore s → IsPlace s p → IsIn (arena s) x (begin_of s p)
    → (type_in ((state_of s).heap p) ((arena s).name x) ≡ Some ((arena s).ty x)) × (kind_in s.shape ((state_of s).heap p) ((arena s).name x) f ≡ field_kind (type_at s.shape ((arena s).ty x)) f)

abbrev pub ValueReadLaw : Type 0
ValueReadLaw = (s : Stored) (p : Place) (x f : ℕ) → IsStore s → IsPlace s p → IsIn (arena s) x (begin_of s p) → f < (type_at s.shape ((arena s).ty x)).values
    → value_in ((state_of s).heap p) ((arena s).name x) f ≡ number ((arena s).chart.holds x f (begin_of s p))

-- a pointer that is read is live where it is read
abbrev pub PointerReadLaw : Type 0
PointerReadLaw = (s : Stored) (p : Place) (x f : ℕ) (t : TypeNo) → IsStore s → IsPlace s p → IsIn (arena s) x (begin_of s p) → field_kind (type_at s.shape ((arena s).ty x)) f ≡ Some (Pointer t)
    → (pointer_in ((state_of s).heap p) ((arena s).name x) f ≡ denoted (arena s).name ((arena s).chart.holds x f (begin_of s p)))
    × ((y : ℕ) → (arena s).chart.holds x f (begin_of s p) ≡ Target y → IsLive (arena s) y (begin_of s p))

-- the root record's first node is live at each place
abbrev pub RootLaw : Type 0
RootLaw = (s : Stored) (p : Place) → IsStore s → IsPlace s p → IsLive (arena s) 0 (begin_of s p) × ((arena s).name 0 ≡ root_name)

-- ---- the start

-- a store with version 0, which has the root record alone
abbrev pub started : List TypeShape → Place → Node → Stored
started shape start root = record {
  shape = shape;
  places = start.begin.0 ∷ start.end.0 ∷ [];
  nodes = root ∷ [];
  noted = record { queue = []; roots = 0 ∷ []; seen = 1 };
  start = start;
  versions = first_row start ∷ [];
  forks = [];
  calls = 0;
  relics = [];
  spent = 0;
  counts = record { records = 1; pointer_writes = 0; value_writes = 0 };
}

abbrev pub StartLaw : Type 0
StartLaw = (shape : List TypeShape) (start : Place) (root : Node) → IsValid shape → start.begin.0 ≢ start.end.0 → IsNewNode shape root root_name root_type start
    → let s : Stored = started shape start root in
    IsStore s × IsRested s × ((state_of s).heap start ≡ initial_heap shape)
