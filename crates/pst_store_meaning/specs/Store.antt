-- What a store of fat nodes means, and what it keeps.
-- Letters: s is a store, w its arena, p a place, f a fork, v a version, i, j and k numbers.
use Rattle.std.specs.Prelude.{◌≡◌, ℕ, zero, suc, ◌+◌, ◌*◌, ◌<◌, ◌≤◌, ◌⊎◌, List, [], ◌∷◌, length, Some, None, slice_get, get_or, map, Contains, true, false, if◌then◌else◌}
use Rattle.std.specs.Option.{option_map}
use Rattle.pst_base.specs.declared.names.NodeId.{NodeId}
use Rattle.pst_base.specs.declared.names.Counts.{Counts}
use Rattle.pst_base.specs.declared.shape.TypeShape.{TypeShape}
use Rattle.pst_base.specs.Name.{root_name}
use Rattle.pst_base.specs.Shape.{type_at, root_type, element_count, IsValid}
use Rattle.pst_versions.specs.Rows.{IsVersionTree, first_row}
use Rattle.pst_versions.specs.declared.versioned.TheConstants.{MOST_FORKS}
use Rattle.pst_versions.specs.State.{State, ForkRow}
use Rattle.pst_versions.specs.declared.rows.VersionRow.{VersionRow}
use Rattle.pst_rows.specs.Values.{RowValue}
use Rattle.pst_order.specs.Places.{rank}
use Rattle.pst_mirror.specs.Charts.{chart_of, AllRows}
use Rattle.pst_mirror.specs.Potential.{Load, potential, half, capacity}
use Rattle.pst_store_meaning.specs.declared.place.Place.{Place}
use Rattle.pst_store_meaning.specs.declared.place.Fork.{Fork}
use Rattle.pst_store_meaning.specs.declared.place.Head.{Head}
use Rattle.pst_store_meaning.specs.Arena.{Arena, IsLive, IsArena, heap_at}

-- ---- nodes

pub record Node : Type 0 where
  pub head : Head
  pub row : RowValue

-- what the node with a number has, or something else where there is none
abbrev pub of_node : {A : Type 0} → (Node → A) → A → List Node → ℕ → A
of_node f other [] i = other
of_node f other (n ∷ ns) zero = f n
of_node f other (n ∷ ns) (suc i) = of_node f other ns i

-- the nodes by number and position, where r gives the position of each place
abbrev pub arena_of : (ℕ → ℕ) → List Node → Arena
arena_of r nodes = record {
  count = length nodes;
  name = of_node (λ n. n.head.name) root_name nodes;
  ty = of_node (λ n. n.head.ty) root_type nodes;
  lo = of_node (λ n. r n.row.lo.0) 0 nodes;
  hi = of_node (λ n. r n.row.hi.0) 0 nodes;
  later = of_node (λ n. option_map (λ i. i.0) n.head.later) None nodes;
  stamped = of_node (λ n. length n.row.stamps) 0 nodes;
  chart = chart_of r (map (λ n. n.row) nodes);
}

-- ---- a store

-- What is noted beside the nodes: which of them wait to be split; which nodes of the root record the root index holds, in the
-- order of where they begin; and how many nodes were looked at for it.
pub record Noted : Type 0 where
  pub queue : List ℕ
  pub roots : List ℕ
  pub seen : ℕ

-- The record types; the order list; the nodes, and what is noted beside them; the place of version 0, the versions and
-- the forks; how often a fork was asked for; and what was made and written. Where the store was taken up from an image, beside
-- that: over which places the records live that it had, and how many runs took a number that have no fork in it.
pub record Stored : Type 0 where
  pub shape : List TypeShape
  pub places : List ℕ
  pub nodes : List Node
  pub noted : Noted
  pub start : Place
  pub versions : List (VersionRow Place)
  pub forks : List Fork
  pub calls : ℕ
  pub relics : List Place
  pub spent : ℕ
  pub counts : Counts

-- where a place is read, and where it ends
abbrev pub begin_of : Stored → Place → ℕ
begin_of s p = rank s.places p.begin.0

abbrev pub end_of : Stored → Place → ℕ
end_of s p = rank s.places p.end.0

abbrev pub arena : Stored → Arena
arena s = arena_of (rank s.places) s.nodes

-- the place of a fork, and of one that is not published
pub record IsForked (forks : List Fork) (p : Place) : Type 0 where
  pub index : ℕ
  pub fork : Fork
  pub at : slice_get forks index ≡ Some fork
  pub place : fork.place ≡ p

pub record IsOpen (forks : List Fork) (p : Place) : Type 0 where
  pub forked : IsForked forks p
  pub unpublished : forked.fork.published ≡ false

-- the place over which a record lives that an image had
pub record IsRelic (relics : List Place) (p : Place) : Type 0 where
  pub index : ℕ
  pub at : slice_get relics index ≡ Some p

-- a place of the store: that of version 0, of a fork, or of a record that an image had. A place of the order list that a refused
-- fork left is none.
abbrev pub IsPlace : Stored → Place → Type 0
IsPlace s p = (p ≡ s.start) ⊎ (IsForked s.forks p ⊎ IsRelic s.relics p)

-- ---- what a store means

abbrev pub as_fork : Fork → ForkRow Place
as_fork f = record { place = f.place; from = f.from; published = f.published }

-- The heap of a place is that of the nodes which live where it begins. A reference is the number of any node of a record,
-- and is live where that node has begun and the record lives. The unpublished forks can be written.
abbrev pub state_of : Stored → State Place NodeId
state_of s = record {
  shape = s.shape;
  has = IsPlace s;
  heap = λ p. heap_at s.shape (arena s) (begin_of s p);
  name = λ i. (arena s).name i.0;
  live = λ p i. IsPlace s p × IsLive (arena s) i.0 (begin_of s p);
  writable = IsOpen s.forks;
  counts = s.counts;
  versions = s.versions;
  forks = map as_fork s.forks;
  fork_calls = s.calls;
  spent = s.spent;
}

-- ---- what a store keeps

-- how many slots a node of a type has: its fields, and one inverse slot for each unit of the limit
abbrev pub width : TypeShape → ℕ
width t = element_count t + t.limit

-- each node has one base value for each slot of its type
abbrev pub AreWide : List TypeShape → List Node → Type 0
AreWide shape nodes = (i : ℕ) (n : Node) → slice_get nodes i ≡ Some n → length n.row.slots ≡ width (type_at shape n.head.ty)

-- The forks in the list of places: version 0 has the first and the last; a fork begins and ends inside the one that it
-- was made from, and before each earlier one that was made from it; one that is not published ends directly behind where
-- it begins; no two begin at one place; and each bears its number.
pub record AreNested (s : Stored) : Type 0 where
  pub first : begin_of s s.start ≡ 0
  pub some : begin_of s s.start < end_of s s.start
  pub last : suc (end_of s s.start) ≡ length s.places
  pub numbered : (k : ℕ) (f : Fork) → slice_get s.forks k ≡ Some f → f.place.number ≡ k
  pub from : (k : ℕ) (f : Fork) → slice_get s.forks k ≡ Some f → IsPlace s f.from
  pub inside : (k : ℕ) (f : Fork) → slice_get s.forks k ≡ Some f → (begin_of s f.from < begin_of s f.place) × (begin_of s f.place < end_of s f.place) × (end_of s f.place < end_of s f.from)
  pub before : (j k : ℕ) (f g : Fork) → j < k → slice_get s.forks j ≡ Some f → slice_get s.forks k ≡ Some g → f.from ≡ g.from → end_of s g.place < begin_of s f.place
  pub closed : (k : ℕ) (f : Fork) → slice_get s.forks k ≡ Some f → f.published ≡ false → end_of s f.place ≡ suc (begin_of s f.place)
  pub apart : (j k : ℕ) (f g : Fork) → slice_get s.forks j ≡ Some f → slice_get s.forks k ≡ Some g → begin_of s f.place ≡ begin_of s g.place → j ≡ k
  pub relics : (k : ℕ) (p : Place) → slice_get s.relics k ≡ Some p → (begin_of s p < end_of s p) × (end_of s p ≤ end_of s s.start)
  pub written : (j k : ℕ) (p : Place) (f : Fork) → slice_get s.relics j ≡ Some p → slice_get s.forks k ≡ Some f → f.published ≡ false → begin_of s p ≡ begin_of s f.place → ⊥

-- how many forks are published
abbrev pub published_count : List Fork → ℕ
published_count [] = 0
published_count (f ∷ fs) = (if f.published then 1 else 0) + published_count fs

-- the place of a version after 0 is that of a published fork, which was made from the place of its parent
pub record IsVersionFork (forks : List Fork) (versions : List (VersionRow Place)) (row : VersionRow Place) : Type 0 where
  pub index : ℕ
  pub fork : Fork
  pub at : slice_get forks index ≡ Some fork
  pub place : fork.place ≡ row.place
  pub published : fork.published ≡ true
  pub parent : VersionRow Place
  pub parent_at : slice_get versions row.parent.0 ≡ Some parent
  pub from : fork.from ≡ parent.place

-- Versions and forks: version 0 is at the start; the place of each version is published; and each version but the first
-- comes from a fork of its own.
pub record AreVersions (s : Stored) : Type 0 where
  pub tree : IsVersionTree s.versions
  pub root : slice_get s.versions 0 ≡ Some (first_row s.start)
  pub forked : (v : ℕ) (row : VersionRow Place) → slice_get s.versions (suc v) ≡ Some row → IsVersionFork s.forks s.versions row
  pub apart : (v w : ℕ) (a b : VersionRow Place) → slice_get s.versions v ≡ Some a → slice_get s.versions w ≡ Some b → a.place ≡ b.place → v ≡ w
  pub placed : (v : ℕ) (row : VersionRow Place) → slice_get s.versions v ≡ Some row → IsPlace s row.place
  pub published : (v : ℕ) (row : VersionRow Place) → slice_get s.versions v ≡ Some row → IsOpen s.forks row.place → ⊥
  pub counted : length s.versions ≡ published_count s.forks + 1
  pub made : length s.forks ≤ s.calls
  pub calls : s.calls ≤ MOST_FORKS

-- node 0 is the first node of the root record
pub record IsRooted (s : Stored) : Type 0 where
  pub some : 0 < length s.nodes
  pub name : (arena s).name 0 ≡ root_name
  pub begins : (arena s).lo 0 ≡ 0

-- node j is one of the nodes of node i's record
pub record IsNodeOf (w : Arena) (j i : ℕ) : Type 0 where
  pub there : j < w.count
  pub name : w.name j ≡ w.name i

-- The nodes of node i's record reach from position b up to position e: one begins at b, one ends at e, and none goes beyond. As
-- they are chained, they cover each position in between.
pub record LivesOver (w : Arena) (i b e : ℕ) : Type 0 where
  pub first : ℕ
  pub starts : IsNodeOf w first i
  pub begins : w.lo first ≡ b
  pub last : ℕ
  pub stops : IsNodeOf w last i
  pub ends : w.hi last ≡ e
  pub inside : (k : ℕ) → IsNodeOf w k i → (b ≤ w.lo k) × (w.hi k ≤ e)

-- each record lives over the place at which it was made, and nowhere else: so a name that no heap has is no node's
abbrev pub AreBorn : Stored → Type 0
AreBorn s = (i : ℕ) → i < length s.nodes → (p : Place) × IsPlace s p × LivesOver (arena s) i (begin_of s p) (end_of s p)

abbrev pub load_of : List TypeShape → Node → Load
load_of shape n = record { stamped = length n.row.stamps; half = half (type_at shape n.head.ty) }

abbrev pub loads : Stored → List Load
loads s = map (load_of s.shape) s.nodes

-- at most one node for each record, six for each pointer that was written, and two for each number
abbrev pub bound : Counts → ℕ
bound c = c.records + 6 * c.pointer_writes + 2 * c.value_writes

-- What is so of a store at all times, in the middle of a call too: what Driscoll, Sarnak, Sleator and Tarjan keep of fat
-- nodes, and the bound on their number.
pub record IsStore (s : Stored) : Type 0 where
  pub valid : IsValid s.shape
  pub nested : AreNested s
  pub rows : AllRows (rank s.places) (length s.places) (map (λ n. n.row) s.nodes)
  pub wide : AreWide s.shape s.nodes
  pub arena : IsArena s.shape (end_of s s.start) (arena s)
  pub rooted : IsRooted s
  pub born : AreBorn s
  pub versions : AreVersions s
  pub bounded : length s.nodes + potential (loads s) ≤ bound s.counts
  pub few : length s.places ≤ 2 * (s.calls + s.spent) + 2
  pub spent : s.spent ≤ MOST_FORKS

-- The root index: of the nodes that were looked at it holds those of the root record, node 0 first, in the order of where
-- they begin.
pub record AreHeld (w : Arena) (noted : Noted) : Type 0 where
  pub first : slice_get noted.roots 0 ≡ Some 0
  pub there : (k i : ℕ) → slice_get noted.roots k ≡ Some i → (i < noted.seen) × (w.name i ≡ root_name)
  pub all : (i : ℕ) → i < noted.seen → w.name i ≡ root_name → Contains noted.roots i
  pub rising : (j k : ℕ) → j < k → k < length noted.roots → w.lo (get_or noted.roots j 0) < w.lo (get_or noted.roots k 0)
  pub seen : noted.seen ≤ w.count

-- every node of the root record is held
abbrev pub AreAllHeld : Arena → Noted → Type 0
AreAllHeld w noted = (i : ℕ) → i < w.count → w.name i ≡ root_name → Contains noted.roots i

-- A store at rest: nothing waits, and every node of the root record is held.
pub record IsRested (s : Stored) : Type 0 where
  pub none : s.noted.queue ≡ []
  pub small : (i : ℕ) (n : Node) → slice_get s.nodes i ≡ Some n → length n.row.stamps ≤ capacity (type_at s.shape n.head.ty)
  pub held : AreAllHeld (arena s) s.noted
