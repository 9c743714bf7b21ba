-- What the calls of an arena of fat nodes promise, in the words of a store.
use Rattle.std.specs.Prelude.{◌≡◌, ℕ, ◌+◌, ◌<◌, ℤ, List, ◌++◌, ◌∷◌, [], length, Some, true, false, map, slice_get, Contains}
use Rattle.pst_base.specs.declared.names.TypeNo.{TypeNo}
use Rattle.pst_base.specs.declared.names.Name.{Name}
use Rattle.pst_base.specs.declared.shape.TypeShape.{TypeShape}
use Rattle.pst_base.specs.declared.names.Kind.TheVariants.{Pointer}
use Rattle.pst_base.specs.Shape.{type_at, element_count, field_kind}
use Rattle.pst_order.specs.Places.{rank}
use Rattle.pst_mirror.specs.Charts.{AllRows}
use Rattle.pst_mirror.specs.Degree.{is_other_entry}
use Rattle.pst_mirror.specs.Kinds.{IsInverse}
use Rattle.pst_mirror.specs.Potential.{capacity}
use Rattle.pst_store_meaning.specs.declared.place.Place.{Place}
use Rattle.pst_store_meaning.specs.Arena.{Arena, IsArena}
use Rattle.pst_store_meaning.specs.Changes.{IsNumberSet, IsCleared, IsPointerPut}
use Rattle.pst_store_meaning.specs.Store.{Node, Noted, arena_of, AreWide}
use Rattle.pst_store_meaning.specs.Steps.{HasGrownBy, AreSplits, IsNewNode}

-- the nodes at the places of an order
abbrev pub arena_at : List ℕ → List Node → Arena
arena_at places nodes = arena_of (rank places) nodes

-- a node has more stamped values than its type's capacity
pub record IsOverFull (shape : List TypeShape) (nodes : List Node) (i : ℕ) : Type 0 where
  pub node : Node
  pub there : slice_get nodes i ≡ Some node
  pub over : capacity (type_at shape node.head.ty) < length node.row.stamps

-- the nodes over their capacity wait to be split, and no others
pub record AreWaiting (shape : List TypeShape) (nodes : List Node) (queue : List ℕ) : Type 0 where
  pub waits : (i : ℕ) → IsOverFull shape nodes i → Contains queue i
  pub over : (i : ℕ) → Contains queue i → IsOverFull shape nodes i

-- nodes that the calls below can work on
pub record AreNodes (shape : List TypeShape) (places : List ℕ) (nodes : List Node) : Type 0 where
  pub rows : AllRows (rank places) (length places) (map (λ n. n.row) nodes)
  pub wide : AreWide shape nodes
  pub end : ℕ
  pub arena : IsArena shape end (arena_at places nodes)

-- a field of node x is for pointers to records of the type of node y
abbrev pub IsPointerTo : List TypeShape → Arena → (x f y : ℕ) → Type 0
IsPointerTo shape w x f y = field_kind (type_at shape (w.ty x)) f ≡ Some (Pointer (w.ty y))

-- the root index stays as it is
pub record KeepsRoots (old new : Noted) : Type 0 where
  pub roots : new.roots ≡ old.roots
  pub seen : new.seen ≡ old.seen

-- a node was added for a new record
pub record IsNodeAdded (shape : List TypeShape) (old new : List Node) (id : ℕ) (q : Name) (ty : TypeNo) (at : Place) : Type 0 where
  pub number : id ≡ length old
  pub node : Node
  pub list : new ≡ old ++ node ∷ []
  pub made : IsNewNode shape node q ty at

-- each inverse slot of node y holds the entry of another field than the field f of node x
abbrev pub AreOthers : List TypeShape → Arena → (y b x f : ℕ) → Type 0
AreOthers shape w y b x f = (u : ℕ) → u < (type_at shape (w.ty y)).limit → is_other_entry x f (w.chart.holds y (element_count (type_at shape (w.ty y)) + u) b) ≡ true

-- an inverse slot of node y holds no entry of another field than the field f of node x
pub record IsOpenTo (shape : List TypeShape) (w : Arena) (y b x f s : ℕ) : Type 0 where
  pub inverse : IsInverse (type_at shape (w.ty y)) s
  pub available : is_other_entry x f (w.chart.holds y s b) ≡ false

-- rows over the places, as wide as their types, and what is over its capacity waits; the root index is as it was
pub record IsWritten (shape : List TypeShape) (places : List ℕ) (new : List Node) (old_noted noted : Noted) : Type 0 where
  pub rows : AllRows (rank places) (length places) (map (λ n. n.row) new)
  pub wide : AreWide shape new
  pub waiting : AreWaiting shape new noted.queue
  pub roots : KeepsRoots old_noted noted

-- a number was written over a place
pub record IsNumberWritten (shape : List TypeShape) (places : List ℕ) (old new : List Node) (x f : ℕ) (at : Place) (v : ℤ) : Type 0 where
  pub set : IsNumberSet (arena_at places old) (arena_at places new) x f (rank places at.begin.0) v
  pub grown : HasGrownBy shape old new 2

-- null was written over a place
pub record IsNullWritten (shape : List TypeShape) (places : List ℕ) (old new : List Node) (x f : ℕ) (at : Place) : Type 0 where
  pub cleared : IsCleared (arena_at places old) (arena_at places new) x f (rank places at.begin.0)
  pub grown : HasGrownBy shape old new 6

-- a pointer was written over a place: the old one taken away, the new one put in
pub record IsPointerWritten (shape : List TypeShape) (places : List ℕ) (old new : List Node) (x f : ℕ) (at : Place) (y s : ℕ) : Type 0 where
  pub mid : List Node
  pub mid_rows : AllRows (rank places) (length places) (map (λ n. n.row) mid)
  pub mid_wide : AreWide shape mid
  pub cleared : IsCleared (arena_at places old) (arena_at places mid) x f (rank places at.begin.0)
  pub put : IsPointerPut (arena_at places mid) (arena_at places new) x f y s (rank places at.begin.0)
  pub grown : HasGrownBy shape old new 6

-- so many splits were made
pub record IsRepaired (shape : List TypeShape) (places : List ℕ) (old new : List Node) : Type 0 where
  pub count : ℕ
  pub splits : AreSplits shape places count old new
