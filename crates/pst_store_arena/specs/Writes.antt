-- What the steps of a pointer write leave.
use Rattle.std.specs.Prelude.{◌≡◌, ◌≢◌, ℕ, ◌+◌, ◌≤◌, ◌⊎◌, ◌==◌, if◌then◌else◌, List, Option, Some, None}
use Rattle.pst_base.specs.declared.names.NodeId.{NodeId}
use Rattle.pst_base.specs.declared.shape.TypeShape.{TypeShape}
use Rattle.pst_rows.specs.declared.content.Content.TheVariants.{Null, Free}
use Rattle.pst_rows.specs.declared.row.Row.{Row}
use Rattle.pst_order.specs.Places.{rank}
use Rattle.pst_mirror.specs.Contents.{Target, From}
use Rattle.pst_mirror.specs.Mirror.{Chart, IsMirrored}
use Rattle.pst_nodes.specs.declared.node.Node.{Node}
use Rattle.pst_nodes.specs.Arena.{HasRoom, row_at, link_at, AreRows, chart}
use Rattle.pst_nodes.specs.Changes.{added}
use Rattle.pst_repair.specs.Load.{stamped_at}
use Rattle.pst_repair.specs.Steps.{AreGrown}
use Rattle.pst_store_meaning.specs.Store.{arena_of}
use Rattle.pst_store_meaning.specs.Changes.{IsCleared}
use Rattle.pst_repair.specs.Seen.{seen}

-- a slot holds null or a pointer at a position
abbrev pub HoldsPointer : Chart → ℕ → ℕ → ℕ → Type 0
HoldsPointer w x f b = (w.holds x f b ≡ Null) ⊎ ((y : ℕ) × (w.holds x f b ≡ Target y))

-- the node that a field leads to at a position, or none where the field is null there
abbrev pub LeadsTo : Chart → ℕ → ℕ → ℕ → Option NodeId → Type 0
LeadsTo w x f b None = w.holds x f b ≡ Null
LeadsTo w x f b (Some y) = w.holds x f b ≡ Target y.0

-- a number is the number of the node, if there is one
abbrev pub IsNode : Option NodeId → ℕ → Type 0
IsNode None i = ⊥
IsNode (Some y) i = i ≡ y.0

-- the nodes of a pair, of which the second may be none
abbrev pub IsOneOf : ℕ → Option NodeId → ℕ → Type 0
IsOneOf x led i = (i ≡ x) ⊎ IsNode led i

-- how many values are stamped at most in the row of node i where a slot of node y is set over a position
abbrev pub slot_stamps : ℕ → ℕ → ℕ
slot_stamps y i = if i == y then 2 else 0

-- the same, where a field of node x and its entry in another node are set; none are where there is no other
abbrev pub pair_stamps : ℕ → Option NodeId → ℕ → ℕ
pair_stamps x None i = 0
pair_stamps x (Some y) i = slot_stamps x i + slot_stamps y.0 i

-- the row of node i has room for a write of a field of node x, which is taken from one node and led to another
abbrev pub HasRoomFor : List Node → ℕ → Option NodeId → Option NodeId → ℕ → Type 0
HasRoomFor ns x led target i = (d : Row) → HasRoom (row_at ns i d) (pair_stamps x led i + pair_stamps x target i)

-- so have the rows of node x and of the one that its field leads to
abbrev pub HaveRoom : List Node → ℕ → Option NodeId → Option NodeId → Type 0
HaveRoom ns x led target = (i : ℕ) → IsOneOf x led i → HasRoomFor ns x led target i

-- The pointer that a field held over a position is taken away, if it held one. What is stamped for that and what a write of
-- the field stamps afterwards are 4 values at most, whatever the types, since the field has its edges then.
pub record IsFieldCleared (qs : List ℕ) (old new : List Node) (x f b : ℕ) (led : Option NodeId) : Type 0 where
  pub rows : AreRows qs new
  pub mirrored : IsMirrored (chart qs new)
  pub null : (chart qs new).holds x f b ≡ Null
  pub free : (y s : ℕ) → ((chart qs old).holds y s b ≡ Free) ⊎ ((chart qs old).holds y s b ≡ From x f) → (chart qs new).holds y s b ≡ Free
  pub cleared : IsCleared (arena_of (rank qs) (seen old)) (arena_of (rank qs) (seen new)) x f b
  pub links : (i : ℕ) → link_at new i ≡ link_at old i
  pub room : (i : ℕ) (d : Row) (j : ℕ) → HasRoom (row_at old i d) (j + pair_stamps x led i) → HasRoom (row_at new i d) j
  pub stamped : ℕ
  pub few : stamped + added (chart qs new) x f b ≤ 4
  pub grown : (types : List TypeShape) → AreGrown stamped types old new
  pub others : (i : ℕ) → i ≢ x → (IsNode led i → ⊥) → stamped_at new i ≡ stamped_at old i
