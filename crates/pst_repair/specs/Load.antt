-- Capacity and potential, over the list of nodes.
use Rattle.std.specs.Prelude.{◌≡◌, ℕ, ◌+◌, ◌-◌, ◌<◌, List, length, get_or, map, sum_by, Bool, true, false}
use Rattle.pst_rows.specs.declared.content.Content.{Content}
use Rattle.pst_rows.specs.declared.content.Content.TheVariants.{Number, Null, Free, Target as TargetOf, From as FromOf}
use Rattle.pst_mirror.specs.Mirror.{IsMirrored}
use Rattle.pst_mirror.specs.Lives.{AreChained, IsIn}
use Rattle.pst_mirror.specs.Kinds.{HasKind}
use Rattle.pst_mirror.specs.Potential.{half}
use Rattle.pst_base.specs.Shape.{type_at}
use Rattle.pst_rows.specs.Rows.{stamped_count}
use Rattle.pst_nodes.specs.declared.node.Node.{Node}
use Rattle.pst_base.specs.declared.shape.TypeShape.{TypeShape}
use Rattle.pst_nodes.specs.Arena.{rows_of, frame_at, AreRows, chart, lives, type_no, type_of, IsTyped}

-- half of a type's capacity: its pointer slots and its inverse slots
abbrev pub half_in : List TypeShape → ℕ → ℕ
half_in types ty = half (type_at types (record { 0 = ty }))

-- the slots of a type that can hold pointers and entries: from this one on, behind the values
abbrev pub first_in : List TypeShape → ℕ → ℕ
first_in types ty = (type_at types (record { 0 = ty })).values

-- how many values are stamped in a node
abbrev pub stamped_at : List Node → ℕ → ℕ
stamped_at ns i = get_or (map stamped_count (rows_of ns)) i 0

-- how many values are stamped in all nodes
abbrev pub stamped_in_all : List Node → ℕ
stamped_in_all ns = sum_by (λ (n : Node). stamped_count n.row) ns

-- half the capacity of a node
abbrev pub half_at : List TypeShape → List Node → ℕ → ℕ
half_at types ns i = half_in types (frame_at ns i).ty

-- a node has more stamped values than its capacity
abbrev pub IsOver : List TypeShape → List Node → ℕ → Type 0
IsOver types ns i = half_at types ns i + half_at types ns i < stamped_at ns i

-- how far a node is above half its capacity
abbrev pub excess : List TypeShape → Node → ℕ
excess types n = stamped_count n.row - half_in types n.header.ty.0

-- the potential: the sum of that over the nodes
abbrev pub potential_of : List TypeShape → List Node → ℕ
potential_of types ns = sum_by (excess types) ns

-- a pointer or an entry
abbrev pub is_link : Content → Bool
is_link (Number n) = false
is_link Null = false
is_link (TargetOf y) = true
is_link Free = false
is_link (FromOf y f) = true

-- What holds of the nodes at all times: rows over the places; the mirror rule; the nodes of a record one behind the other,
-- and of one type; each row as wide as its type; and in each slot of a node, where it lives, a content of the slot's kind.
pub record IsSound (types : List TypeShape) (qs : List ℕ) (ns : List Node) : Type 0 where
  pub rows : AreRows qs ns
  pub mirrored : IsMirrored (chart qs ns)
  pub chained : AreChained (lives qs ns)
  pub one_type : (i j : ℕ) → i < length ns → j < length ns → (frame_at ns i).name ≡ (frame_at ns j).name → (frame_at ns i).ty ≡ (frame_at ns j).ty
  pub typed : (i : ℕ) → i < length ns → IsTyped types ns i
  pub kinds : (i s m : ℕ) → IsIn (lives qs ns) i m → HasKind (type_of types ns i) (type_no ns) s ((chart qs ns).holds i s m)
