-- How many values may be stamped in a node, and how many nodes there may be: the bounds of node splitting (Driscoll, Sarnak, Sleator
-- and Tarjan).
use Rattle.std.specs.Prelude.{ℕ, ◌+◌, ◌*◌, ◌-◌, ◌<◌, ◌≤◌, List, length, sum_by}
use Rattle.pst_base.specs.declared.names.Counts.{Counts}
use Rattle.pst_base.specs.declared.shape.TypeShape.{TypeShape}
use Rattle.pst_base.specs.Shape.{type_at}
use Rattle.pst_image_form.specs.declared.parts.NodePart.{NodePart}
use Rattle.pst_image_rules.specs.Nodes.{node_at}

-- half the capacity of a type: its pointer elements and its limit
abbrev pub half : List TypeShape → NodePart → ℕ
half shape k = length (type_at shape k.ty).targets + (type_at shape k.ty).limit

-- each node has at most its capacity
abbrev pub AreWithinCapacity : List TypeShape → List NodePart → Type 0
AreWithinCapacity shape ks = (i : ℕ) → i < length ks → length (node_at ks i).stamps ≤ 2 * half shape (node_at ks i)

-- how far a node is above half its capacity
abbrev pub excess : List TypeShape → NodePart → ℕ
excess shape k = length k.stamps - half shape k

-- the bound by what was made and written
abbrev pub bound_of : Counts → ℕ
bound_of c = c.records + 6 * c.pointer_writes + 2 * c.value_writes

abbrev pub IsBounded : List TypeShape → Counts → List NodePart → Type 0
IsBounded shape c ks = length ks + sum_by (excess shape) ks ≤ bound_of c
