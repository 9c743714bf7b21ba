-- The mirror rule on the segments of an image: each pointer has an entry in the node that it leads to (the inverse pointers of
-- Driscoll, Sarnak, Sleator and Tarjan), and the segments of the two begin and end together.
use Rattle.std.specs.Prelude.{◌≡◌, ℕ, suc, ◌<◌, ◌≤◌, List, length, Some}
use Rattle.pst_base.specs.declared.shape.TypeShape.{TypeShape}
use Rattle.pst_base.specs.Shape.{type_at, element_count}
use Rattle.pst_image_form.specs.declared.parts.NodePart.{NodePart}
use Rattle.pst_image_rules.specs.Nodes.{node_at, slot_count, entry}
use Rattle.pst_image_rules.specs.Segments.{begins, ends}

-- a pointer slot, and an inverse slot
pub record IsPointerSlot (t : TypeShape) (f : ℕ) : Type 0 where
  pub from : t.values ≤ f
  pub below : f < element_count t

pub record IsInverseSlot (t : TypeShape) (s : ℕ) : Type 0 where
  pub from : element_count t ≤ s
  pub below : s < slot_count t

-- the type of a node
abbrev pub shape_of : List TypeShape → List NodePart → ℕ → TypeShape
shape_of shape ks x = type_at shape (node_at ks x).ty

-- The inverse slot s of node y has the entry of slot f of node x, with the segment from a to c.
pub record HasEntry (ks : List NodePart) (x f a c y s : ℕ) : Type 0 where
  pub held : begins (node_at ks y) s a ≡ Some (entry x f)
  pub until : ends (node_at ks y) s a ≡ c

-- just one number from one on and below another one has the property
abbrev pub IsOneOf : (ℕ → Type 0) → ℕ → ℕ → Type 0
IsOneOf P from to = (s : ℕ) × (from ≤ s) × (s < to) × P s × ((t : ℕ) → from ≤ t → t < to → P t → t ≡ s)

-- The pointer of slot f of node x to node y, from a to c, lies inside the life of y, and just one inverse slot of y has its entry.
pub record IsEntered (shape : List TypeShape) (ks : List NodePart) (x f a c y : ℕ) : Type 0 where
  pub low : (node_at ks y).lo ≤ a
  pub high : c ≤ (node_at ks y).hi
  pub one : IsOneOf (HasEntry ks x f a c y) (element_count (shape_of shape ks y)) (slot_count (shape_of shape ks y))

-- the pointer of slot f of node x whose segment begins at a place, if one does, is entered
abbrev pub IsEnteredAt : List TypeShape → List NodePart → ℕ → ℕ → ℕ → Type 0
IsEnteredAt shape ks x f a = (y : ℕ) → begins (node_at ks x) f a ≡ Some (suc y) → IsEntered shape ks x f a (ends (node_at ks x) f a) y

-- each pointer segment has just one entry
abbrev pub ArePointersEntered : List TypeShape → List NodePart → Type 0
ArePointersEntered shape ks = (x f a : ℕ) → x < length ks → IsPointerSlot (shape_of shape ks x) f → IsEnteredAt shape ks x f a

-- the slot f of node x leads to node y, from a to c
pub record HasPointer (ks : List NodePart) (x f a c y : ℕ) : Type 0 where
  pub held : begins (node_at ks x) f a ≡ Some (suc y)
  pub until : ends (node_at ks x) f a ≡ c

-- the entry of slot s of node y whose segment begins at a place, if one does, has its pointer
abbrev pub IsPointedAt : List NodePart → ℕ → ℕ → ℕ → Type 0
IsPointedAt ks y s a = (x f : ℕ) → f < 128 → begins (node_at ks y) s a ≡ Some (entry x f) → HasPointer ks x f a (ends (node_at ks y) s a) y

-- each entry segment has its pointer
abbrev pub AreEntriesPointed : List TypeShape → List NodePart → Type 0
AreEntriesPointed shape ks = (y s a : ℕ) → y < length ks → IsInverseSlot (shape_of shape ks y) s → IsPointedAt ks y s a
