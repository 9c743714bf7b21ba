-- Both sides of the mirror rule, as they are checked: slot by slot and place by place.
use Rattle.std.specs.Prelude.{ℕ, ◌<◌, ◌≤◌, Bool, List, length, MatchBool}
use Rattle.pst_base.specs.declared.shape.TypeShape.{TypeShape}
use Rattle.pst_image_form.specs.declared.parts.NodePart.{NodePart}
use Rattle.pst_base.specs.Shape.{element_count}
use Rattle.pst_image_rules.specs.Nodes.{node_at, stamp_of, slot_count, AreNodes}
use Rattle.pst_image_rules.specs.declared.sides.Pointer.{Pointer}
use Rattle.pst_image_rules.specs.declared.sides.Side.{Side}
use Rattle.pst_image_rules.specs.declared.sides.Side.TheVariants.{Pointers, Entries}
use Rattle.pst_image_rules.specs.Mirror.{IsPointerSlot, IsInverseSlot, shape_of, HasEntry, IsOneOf, IsEntered, HasPointer, IsEnteredAt, IsPointedAt}

-- each node is one of its type
abbrev pub AreTyped : List TypeShape → List NodePart → Type 0
AreTyped shape ks = (places : ℕ) × AreNodes shape places ks

-- an inverse slot of the node that a pointer leads to has its entry
abbrev pub HasEntryIn : List NodePart → Pointer → ℕ → Type 0
HasEntryIn ks p s = HasEntry ks p.node p.slot.0 p.from p.until p.target s

-- just one of its inverse slots has it
abbrev pub HasOneEntry : List TypeShape → List NodePart → Pointer → Type 0
HasOneEntry shape ks p = IsOneOf (HasEntryIn ks p) (element_count (shape_of shape ks p.target)) (slot_count (shape_of shape ks p.target))

-- the pointer lies inside the life of the node that it leads to, and has just one entry there
abbrev pub IsPointerEntered : List TypeShape → List NodePart → Pointer → Type 0
IsPointerEntered shape ks p = IsEntered shape ks p.node p.slot.0 p.from p.until p.target

-- the slot has the pointer over its segment
abbrev pub IsPointerThere : List NodePart → Pointer → Type 0
IsPointerThere ks p = HasPointer ks p.node p.slot.0 p.from p.until p.target

-- the slots of a side: pointer slots, or inverse slots
abbrev pub IsSlotOf : Side → TypeShape → ℕ → Type 0
IsSlotOf Pointers t g = IsPointerSlot t g
IsSlotOf Entries t g = IsInverseSlot t g

-- what a side asks where a segment of one of its slots begins
abbrev pub HasPartner : List TypeShape → List NodePart → Side → ℕ → ℕ → ℕ → Type 0
HasPartner shape ks Pointers i g a = IsEnteredAt shape ks i g a
HasPartner shape ks Entries i g a = IsPointedAt ks i g a

-- where slot g of node i is one of this side, and a segment of it begins at a place, a side is kept there
pub record IsMirroredAt (shape : List TypeShape) (ks : List NodePart) (side : Side) (i g a : ℕ) : Type 0 where
  pub mirrored : IsSlotOf side (shape_of shape ks i) g → HasPartner shape ks side i g a

-- where the bases of a node begin, and its stamped values
abbrev pub AreBasesMirrored : List TypeShape → List NodePart → Side → ℕ → Type 0
AreBasesMirrored shape ks side i = (g : ℕ) → g < length (node_at ks i).bases → IsMirroredAt shape ks side i g (node_at ks i).lo

abbrev pub AreStampsMirrored : List TypeShape → List NodePart → Side → ℕ → Type 0
AreStampsMirrored shape ks side i = (j : ℕ) → j < length (node_at ks i).stamps → IsMirroredAt shape ks side i (stamp_of (node_at ks i) j).slot.0 (stamp_of (node_at ks i) j).place

pub record IsNodeMirrored (shape : List TypeShape) (ks : List NodePart) (side : Side) (i : ℕ) : Type 0 where
  pub bases : AreBasesMirrored shape ks side i
  pub stamps : AreStampsMirrored shape ks side i

-- each node keeps a side
abbrev pub AreMirrored : List TypeShape → List NodePart → Side → Type 0
AreMirrored shape ks side = (i : ℕ) → i < length ks → IsNodeMirrored shape ks side i

-- of the numbers from one on and below another one, none has the property yet, or just one has it
abbrev pub IsNoneOf : (ℕ → Type 0) → ℕ → ℕ → Type 0
IsNoneOf P from to = (t : ℕ) → from ≤ t → t < to → P t → ⊥

pub record IsCounted (P : ℕ → Type 0) (from to : ℕ) (found : Bool) : Type 0 where
  pub count : MatchBool found (IsOneOf P from to) (IsNoneOf P from to)
