-- How many slots types have, and what is known of a node of its type.
use Rattle.std.proofs.Common.{◌≡◌, ℕ, zero, suc, ◌<◌, ◌≤◌, List, length, arith, ap, refl}
use Rattle.pst_base.specs.declared.names.TypeNo.{TypeNo}
use Rattle.pst_base.specs.declared.shape.TypeShape.{TypeShape}
use Rattle.pst_base.specs.Shape.{type_at, root_type, element_count, IsValid}
use Rattle.pst_image_form.specs.declared.parts.NodePart.{NodePart}
use Rattle.pst_image_rules.specs.Nodes.{node_at}
use Rattle.pst_image_rules.specs.Segments.{IsSorted}
use Rattle.pst_image_rules.specs.Sides.{AreTyped}

pub few_elements : (shape : List TypeShape) (ty : TypeNo) → IsValid shape → ty.0 < length shape → element_count (type_at shape ty) ≤ 64
few_elements shape ty valid there = by ty.0 refl
  where
    by : (n : ℕ) → ty.0 ≡ n → element_count (type_at shape ty) ≤ 64
    by zero is = (let same : ty ≡ root_type = ap (λ (n : ℕ). record { 0 = n }) is in omega (arith, valid.root_fields, ap (λ t. element_count (type_at shape t)) same))
    by (suc n) is = valid.elements ty (omega arith) there

pub sorted_at : (shape : List TypeShape) (ks : List NodePart) (i : ℕ) → AreTyped shape ks → i < length ks → IsSorted (node_at ks i)
sorted_at shape ks i typed lt = record { each = (typed.1 i lt).sorted }
