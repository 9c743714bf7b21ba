use Rattle.std.proofs.Common.{◌≡◌, ℕ, ◌*◌, ◌<◌, ◌≤◌, List, length, sym, ap, subst, ⊎_elim, arith}
use Rattle.std.specs.Prelude.{unwrap_or, slice_get}
use Rattle.std.proofs.lemmas.Bool.{cases_eq}
use Rattle.pst_base.specs.declared.names.TypeNo.{TypeNo}
use Rattle.pst_base.specs.declared.shape.TypeShape.{TypeShape}
use Rattle.pst_base.specs.declared.shape.TheConstants.{MOST_ROOTS, MOST_IN_DEGREE, MOST_ELEMENTS, MOST_SLOTS}
use Rattle.pst_base.specs.Shape.{type_at, no_type, root_type, element_count, IsValid}
use Rattle.pst_rows.specs.Changes.{slot_count}
use Rattle.pst_mirror.specs.Potential.{capacity, CapacityIsFew}

-- what a limit and a number of elements give
few : (t : TypeShape) → 1 ≤ t.limit → t.limit ≤ MOST_IN_DEGREE → element_count t ≤ MOST_ELEMENTS → (2 ≤ capacity t) × (capacity t ≤ 2 * MOST_SLOTS)
few t one most elements = (omega arith, omega arith)

pub capacity_few : CapacityIsFew
capacity_few shape ty valid there =
    ⊎_elim
    (λ (root : ty.0 ≡ 0).
    let limit : (type_at shape root_type).limit ≡ 1 = valid.root_limit in
    let fields : element_count (type_at shape root_type) ≤ MOST_ROOTS = valid.root_fields in
    subst (λ (n : ℕ). let t : TypeShape = unwrap_or (slice_get shape n) no_type in (2 ≤ capacity t) × (capacity t ≤ 2 * MOST_SLOTS)) (sym root)
    (few (type_at shape root_type) (omega arith) (omega arith) (omega arith)))
    (λ (other : ty.0 ≡ 0 → ⊥).
    let some : 0 < ty.0 = omega (arith, other) in
    few (type_at shape ty) (valid.limits ty some there).0 (valid.limits ty some there).1 (valid.elements ty some there))
    (cases_eq ty.0 0)

-- a slot for each element, and one for each pointer that may lead to a record
pub slots_few : (shape : List TypeShape) (ty : TypeNo) → IsValid shape → ty.0 < length shape → slot_count (type_at shape ty) ≤ MOST_SLOTS
slots_few shape ty valid there =
    ⊎_elim
    (λ (root : ty.0 ≡ 0).
    let limit : (type_at shape root_type).limit ≡ 1 = valid.root_limit in
    let fields : element_count (type_at shape root_type) ≤ MOST_ROOTS = valid.root_fields in
    let same : slot_count (type_at shape ty) ≡ slot_count (type_at shape root_type) = ap (λ (n : ℕ). slot_count (type_at shape (record { 0 = n }))) root in
    omega (arith, limit, fields, same))
    (λ (other : ty.0 ≡ 0 → ⊥).
    let some : 0 < ty.0 = omega (arith, other) in
    let limit : (type_at shape ty).limit ≤ MOST_IN_DEGREE = (valid.limits ty some there).1 in
    let elements : element_count (type_at shape ty) ≤ MOST_ELEMENTS = valid.elements ty some there in
    omega (arith, limit, elements))
    (cases_eq ty.0 0)
