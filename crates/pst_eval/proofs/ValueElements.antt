-- No record has a slot as high as the greatest number of one, so an element's slot may stop there.
use Rattle.std.proofs.Common.{◌≡◌, ℕ, ◌-◌, ◌^◌, ◌<◌, ◌≤◌, min, true, false, cond, List, length, Option, Some, None, refl, ap, ◌∙◌, sym, subst, arith, slice_get}
use Rattle.std.specs.Prelude.{nat_lt, nat_le}
use Rattle.std.specs.Option.{option_map}
use Rattle.std.proofs.Math.Nat.{min-eq_left, min-eq_right}
use Rattle.std.proofs.lemmas.Option.{slice_get_past}
use borrow.Author.Tests.{ltb-true, ltb-false}
use Rattle.pst_base.specs.declared.names.Kind.{Kind}
use Rattle.pst_base.specs.declared.names.Kind.TheVariants.{Int, Pointer}
use Rattle.pst_base.specs.declared.names.Name.{Name}
use Rattle.pst_base.specs.declared.names.TypeNo.{TypeNo}
use Rattle.pst_base.specs.declared.shape.TypeShape.{TypeShape}
use Rattle.pst_base.specs.Shape.{IsValid, type_at, root_type, no_type, field_kind, element_count}
use Rattle.pst_base.specs.Heap.{Heap, type_in, kind_in, kind_from}
use Rattle.pst_program.specs.declared.meaning.Value.{Value}
use Rattle.pst_program.specs.declared.meaning.Value.TheVariants.{Number as ANumber, Truth as ATruth, Null as ANull, Record as ARecord}
use Rattle.pst_program.specs.Value.{Gives, load, content}

-- a type has no slot behind its elements
no_slot : (t : TypeShape) (slot : ℕ) → element_count t ≤ slot → field_kind t slot ≡ None
no_slot t slot le = elim (nat_lt slot t.values) as (λ b. nat_lt slot t.values ≡ b → cond b (Some Int) (option_map Pointer (slice_get t.targets (slot - t.values))) ≡ None) [
  | true ↦ λ x. let below : slot < t.values = ltb-true slot t.values x in absurd (omega arith)
  | false ↦ λ x. ap (option_map Pointer) (slice_get_past t.targets (slot - t.values) (omega (arith, le)))
] refl

-- a type has up to 64 elements, and a number that no type has stands for none
few_elements : (shape : List TypeShape) (ty : TypeNo) → IsValid shape → element_count (type_at shape ty) ≤ 64
few_elements shape ty v = elim (nat_lt ty.0 (length shape)) as (λ b. nat_lt ty.0 (length shape) ≡ b → element_count (type_at shape ty) ≤ 64) [
  | true ↦ λ x.
      let below : ty.0 < length shape = ltb-true ty.0 (length shape) x in
      elim (nat_lt 0 ty.0) as (λ b. nat_lt 0 ty.0 ≡ b → element_count (type_at shape ty) ≤ 64) [
        | true ↦ λ y. v.elements ty (ltb-true 0 ty.0 y) below
        | false ↦ λ y.
            let least : ty.0 ≤ 0 = ltb-false 0 ty.0 y in
            let zero : ty.0 ≡ 0 = omega arith in
            let same : element_count (type_at shape ty) ≡ element_count (type_at shape root_type) = ap (λ (n : ℕ). element_count (type_at shape (record { 0 = n }))) zero in
            omega (arith, same, v.root_fields)
      ] refl
  | false ↦ λ x.
      let none : slice_get shape ty.0 ≡ None = slice_get_past shape ty.0 (ltb-false ty.0 (length shape) x) in
      let same : element_count (type_at shape ty) ≡ 0 = ap (λ (o : Option TypeShape). element_count (Rattle.std.specs.Prelude.unwrap_or o no_type)) none in
      omega (arith, same)
] refl

no_kind_from : (shape : List TypeShape) (slot : ℕ) (o : Option TypeNo) → IsValid shape → 64 ≤ slot → kind_from shape slot o ≡ None
no_kind_from shape slot None v le = refl
no_kind_from shape slot (Some ty) v le = no_slot (type_at shape ty) slot (omega (arith, few_elements shape ty v, le))

-- no record has a slot from 64 on
pub no_kind : (shape : List TypeShape) (h : Heap) (n : Name) (slot : ℕ) → IsValid shape → 64 ≤ slot → kind_in shape h n slot ≡ None
no_kind shape h n slot v le = no_kind_from shape slot (type_in h n) v le

-- what is told of a slot by its number, or of one where no record has any, may be told of the number that is kept of it
pub kept : (P : ℕ → Type 0) (slot s : ℕ) → s ≡ min slot (2 ^ 16 - 1) → (slot < 2 ^ 16 → P slot) → (2 ^ 16 ≤ slot → P (2 ^ 16 - 1)) → P s
kept P slot s is low high = elim (nat_lt slot (2 ^ 16)) as (λ b. nat_lt slot (2 ^ 16) ≡ b → P s) [
  | true ↦ λ x.
      let below : slot < 2 ^ 16 = ltb-true slot (2 ^ 16) x in
      let same : s ≡ slot = is ∙ min-eq_left {n = slot} {m = 2 ^ 16 - 1} (omega arith) in
      subst P (sym same) (low below)
  | false ↦ λ x.
      let above : 2 ^ 16 ≤ slot = ltb-false slot (2 ^ 16) x in
      let same : s ≡ 2 ^ 16 - 1 = is ∙ min-eq_right {n = 2 ^ 16 - 1} {m = slot} (omega arith) in
      subst P (sym same) (high above)
] refl

both_none : (h : Heap) (n : Name) (s slot : ℕ) (k l : Option Kind) → k ≡ None → l ≡ None → content k h n s ≡ content l h n slot
both_none h n s slot k l e f = ap (λ o. content o h n s) e ∙ sym (ap (λ o. content o h n slot) f)

pub load_kept : (shape : List TypeShape) (h : Heap) (slot s : ℕ) (v : Value) → IsValid shape → s ≡ min slot (2 ^ 16 - 1) → load shape h s v ≡ load shape h slot v
load_kept shape h slot s (ARecord n) valid is =
    kept (λ x. load shape h x (ARecord n) ≡ load shape h slot (ARecord n)) slot s is (λ _. refl) (λ above.
    ap Gives (both_none h n (2 ^ 16 - 1) slot (kind_in shape h n (2 ^ 16 - 1)) (kind_in shape h n slot)
    (no_kind shape h n (2 ^ 16 - 1) valid (omega arith)) (no_kind shape h n slot valid (omega arith))))
load_kept shape h slot s ANull valid is = refl
load_kept shape h slot s (ANumber x) valid is = refl
load_kept shape h slot s (ATruth b) valid is = refl
