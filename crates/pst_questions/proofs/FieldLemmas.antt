-- The fields of a record whose type is known.
use Rattle.std.proofs.Common.{◌≡◌, ℕ, ◌+◌, ◌-◌, ◌<◌, ◌≤◌, true, false, cond, List, ◌∷◌, length, drop, get_or, Option, Some, None, refl, sym, ap, ◌∙◌, subst, arith, suc, add-one}
use Rattle.std.specs.Prelude.{slice_get, nat_lt, pos}
use Rattle.std.specs.Option.{option_map}
use Rattle.std.specs.FinMap.{get}
use Rattle.std.proofs.Math.Seq.{drop-cons}
use Rattle.std.proofs.lemmas.List.{get_or_default}
use Rattle.std.proofs.lemmas.Option.{slice_get-get_or, unwrap_or-slice_get}
use borrow.Author.Tests.{ltb-true, ltb-false, lt-ltb}
use Rattle.pst_base.specs.declared.names.Name.{Name}
use Rattle.pst_base.specs.declared.names.TypeNo.{TypeNo}
use Rattle.pst_base.specs.declared.names.Kind.TheVariants.{Int, Pointer}
use Rattle.pst_base.specs.declared.shape.TypeShape.{TypeShape}
use Rattle.pst_base.specs.Shape.{no_type, type_at, root_type}
use Rattle.pst_base.specs.Heap.{Rec, Heap, type_in, value_in, value_from, pointer_in, pointer_from, kind_in, kind_from, IsPointer, IsWellFormed}
use Rattle.pst_base.proofs.Fields.{found}
use Rattle.pst_questions.specs.Walk.{values_from, pointers_from, values_in, pointers_in, fields_in}

-- the type behind the fields of a record
record Typed (shape : List TypeShape) (h : Heap) (n : Name) (fields : TypeShape) : Type 0 where
  ty : TypeNo
  typed : type_in h n ≡ Some ty
  fields_are : type_at shape ty ≡ fields

typed_from : (shape : List TypeShape) (h : Heap) (n : Name) (fields : TypeShape) (o : Option TypeNo) → type_in h n ≡ o → option_map (type_at shape) o ≡ Some fields → Typed shape h n fields
typed_from shape h n fields None t e = absurd (cc)
typed_from shape h n fields (Some ty) t e = record { ty = ty; typed = t; fields_are = cc }

typed : (shape : List TypeShape) (h : Heap) (n : Name) (fields : TypeShape) → fields_in shape h n ≡ Some fields → Typed shape h n fields
typed shape h n fields e = typed_from shape h n fields (type_in h n) refl e

-- a record has as many numbers and pointers as its type
pub record HasFieldsOf (h : Heap) (n : Name) (fields : TypeShape) : Type 0 where
  pub values : length (values_in h n) ≡ fields.values
  pub pointers : length (pointers_in h n) ≡ length fields.targets

pub known_type : (shape : List TypeShape) (h : Heap) (n : Name) (ty : TypeNo) → IsWellFormed shape h → type_in h n ≡ Some ty → ty.0 < length shape
known_type shape h n ty w t = (let f = found h n ty t in subst (λ (t : TypeNo). t.0 < length shape) f.typed (w.fields n f.rec f.at).known)

pub fields_of : (shape : List TypeShape) (h : Heap) (n : Name) (fields : TypeShape) → IsWellFormed shape h → fields_in shape h n ≡ Some fields → HasFieldsOf h n fields
fields_of shape h n fields w e =
    let t = typed shape h n fields e in
    let f = found h n t.ty t.typed in
    let has = w.fields n f.rec f.at in
    let same : type_at shape f.rec.ty ≡ fields = ap (type_at shape) f.typed ∙ t.fields_are in
    record {
      values = ap (λ r. length (values_from r)) f.at ∙ has.values ∙ ap (λ (t : TypeShape). t.values) same;
      pointers = ap (λ r. length (pointers_from r)) f.at ∙ has.pointers ∙ ap (λ (t : TypeShape). length t.targets) same;
    }

-- ---- kinds

int_kind : (shape : List TypeShape) (h : Heap) (n : Name) (ty : TypeNo) (slot : ℕ) → type_in h n ≡ Some ty → slot < (type_at shape ty).values → kind_in shape h n slot ≡ Some Int
int_kind shape h n ty slot t l = ap (kind_from shape slot) t
    ∙ ap (λ b. cond b (Some Int) (option_map Pointer (slice_get (type_at shape ty).targets (slot - (type_at shape ty).values)))) (lt-ltb slot (type_at shape ty).values l)

is_pointer : (o : Option TypeNo) (ty : TypeNo) → o ≡ Some ty → IsPointer (option_map Pointer o)
is_pointer o ty e = subst (λ (o : Option TypeNo). IsPointer (option_map Pointer o)) (sym e) tt

-- a slot past the numbers that is one of the pointers
pointer_kind : (shape : List TypeShape) (h : Heap) (n : Name) (ty : TypeNo) (slot : ℕ) → type_in h n ≡ Some ty → (type_at shape ty).values ≤ slot
    → slot < (type_at shape ty).values + length (type_at shape ty).targets → IsPointer (kind_in shape h n slot)
pointer_kind shape h n ty slot t from below =
    let t' : TypeShape = type_at shape ty in
    let there = slice_get-get_or t'.targets (slot - t'.values) root_type (omega arith) in
    let kind : IsPointer (option_map Pointer (slice_get t'.targets (slot - t'.values))) = is_pointer (slice_get t'.targets (slot - t'.values)) (get_or t'.targets (slot - t'.values) root_type) there in
    subst (λ (o : Option TypeNo). IsPointer (kind_from shape slot o)) (sym t)
    (elim (nat_lt slot t'.values) as (λ b. nat_lt slot t'.values ≡ b → IsPointer (cond b (Some Int) (option_map Pointer (slice_get t'.targets (slot - t'.values))))) [
      | true ↦ λ x. absurd (let less = ltb-true slot t'.values x in omega arith)
      | false ↦ λ x. kind
    ] refl)

-- a slot of a number
pub int_field : (shape : List TypeShape) (h : Heap) (n : Name) (fields : TypeShape) (slot : ℕ) → fields_in shape h n ≡ Some fields → slot < fields.values → kind_in shape h n slot ≡ Some Int
int_field shape h n fields slot e l = (let t = typed shape h n fields e in int_kind shape h n t.ty slot t.typed (subst (λ (t : TypeShape). slot < t.values) (sym t.fields_are) l))

-- a slot of a pointer
pub pointer_field : (shape : List TypeShape) (h : Heap) (n : Name) (fields : TypeShape) (slot : ℕ) → fields_in shape h n ≡ Some fields
    → fields.values ≤ slot → slot < fields.values + length fields.targets → IsPointer (kind_in shape h n slot)
pointer_field shape h n fields slot e from below =
    let t = typed shape h n fields e in
    pointer_kind shape h n t.ty slot t.typed (subst (λ (t : TypeShape). t.values ≤ slot) (sym t.fields_are) from)
    (subst (λ (t : TypeShape). slot < t.values + length t.targets) (sym t.fields_are) below)

-- ---- one slot after another

value_next : (slot : ℕ) (o : Option Rec) → slot < length (values_from o) → drop slot (values_from o) ≡ value_from slot o ∷ drop (slot + 1) (values_from o)
value_next slot None l = absurd (omega arith)
value_next slot (Some r) l = rw (add-one) (drop-cons r.values slot (pos 0) l)

pub drop-values : (h : Heap) (n : Name) (slot : ℕ) → slot < length (values_in h n) → drop slot (values_in h n) ≡ value_in h n slot ∷ drop (slot + 1) (values_in h n)
drop-values h n slot l = value_next slot (get h n) l

pointer_next : (slot : ℕ) (o : Option Rec) → length (values_from o) ≤ slot → slot - length (values_from o) < length (pointers_from o)
    → drop (slot - length (values_from o)) (pointers_from o) ≡ pointer_from slot o ∷ drop (slot + 1 - length (values_from o)) (pointers_from o)
pointer_next slot None from l = absurd (omega arith)
pointer_next slot (Some r) from l =
    let next : slot + 1 - length r.values ≡ suc (slot - length r.values) = omega arith in
    drop-cons r.pointers (slot - length r.values) None l ∙ ap (λ k. pointer_from slot (Some r) ∷ drop k r.pointers) (sym next)

pub drop-pointers : (h : Heap) (n : Name) (first slot : ℕ) → length (values_in h n) ≡ first → first ≤ slot → slot - first < length (pointers_in h n)
    → drop (slot - first) (pointers_in h n) ≡ pointer_in h n slot ∷ drop (slot + 1 - first) (pointers_in h n)
drop-pointers h n first slot e from l =
    subst (λ (k : ℕ). k ≤ slot → slot - k < length (pointers_in h n)
    → drop (slot - k) (pointers_in h n) ≡ pointer_in h n slot ∷ drop (slot + 1 - k) (pointers_in h n)) e (pointer_next slot (get h n)) from l

-- ---- the type of a record, among those of a program

pub fields_read : (shape types : List TypeShape) (h : Heap) (n : Name) (ty : TypeNo) (i : ℕ) (t : TypeShape) → type_in h n ≡ Some ty → shape ≡ types
    → i ≡ ty.0 → i < length types → t ≡ get_or types i t → fields_in shape h n ≡ Some t
fields_read shape types h n ty i t typed same is l e =
    let at : t ≡ type_at shape ty = e ∙ get_or_default types i t no_type l ∙ ap (λ k. get_or types k no_type) is
    ∙ sym (unwrap_or-slice_get types ty.0 no_type) ∙ ap (λ (shape : List TypeShape). type_at shape ty) (sym same) in
    ap (option_map (type_at shape)) typed ∙ ap Some (sym at)
