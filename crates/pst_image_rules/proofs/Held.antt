-- What a segment holds in nodes of their types, and what is asked of it.
use Rattle.std.proofs.Common.{◌≡◌, ◌≢◌, ℕ, suc, ◌+◌, ◌-◌, ◌/◌, ◌%◌, ◌<◌, ◌≤◌, ◌↔◌, Bool, cond, List, length, get_or, Option, Some, None, refl, sym, ap, subst, ◌∙◌, arith, ◌⊎◌, inl, inr}
use Rattle.std.specs.Prelude.{IsTrue}
use Rattle.std.specs.Option.{option_map}
use Rattle.std.specs.List.{slice_get}
use Rattle.std.proofs.lemmas.Bool.{cases_eq, cases_lt, le-ltb}
use Rattle.std.proofs.lemmas.Option.{slice_get-get_or, slice_get_past, slice_get_within}
use Rattle.pst_base.specs.declared.names.Kind.{Kind}
use Rattle.pst_base.specs.declared.names.Kind.TheVariants.{Int, Pointer}
use Rattle.pst_base.specs.declared.names.TypeNo.{TypeNo}
use Rattle.pst_base.specs.declared.shape.TypeShape.{TypeShape}
use Rattle.pst_base.specs.Shape.{root_type, element_count, field_kind}
use Rattle.pst_image_form.specs.declared.parts.StampPart.{StampPart}
use Rattle.pst_image_form.specs.declared.parts.NodePart.{NodePart}
use Rattle.pst_image_rules.specs.Nodes.{node_at, stamp_of, entry, FitsSlot, HasKind, HoldsPointer, HoldsEntry}
use Rattle.pst_image_rules.specs.Segments.{first, is_at, begins, ends}
use Rattle.pst_image_rules.specs.Mirror.{IsPointerSlot, IsInverseSlot, shape_of, IsEntered, IsEnteredAt, HasPointer, IsPointedAt, ArePointersEntered, AreEntriesPointed}
use Rattle.pst_image_rules.specs.declared.sides.Side.{Side}
use Rattle.pst_image_rules.specs.declared.sides.Side.TheVariants.{Pointers, Entries}
use Rattle.pst_image_rules.specs.Sides.{AreTyped, IsSlotOf, HasPartner, IsMirroredAt, IsNodeMirrored, AreMirrored}
use Rattle.pst_image_rules.proofs.Order.{first_there, begins_at_lo, begins_later, at_slot, at_place}

some_same : {A : Type 0} (x y : A) → Some x ≡ Some y → x ≡ y
some_same x y e = cc

-- ---- kinds

pointer_kind : (t : TypeShape) (g : ℕ) → IsPointerSlot t g → (ty : TypeNo) × (field_kind t g ≡ Some (Pointer ty))
pointer_kind t g slot = (
  get_or t.targets (g - t.values) root_type,
  ap (λ (b : Bool). cond b (Some Int) (option_map Pointer (slice_get t.targets (g - t.values)))) (le-ltb g t.values slot.from)
      ∙ ap (λ (o : Option TypeNo). option_map Pointer o) (slice_get-get_or t.targets (g - t.values) root_type (omega (arith, slot.from, slot.below))),
)

inverse_kind : (t : TypeShape) (g : ℕ) → IsInverseSlot t g → field_kind t g ≡ None
inverse_kind t g slot =
    ap (λ (b : Bool). cond b (Some Int) (option_map Pointer (slice_get t.targets (g - t.values)))) (le-ltb g t.values (omega (arith, slot.from)))
    ∙ ap (λ (o : Option TypeNo). option_map Pointer o) (slice_get_past t.targets (g - t.values) (omega (arith, slot.from)))

mapped_some : (o : Option TypeNo) (k : Kind) → option_map Pointer o ≡ Some k → (ty : TypeNo) × (o ≡ Some ty)
mapped_some None k e = absurd cc
mapped_some (Some ty) k e = (ty, refl)

kind_below : (t : TypeShape) (f : ℕ) (k : Kind) → field_kind t f ≡ Some k → f < element_count t
kind_below t f k e = by (cases_lt f t.values)
  where
    by : (f < t.values) ⊎ (t.values ≤ f) → f < element_count t
    by (inl lt) = omega arith
    by (inr le) =
        let found = mapped_some (slice_get t.targets (f - t.values)) k
        (sym (ap (λ (b : Bool). cond b (Some Int) (option_map Pointer (slice_get t.targets (f - t.values)))) (le-ltb f t.values le)) ∙ e) in
        omega (arith, slice_get_within t.targets (f - t.values) found.0 found.1, le)

-- ---- contents

mapped_content : (o : Option StampPart) (c : ℕ) → option_map (λ s. s.content) o ≡ Some c → (s : StampPart) × (o ≡ Some s) × (s.content ≡ c)
mapped_content None c e = absurd cc
mapped_content (Some s) c e = (s, refl, some_same s.content c e)

content_fits : (shape : List TypeShape) (ks : List NodePart) (i g a c : ℕ) → AreTyped shape ks → i < length ks → g < length (node_at ks i).bases → begins (node_at ks i) g a ≡ Some c
    → FitsSlot shape ks (node_at ks i).ty g c
content_fits shape ks i g a c typed lt there e = by (cases_eq a (node_at ks i).lo)
  where
    by : (a ≡ (node_at ks i).lo) ⊎ (a ≢ (node_at ks i).lo) → FitsSlot shape ks (node_at ks i).ty g c
    by (inl is) =
        let same = some_same (get_or (node_at ks i).bases g 0) c (sym (begins_at_lo (node_at ks i) g a is) ∙ e) in
        subst (λ (x : ℕ). FitsSlot shape ks (node_at ks i).ty g x) same ((typed.1 i lt).bases_fit g there)
    by (inr not) =
        let found = mapped_content (first (is_at g a) (node_at ks i).stamps) c (sym (begins_later (node_at ks i) g a not) ∙ e) in
        let at = first_there (is_at g a) (node_at ks i).stamps found.0 found.1 in
        let fits = (typed.1 i lt).stamps_fit at.0 at.1 in
        let slot : (stamp_of (node_at ks i) at.0).slot.0 ≡ g = ap (λ (s : StampPart). s.slot.0) at.2 ∙ at_slot g a found.0 at.3 in
        let held : (stamp_of (node_at ks i) at.0).content ≡ c = ap (λ (s : StampPart). s.content) at.2 ∙ found.2 in
        subst (λ (x : ℕ). FitsSlot shape ks (node_at ks i).ty g x) held (subst (λ (h : ℕ). FitsSlot shape ks (node_at ks i).ty h (stamp_of (node_at ks i) at.0).content) slot fits)

-- a slot of this kind is there
pub pointer_slot_there : (shape : List TypeShape) (ks : List NodePart) (i g : ℕ) → AreTyped shape ks → i < length ks → IsPointerSlot (shape_of shape ks i) g → g < length (node_at ks i).bases
pointer_slot_there shape ks i g typed lt slot = omega (arith, (typed.1 i lt).slots, slot.below)

pub inverse_slot_there : (shape : List TypeShape) (ks : List NodePart) (i g : ℕ) → AreTyped shape ks → i < length ks → IsInverseSlot (shape_of shape ks i) g → g < length (node_at ks i).bases
inverse_slot_there shape ks i g typed lt slot = omega (arith, (typed.1 i lt).slots, slot.below)

-- a pointer leads to a node that is there
pub pointer_there : (shape : List TypeShape) (ks : List NodePart) (i g a c : ℕ) → AreTyped shape ks → i < length ks
    → IsPointerSlot (shape_of shape ks i) g → begins (node_at ks i) g a ≡ Some c → c ≢ 0 → c - 1 < length ks
pointer_there shape ks i g a c typed lt slot e some =
    let kind = pointer_kind (shape_of shape ks i) g slot in
    by kind.0 (subst (λ (k : Option Kind). HasKind shape ks (node_at ks i).ty k c) kind.1 (content_fits shape ks i g a c typed lt (pointer_slot_there shape ks i g typed lt slot) e))
  where
    by : (ty : TypeNo) → HoldsPointer ks ty c → c - 1 < length ks
    by ty (inl none) = absurd (some none)
    by ty (inr h) = omega (arith, h.1, h.2.0)

-- an entry is that of a slot that is there
record IsEntryThere (ks : List NodePart) (c : ℕ) : Type 0 where
  node : ℕ
  slot : ℕ
  is : c ≡ entry node slot
  small : slot < 128
  node_there : node < length ks
  slot_there : slot < length (node_at ks node).bases

entry_there : (shape : List TypeShape) (ks : List NodePart) (i g a c : ℕ) → AreTyped shape ks → i < length ks → IsInverseSlot (shape_of shape ks i) g
    → begins (node_at ks i) g a ≡ Some c → c ≢ 0 → IsEntryThere ks c
entry_there shape ks i g a c typed lt slot e some =
    by (subst (λ (k : Option Kind). HasKind shape ks (node_at ks i).ty k c) (inverse_kind (shape_of shape ks i) g slot)
    (content_fits shape ks i g a c typed lt (inverse_slot_there shape ks i g typed lt slot) e))
  where
    by : HoldsEntry shape ks (node_at ks i).ty c → IsEntryThere ks c
    by (inl none) = absurd (some none)
    by (inr h) = record {
      node = h.0;
      slot = h.1;
      is = h.2;
      small = h.3;
      node_there = h.4.0;
      slot_there = omega (arith, kind_below (shape_of shape ks h.0) h.1 (Pointer (node_at ks i).ty) h.4.1, (typed.1 h.0 h.4.0).slots);
    }

pub entry_node : (x f : ℕ) → f < 128 → entry x f / 128 ≡ x + 1
entry_node x f lt = omega arith

pub entry_slot : (x f : ℕ) → f < 128 → entry x f % 128 ≡ f
entry_slot x f lt = omega arith

-- what the check reads off an entry
pub record IsRead (ks : List NodePart) (c : ℕ) : Type 0 where
  pub some : 1 ≤ c / 128
  pub node_there : c / 128 - 1 < length ks
  pub slot_there : c % 128 < length (node_at ks (c / 128 - 1)).bases
  pub is : c ≡ entry (c / 128 - 1) (c % 128)
  pub small : c % 128 < 128

pub entry_read : (shape : List TypeShape) (ks : List NodePart) (i g a c : ℕ) → AreTyped shape ks → i < length ks
    → IsInverseSlot (shape_of shape ks i) g → begins (node_at ks i) g a ≡ Some c → c ≢ 0 → IsRead ks c
entry_read shape ks i g a c typed lt slot e some =
    let h = entry_there shape ks i g a c typed lt slot e some in
    let node : c / 128 ≡ h.node + 1 = ap (λ (x : ℕ). x / 128) h.is ∙ entry_node h.node h.slot h.small in
    let field : c % 128 ≡ h.slot = ap (λ (x : ℕ). x % 128) h.is ∙ entry_slot h.node h.slot h.small in
    let same : c / 128 - 1 ≡ h.node = omega arith in
    record {
      some = omega arith;
      node_there = omega (arith, h.node_there);
      slot_there = subst (λ (f : ℕ). f < length (node_at ks (c / 128 - 1)).bases) (sym field) (subst (λ (x : ℕ). h.slot < length (node_at ks x).bases) (sym same) h.slot_there);
      is = h.is ∙ (ap (λ (x : ℕ). entry x h.slot) (sym same) ∙ ap (λ (f : ℕ). entry (c / 128 - 1) f) (sym field));
      small = omega (arith, h.small);
    }

-- ---- what is asked where a segment begins

pub entered_at : (shape : List TypeShape) (ks : List NodePart) (i g a c e : ℕ) → Some c ≡ begins (node_at ks i) g a → c ≢ 0
    → e ≡ ends (node_at ks i) g a → IsEntered shape ks i g a e (c - 1) ↔ IsEnteredAt shape ks i g a
entered_at shape ks i g a c e held some end = (
  λ h y is. subst (λ (z : ℕ). IsEntered shape ks i g a (ends (node_at ks i) g a) z) (target y is) (subst (λ (z : ℕ). IsEntered shape ks i g a z (c - 1)) end h),
  λ at. subst (λ (z : ℕ). IsEntered shape ks i g a z (c - 1)) (sym end) (at (c - 1) (sym held ∙ ap (λ (z : ℕ). Some z) whole)),
)
  where
    whole : c ≡ suc (c - 1)
    whole = omega arith

    target : (y : ℕ) → begins (node_at ks i) g a ≡ Some (suc y) → c - 1 ≡ y
    target y is = (let same = some_same c (suc y) (held ∙ is) in omega arith)

pub pointed_at : (ks : List NodePart) (i g a c e : ℕ) → Some c ≡ begins (node_at ks i) g a → IsRead ks c → e ≡ ends (node_at ks i) g a
    → HasPointer ks (c / 128 - 1) (c % 128) a e i ↔ IsPointedAt ks i g a
pointed_at ks i g a c e held read end = (
  λ h x f small is.
      let same = some_same c (entry x f) (held ∙ is) in
      let node : c / 128 - 1 ≡ x = omega (arith, ap (λ (z : ℕ). z / 128) same, entry_node x f small) in
      let field : c % 128 ≡ f = ap (λ (z : ℕ). z % 128) same ∙ entry_slot x f small in
      subst (λ (z : ℕ). HasPointer ks x z a (ends (node_at ks i) g a) i) field
      (subst (λ (z : ℕ). HasPointer ks z (c % 128) a (ends (node_at ks i) g a) i) node
      (subst (λ (z : ℕ). HasPointer ks (c / 128 - 1) (c % 128) a z i) end h)),
  λ at. subst (λ (z : ℕ). HasPointer ks (c / 128 - 1) (c % 128) a z i) (sym end) (at (c / 128 - 1) (c % 128) read.small (sym held ∙ ap (λ (z : ℕ). Some z) read.is)),
)

-- nothing begins there, or null
pub none_entered : (shape : List TypeShape) (ks : List NodePart) (i g a : ℕ) → None ≡ begins (node_at ks i) g a → IsEnteredAt shape ks i g a
none_entered shape ks i g a held y is = absurd (clash (suc y) (held ∙ is))
  where
    clash : {A : Type 0} (x : A) → None ≡ Some x → ⊥
    clash x e = absurd cc

pub null_entered : (shape : List TypeShape) (ks : List NodePart) (i g a c : ℕ) → Some c ≡ begins (node_at ks i) g a → c ≡ 0 → IsEnteredAt shape ks i g a
null_entered shape ks i g a c held null y is = absurd (let same = some_same c (suc y) (held ∙ is) in omega arith)

pub none_pointed : (ks : List NodePart) (i g a : ℕ) → None ≡ begins (node_at ks i) g a → IsPointedAt ks i g a
none_pointed ks i g a held x f small is = absurd (clash (entry x f) (held ∙ is))
  where
    clash : {A : Type 0} (x : A) → None ≡ Some x → ⊥
    clash x e = absurd cc

pub free_pointed : (ks : List NodePart) (i g a c : ℕ) → Some c ≡ begins (node_at ks i) g a → c ≡ 0 → IsPointedAt ks i g a
free_pointed ks i g a c held null x f small is = absurd (let same = some_same c (entry x f) (held ∙ is) in omega arith)

-- ---- what is mirrored where bases and stamped values begin is mirrored everywhere

mirrored_where : (shape : List TypeShape) (ks : List NodePart) (side : Side) (i g a c : ℕ) → IsNodeMirrored shape ks side i
    → g < length (node_at ks i).bases → begins (node_at ks i) g a ≡ Some c → IsMirroredAt shape ks side i g a
mirrored_where shape ks side i g a c mirrored there e = by (cases_eq a (node_at ks i).lo)
  where
    by : (a ≡ (node_at ks i).lo) ⊎ (a ≢ (node_at ks i).lo) → IsMirroredAt shape ks side i g a
    by (inl is) = subst (λ (x : ℕ). IsMirroredAt shape ks side i g x) (sym is) (mirrored.bases g there)
    by (inr not) =
        let found = mapped_content (first (is_at g a) (node_at ks i).stamps) c (sym (begins_later (node_at ks i) g a not) ∙ e) in
        let at = first_there (is_at g a) (node_at ks i).stamps found.0 found.1 in
        let slot : (stamp_of (node_at ks i) at.0).slot.0 ≡ g = ap (λ (s : StampPart). s.slot.0) at.2 ∙ at_slot g a found.0 at.3 in
        let place : (stamp_of (node_at ks i) at.0).place ≡ a = ap (λ (s : StampPart). s.place) at.2 ∙ at_place g a found.0 at.3 in
        subst (λ (x : ℕ). IsMirroredAt shape ks side i g x) place (subst (λ (x : ℕ). IsMirroredAt shape ks side i x (stamp_of (node_at ks i) at.0).place) slot (mirrored.stamps at.0 at.1))

pub pointers_entered : (shape : List TypeShape) (ks : List NodePart) → AreTyped shape ks → AreMirrored shape ks Pointers ↔ ArePointersEntered shape ks
pointers_entered shape ks typed = (
  λ mirrored x f a lt slot y e. (mirrored_where shape ks Pointers x f a (suc y) (mirrored x lt) (pointer_slot_there shape ks x f typed lt slot) e).mirrored slot y e,
  λ all i lt. record {
    bases = λ g there. record { mirrored = λ slot. all i g (node_at ks i).lo lt slot };
    stamps =
        λ j there. record { mirrored = λ slot. all i (stamp_of (node_at ks i) j).slot.0 (stamp_of (node_at ks i) j).place lt slot };
  },
)

pub entries_pointed : (shape : List TypeShape) (ks : List NodePart) → AreTyped shape ks → AreMirrored shape ks Entries ↔ AreEntriesPointed shape ks
entries_pointed shape ks typed = (
  λ mirrored y s a lt slot x f small e. (mirrored_where shape ks Entries y s a (entry x f) (mirrored y lt) (inverse_slot_there shape ks y s typed lt slot) e).mirrored slot x f small e,
  λ all i lt. record {
    bases = λ g there. record { mirrored = λ slot. all i g (node_at ks i).lo lt slot };
    stamps =
        λ j there. record { mirrored = λ slot. all i (stamp_of (node_at ks i) j).slot.0 (stamp_of (node_at ks i) j).place lt slot };
  },
)

pub mirrored_pointers : (shape : List TypeShape) (ks : List NodePart) (side : Side) (i g a : ℕ) (b : Bool) → side ≡ Pointers
    → IsSlotOf side (shape_of shape ks i) g → IsTrue b ↔ IsEnteredAt shape ks i g a → IsTrue b ↔ IsMirroredAt shape ks side i g a
mirrored_pointers shape ks side i g a b is slot both = (
  λ t. record { mirrored = λ s. subst (λ (x : Side). HasPartner shape ks x i g a) (sym is) (both.0 t) },
  λ f. both.1 (subst (λ (x : Side). HasPartner shape ks x i g a) is (f.mirrored slot)),
)

pub mirrored_entries : (shape : List TypeShape) (ks : List NodePart) (side : Side) (i g a : ℕ) (b : Bool) → side ≡ Entries
    → IsSlotOf side (shape_of shape ks i) g → IsTrue b ↔ IsPointedAt ks i g a → IsTrue b ↔ IsMirroredAt shape ks side i g a
mirrored_entries shape ks side i g a b is slot both = (
  λ t. record { mirrored = λ s. subst (λ (x : Side). HasPartner shape ks x i g a) (sym is) (both.0 t) },
  λ f. both.1 (subst (λ (x : Side). HasPartner shape ks x i g a) is (f.mirrored slot)),
)
