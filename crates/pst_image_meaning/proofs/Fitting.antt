-- The content of a number that fits a slot is of the slot's kind.
use Rattle.std.proofs.Common.{◌≡◌, ℕ, zero, suc, ◌-◌, ◌<◌, ◌≤◌, List, length, Option, Some, None, refl, sym, ap, ◌∙◌, inl, ⊎_elim, arith}
use Rattle.std.specs.Prelude.{slice_get}
use Rattle.std.specs.Option.{option_map}
use Rattle.std.proofs.lemmas.Bool.{cases_lt}
use Rattle.pst_base.specs.declared.names.Kind.{Kind}
use Rattle.pst_base.specs.declared.names.Kind.TheVariants.{Int, Pointer}
use Rattle.pst_base.specs.declared.names.TypeNo.{TypeNo}
use Rattle.pst_base.specs.declared.shape.TypeShape.{TypeShape}
use Rattle.pst_base.specs.Shape.{type_at, field_kind, element_count}
use Rattle.pst_mirror.specs.Kinds.{IsInverse, HasKind as IsOfKind}
use Rattle.pst_mirror.proofs.KindLemmas.{pointer_field}
use Rattle.pst_image_form.specs.declared.parts.NodePart.{NodePart}
use Rattle.pst_image_rules.specs.Nodes.{node_at, slot_count, IsNodeOf, HoldsPointer, HasKind, FitsSlot}
use Rattle.pst_image_meaning.specs.Denoted.{pointer_content, entry_content, kind_content, content_of}
use Rattle.pst_image_meaning.proofs.Numbers.{value_kind, behind_values, pointer_kind}

int_field : (t : TypeShape) (g : ℕ) → field_kind t g ≡ Some Int → g < t.values
int_field t g e = ⊎_elim
    (λ (l : g < t.values). l)
    (λ (le : t.values ≤ g). absurd (no (slice_get t.targets (g - t.values)) (sym (behind_values t g le) ∙ e)))
    (cases_lt g t.values)
  where
    no : (o : Option TypeNo) → option_map Pointer o ≡ Some Int → ⊥
    no None q = cc
    no (Some u) q = cc

pub none_field : (t : TypeShape) (g : ℕ) → field_kind t g ≡ None → element_count t ≤ g
none_field t g e = ⊎_elim
    (λ (l : g < element_count t). ⊎_elim
    (λ (v : g < t.values). absurd (let no : Some Int ≡ None = sym (value_kind t g v) ∙ e in cc))
    (λ (v : t.values ≤ g). absurd (let u = pointer_kind t g v l in let no : Some (Pointer u.0) ≡ None = sym u.1 ∙ e in cc))
    (cases_lt g t.values))
    (λ (le : element_count t ≤ g). le)
    (cases_lt g (element_count t))

module _ (shape : List TypeShape) (ks : List NodePart) (kty : TypeNo) (ty : ℕ → TypeNo)
    (same : (y : ℕ) → y < length ks → (node_at ks y).ty.0 ≡ (ty y).0) (g : ℕ) (below : g < slot_count (type_at shape kty)) where
  abbrev t : TypeShape
  t = type_at shape kty

  pointer_of : (u : TypeNo) (c : ℕ) → field_kind t g ≡ Some (Pointer u) → HoldsPointer ks u c → IsOfKind t ty g (pointer_content c)
  pointer_of u zero e k = (let f = pointer_field t g u e in (f.0, inl f.1))
  pointer_of u (suc y) e k = ⊎_elim
      (λ (z : suc y ≡ 0). absurd (omega (arith, z)))
      (λ (x : (z : ℕ) × (suc y ≡ suc z) × IsNodeOf ks z u).
      let one : x.0 ≡ y = (let q = x.1 in omega (arith, q)) in
      let number : u.0 ≡ (ty y).0 = sym x.2.1 ∙ same x.0 x.2.0 ∙ ap (λ (n : ℕ). (ty n).0) one in
      let typed : u ≡ ty y = λ i. record { 0 = number i } in
      e ∙ ap (λ (v : TypeNo). Some (Pointer v)) typed)
      k

  entry_of : (c : ℕ) → IsInverse t g → IsOfKind t ty g (entry_content c)
  entry_of zero i = i
  entry_of (suc c) i = i

  pub kind_from : (c : ℕ) → FitsSlot shape ks kty g c → IsOfKind t ty g (content_of t g c)
  kind_from c fits = by (field_kind t g) refl fits
    where
      by : (o : Option Kind) → field_kind t g ≡ o → HasKind shape ks kty o c → IsOfKind t ty g (kind_content o c)
      by (Some Int) e k = int_field t g e
      by (Some (Pointer u)) e k = pointer_of u c e k
      by None e k = entry_of c (record { from = none_field t g e; below = below })
