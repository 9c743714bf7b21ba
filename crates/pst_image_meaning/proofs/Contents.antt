-- What a store holds that is made of an image: contents of numbers that fit their slots.
use mir.Facts.{sfits_to_z}
use Rattle.std.proofs.Common.{◌≡◌, ℕ, zero, suc, ◌-◌, ◌/◌, ◌%◌, ◌<◌, ◌≤◌, ◌^◌, List, length, get_or, Option, Some, None, refl, sym, ap, ◌∙◌, ◌⊎◌, inl, inr, subst, ⊎_elim, arith}
use Rattle.std.specs.Prelude.{slice_get}
use Rattle.std.specs.Int.{w64}
use Rattle.std.proofs.lemmas.Bool.{cases_lt}
use Rattle.std.proofs.lemmas.Option.{get_or_from_slice_get, slice_get-get_or}
use Rattle.pst_base.specs.declared.names.Kind.{Kind}
use Rattle.pst_base.specs.declared.names.Kind.TheVariants.{Int, Pointer}
use Rattle.pst_base.specs.declared.names.TypeNo.{TypeNo}
use Rattle.pst_base.specs.declared.shape.TypeShape.{TypeShape}
use Rattle.pst_base.specs.Shape.{type_at, field_kind}
use Rattle.pst_order.specs.Places.{rank}
use Rattle.pst_rows.specs.declared.content.Content.{Content}
use Rattle.pst_rows.specs.declared.content.Content.TheVariants.{Number, Null, Free, Target as TargetOf, From as FromOf}
use Rattle.pst_rows.specs.declared.content.Stamp.{Stamp}
use Rattle.pst_rows.specs.Rows.{no_stamp as no_stamp_of}
use Rattle.pst_rows.specs.Values.{base_in, content_in}
use Rattle.pst_mirror.specs.Contents.{Target, From}
use Rattle.pst_mirror.proofs.KindLemmas.{pointer_field}
use Rattle.pst_store_meaning.specs.Store.{Node, Stored}
use Rattle.pst_store_meaning.proofs.Places.{slice_get-below, slice_get-map}
use Rattle.pst_image_form.specs.declared.parts.NodePart.{NodePart}
use Rattle.pst_image_form.specs.declared.parts.ImageParts.{ImageParts}
use Rattle.pst_image_form.specs.Bytes.{Fits64, FitsStamp, FitsNode}
use Rattle.pst_image_rules.specs.Nodes.{no_stamp, node_at, stamp_of, entry, slot_count, IsNodeOf, IsFieldTo, HoldsPointer, HoldsEntry, HasKind, FitsSlot, IsNode}
use Rattle.pst_image_rules.specs.Mirror.{IsPointerSlot, IsInverseSlot, shape_of}
use Rattle.pst_image_meaning.specs.Parts.{content_number}
use Rattle.pst_image_meaning.specs.Denoted.{pointer_content, entry_content, kind_content, content_of, contents_from, stamp_of as stamp_made, node_of, IsShortContent, AreShort}
use Rattle.pst_image_meaning.proofs.Numbers.{numbers_back, pointer_kind, inverse_kind, entry_is}
use Rattle.pst_image_meaning.proofs.Held.{at_all}
use Rattle.pst_image_meaning.proofs.Lists.{all_at, get_or-past}
use Rattle.pst_image_meaning.proofs.Given.{Given}
use Rattle.pst_image_meaning.proofs.Back.{node_is, part_there, fits_node}
use Rattle.pst_image_meaning.proofs.Fitting.{none_field}
use Rattle.pst_image_meaning.proofs.RowsStore.{of_parts, length-contents, base_is, is_node}

-- ---- contents of numbers

-- the content of a number that fits the slot
pub record IsOf (shape : List TypeShape) (ks : List NodePart) (ty : TypeNo) (g : ℕ) (c : Content) : Type 0 where
  pub number : ℕ
  pub below : g < slot_count (type_at shape ty)
  pub small : number < 2 ^ 64
  pub fits : FitsSlot shape ks ty g number
  pub is : c ≡ content_of (type_at shape ty) g number

-- that, or past the slots nothing
abbrev pub IsAny : List TypeShape → List NodePart → TypeNo → ℕ → Content → Type 0
IsAny shape ks ty g c = ((slot_count (type_at shape ty) ≤ g) × (c ≡ Null)) ⊎ IsOf shape ks ty g c

-- ---- which contents they are

abbrev target_in : Content → ℕ
target_in (Number z) = 0
target_in Null = 0
target_in (TargetOf y) = suc y.0
target_in Free = 0
target_in (FromOf x f) = 0

abbrev from_in : Content → ℕ
from_in (Number z) = 0
from_in Null = 0
from_in (TargetOf y) = 0
from_in Free = 0
from_in (FromOf x f) = suc x.0

abbrev field_in : Content → ℕ
field_in (Number z) = 0
field_in Null = 0
field_in (TargetOf y) = 0
field_in Free = 0
field_in (FromOf x f) = f.0

none : {n : ℕ} → 0 ≡ suc n → ⊥
none e = omega (arith, e)

-- a pointer is held in a pointer slot, and leads to a node that is there
pub record IsPointerOf (t : TypeShape) (ks : List NodePart) (g y : ℕ) : Type 0 where
  pub slot : IsPointerSlot t g
  pub there : y < length ks

-- an entry is held in an inverse slot, and is that of a pointer slot of a node that is there
pub record IsEntryOf (shape : List TypeShape) (t : TypeShape) (ks : List NodePart) (g x f : ℕ) : Type 0 where
  pub slot : IsInverseSlot t g
  pub small : f < 128
  pub there : x < length ks
  pub field : IsPointerSlot (shape_of shape ks x) f

module _ (shape : List TypeShape) (ks : List NodePart) (ty : TypeNo) (g : ℕ) where
  abbrev t : TypeShape
  t = type_at shape ty

  slot_of : (u : TypeNo) → field_kind t g ≡ Some (Pointer u) → IsPointerSlot t g
  slot_of u e = (let f = pointer_field t g u e in record { from = f.0; below = f.1 })

  pointer_from : (c : Content) (y : ℕ) → c ≡ Target y → IsOf shape ks ty g c → IsPointerOf t ks g y
  pointer_from c y e o = by (field_kind t g) refl o.fits (ap target_in (sym o.is ∙ e))
    where
      of_pointer : (u : TypeNo) (n : ℕ) → field_kind t g ≡ Some (Pointer u) → HoldsPointer ks u n → target_in (pointer_content n) ≡ suc y → IsPointerOf t ks g y
      of_pointer u zero q k s = absurd (none s)
      of_pointer u (suc z) q k s = ⊎_elim
          (λ (n : suc z ≡ 0). absurd (omega (arith, n)))
          (λ (x : (v : ℕ) × (suc z ≡ suc v) × IsNodeOf ks v u). record { slot = slot_of u q; there = (let l = x.2.0 in let a = x.1 in let b : suc z ≡ suc y = s in omega (arith, l, a, b)) })
          k

      of_entry : (n : ℕ) → target_in (entry_content n) ≡ suc y → IsPointerOf t ks g y
      of_entry zero s = absurd (none s)
      of_entry (suc n) s = absurd (none s)

      by : (k : Option Kind) → field_kind t g ≡ k → HasKind shape ks ty k o.number → target_in (kind_content k o.number) ≡ suc y → IsPointerOf t ks g y
      by (Some Int) q k s = absurd (none s)
      by (Some (Pointer u)) q k s = of_pointer u o.number q k s
      by None q k s = of_entry o.number s

  entry_from : (c : Content) (x f : ℕ) → c ≡ From x f → IsOf shape ks ty g c → IsEntryOf shape t ks g x f
  entry_from c x f e o = by (field_kind t g) refl o.fits (ap from_in (sym o.is ∙ e)) (ap field_in (sym o.is ∙ e))
    where
      of_pointer : (n : ℕ) → from_in (pointer_content n) ≡ suc x → IsEntryOf shape t ks g x f
      of_pointer zero s = absurd (none s)
      of_pointer (suc n) s = absurd (none s)

      of_entry : (n : ℕ) → field_kind t g ≡ None → HoldsEntry shape ks ty n → from_in (entry_content n) ≡ suc x → field_in (entry_content n) ≡ f → IsEntryOf shape t ks g x f
      of_entry zero q k s w = absurd (none s)
      of_entry (suc n) q k s w = ⊎_elim
          (λ (z : suc n ≡ 0). absurd (omega (arith, z)))
          (λ (v : (y : ℕ) × (d : ℕ) × (suc n ≡ entry y d) × (d < 128) × IsFieldTo shape ks y d ty).
          let is = v.2 in
          let few = v.3 in
          let node : suc (suc n / 128 - 1) ≡ suc x = s in
          let slot : suc n % 128 ≡ f = w in
          let one : v.0 ≡ x = omega (arith, is, few, node) in
          let two : v.1 ≡ f = omega (arith, is, few, slot) in
          let field = pointer_field (type_at shape (node_at ks v.0).ty) v.1 ty v.4.1 in
          record {
            slot = record { from = none_field t g q; below = o.below };
            small = omega (arith, few, two);
            there = (let l = v.4.0 in omega (arith, l, one));
            field = subst (λ (y : ℕ). IsPointerSlot (shape_of shape ks y) f) one (subst (IsPointerSlot (shape_of shape ks v.0)) two (record { from = field.0; below = field.1 }));
          })
          k

      by : (k : Option Kind) → field_kind t g ≡ k → HasKind shape ks ty k o.number → from_in (kind_content k o.number) ≡ suc x → field_in (kind_content k o.number) ≡ f → IsEntryOf shape t ks g x f
      by (Some Int) q k s w = absurd (none s)
      by (Some (Pointer u)) q k s w = of_pointer o.number s
      by None q k s w = of_entry o.number q k s w

  -- by its number
  number_is : (c : Content) (o : IsOf shape ks ty g c) → content_number c ≡ o.number
  number_is c o = ap content_number o.is ∙ numbers_back shape ks ty g o.number o.small o.fits

  pub pointer_by : (c : Content) (y : ℕ) → IsPointerSlot t g → IsAny shape ks ty g c → suc y ≡ content_number c → c ≡ Target y
  pointer_by c y slot (inl z) e = absurd (let low = slot.below in omega (arith, low, z.0))
  pointer_by c y slot (inr o) e =
      let k = pointer_kind t g slot.from slot.below in
      o.is ∙ ap (content_of t g) (sym (e ∙ number_is c o)) ∙ ap (λ (k : Option Kind). kind_content k (suc y)) k.1

  pub entry_by : (c : Content) (x f : ℕ) → f < 128 → IsInverseSlot t g → IsAny shape ks ty g c → entry x f ≡ content_number c → c ≡ From x f
  entry_by c x f small slot (inl z) e = absurd (let low = slot.below in omega (arith, low, z.0))
  entry_by c x f small slot (inr o) e =
      o.is ∙ ap (content_of t g) (sym (e ∙ number_is c o)) ∙ ap (λ (k : Option Kind). kind_content k (entry x f)) (inverse_kind t g slot.from)
      ∙ entry_is (entry x f) (record { 0 = x }) (record { 0 = f }) refl small

  pub is_pointer : (c : Content) (y : ℕ) → c ≡ Target y → IsAny shape ks ty g c → IsPointerOf t ks g y
  is_pointer c y e (inl z) = absurd (none (ap target_in (sym z.1 ∙ e)))
  is_pointer c y e (inr o) = pointer_from c y e o

  pub is_entry : (c : Content) (x f : ℕ) → c ≡ From x f → IsAny shape ks ty g c → IsEntryOf shape t ks g x f
  is_entry c x f e (inl z) = absurd (none (ap from_in (sym z.1 ∙ e)))
  is_entry c x f e (inr o) = entry_from c x f e o

-- ---- the rows of the store

module _ (s : Stored) (p : ImageParts) (h : Given s p) where
  abbrev r : ℕ → ℕ
  r = rank s.places

  -- a node that holds such contents alone
  record IsHeldBy (n : Node) : Type 0 where
    pub bases : (g : ℕ) → IsAny s.shape p.nodes n.head.ty g (base_in n.row g)
    pub stamps : (k : ℕ) (e : Stamp) → slice_get n.row.stamps k ≡ Some e → IsAny s.shape p.nodes n.head.ty e.slot.0 e.content

  module _ (k : NodePart) (n : IsNode s.shape p.places p.nodes k) (f : FitsNode k) where
    base_any : (g : ℕ) → IsAny s.shape p.nodes k.ty g (base_in (node_of s.shape k).row g)
    base_any g = ⊎_elim
        (λ (l : g < length k.bases). inr (record {
          number = get_or k.bases g 0;
          below = omega (arith, l, n.slots);
          small = all_at Fits64 k.bases 0 f.bases g l;
          fits = n.bases_fit g l;
          is = base_is s p h k n f g l;
        }))
        (λ (l : length k.bases ≤ g). inl (
          omega (arith, l, n.slots),
          (of_parts s p h k n f).content g ∙ get_or-past (contents_from (type_at s.shape k.ty) 0 k.bases) g Null (omega (arith, l, length-contents (type_at s.shape k.ty) 0 k.bases)),
        ))
        (cases_lt g (length k.bases))

    stamp_any : (j : ℕ) (e : Stamp) → slice_get (node_of s.shape k).row.stamps j ≡ Some e → IsAny s.shape p.nodes k.ty e.slot.0 e.content
    stamp_any j e q =
        let x = slice_get-map (stamp_made (type_at s.shape k.ty)) k.stamps j e q in
        let l : j < length k.stamps = slice_get-below k.stamps j x.0 x.1 in
        let is : stamp_of k j ≡ x.0 = get_or_from_slice_get k.stamps j x.0 no_stamp x.1 in
        let slot = (n.stamps j l).slot in
        subst (λ (e : Stamp). IsAny s.shape p.nodes k.ty e.slot.0 e.content) (ap (stamp_made (type_at s.shape k.ty)) is ∙ x.2)
        (inr (record {
          number = (stamp_of k j).content;
          below = omega (arith, slot, n.slots);
          small = (all_at FitsStamp k.stamps no_stamp f.stamps j l).content;
          fits = n.stamps_fit j l;
          is = refl;
        }))

  held_by : (i : ℕ) (n : Node) → slice_get s.nodes i ≡ Some n → IsHeldBy n
  held_by i n e =
      let l = part_there s p h i n e in
      subst IsHeldBy (sym (node_is s p h i n e)) (record {
        bases = base_any (node_at p.nodes i) (is_node s p h i l) (fits_node s p h i l);
        stamps =
            stamp_any (node_at p.nodes i) (is_node s p h i l) (fits_node s p h i l);
      })

  pub any : (i : ℕ) (n : Node) → slice_get s.nodes i ≡ Some n → (g m : ℕ) → IsAny s.shape p.nodes n.head.ty g (content_in r n.row g m)
  any i n e = (let b = held_by i n e in at_all r n.row (IsAny s.shape p.nodes n.head.ty) b.bases b.stamps)

  -- ---- numbers of 64 bits

  short_of : (k : Option Kind) (n : ℕ) → n < 2 ^ 64 → IsShortContent (kind_content k n)
  short_of (Some Int) n l = sfits_to_z {w = w64} (record { fits = l })
  short_of (Some (Pointer u)) zero l = tt
  short_of (Some (Pointer u)) (suc n) l = tt
  short_of None zero l = tt
  short_of None (suc n) l = tt

  short_any : (ty : TypeNo) (g : ℕ) (c : Content) → IsAny s.shape p.nodes ty g c → IsShortContent c
  short_any ty g c (inl z) = subst IsShortContent (sym z.1) tt
  short_any ty g c (inr o) = subst IsShortContent (sym o.is) (short_of (field_kind (type_at s.shape ty) g) o.number o.small)

  pub short : AreShort s
  short i n e =
      let b = held_by i n e in
      record {
        bases = λ g l. short_any n.head.ty g (base_in n.row g) (b.bases g);
        stamps = λ k l. short_any n.head.ty (get_or n.row.stamps k no_stamp_of).slot.0 (get_or n.row.stamps k no_stamp_of).content
            (b.stamps k (get_or n.row.stamps k no_stamp_of) (slice_get-get_or n.row.stamps k no_stamp_of l));
      }
