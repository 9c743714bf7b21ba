-- What a write of one field at one position does.
use Rattle.std.proofs.Common.{◌≡◌, ◌≢◌, ℕ, ◌+◌, ◌-◌, ◌<◌, ◌≤◌, true, false, cond, Option, Some, None, List, length, ℤ, refl, sym, ap, ◌∙◌, subst, inl, inr, arith}
use Rattle.std.proofs.Math.ListN.{set}
use Rattle.std.specs.Prelude.{slice_get}
use Rattle.std.specs.Option.{option_map}
use Rattle.std.proofs.lemmas.Option.{slice_get_within}
use borrow.Author.Tests.{ltb-false}
use Rattle.std.specs.FinMap.{insert}
use Rattle.std.specs.Prelude.{nat_lt}
use Rattle.pst_base.proofs.Below.{length-listed, listed-same, listed-set}
use Rattle.pst_base.specs.declared.names.TypeNo.{TypeNo}
use Rattle.pst_base.specs.declared.names.Name.{Name}
use Rattle.pst_base.specs.declared.names.Kind.TheVariants.{Int, Pointer}
use Rattle.pst_base.specs.declared.shape.TypeShape.{TypeShape}
use Rattle.pst_base.specs.Shape.{type_at, element_count, field_kind}
use Rattle.pst_base.specs.Heap.{Rec, with_value, with_pointer, value_set, pointer_set}
use Rattle.pst_base.proofs.Degrees.{with_value-at, with_pointer-at}
use Rattle.pst_rows.specs.declared.content.Content.{Content}
use Rattle.pst_rows.specs.declared.content.Content.TheVariants.{Number}
use Rattle.pst_mirror.specs.Contents.{Target, From}
use Rattle.pst_mirror.specs.Mirror.{IsMirrored}
use Rattle.pst_rows.specs.Contents.{number}
use Rattle.pst_store_meaning.specs.Arena.{Arena, IsIn, IsLive, AreChained, IsArena, heap_at, record_at, record_of, denoted}
use Rattle.pst_mirror.specs.Kinds.{HasKind}
use Rattle.pst_store_meaning.specs.Changes.{HasSameNodes}
use Rattle.pst_store_meaning.proofs.HeapLaws.{same_heaps, same_at, put_heap, heap_has}
use Rattle.pst_store_meaning.proofs.RecordLaws.{record_of-same, denoted-names, kind-types}

-- ---- kinds

-- a pointer field is behind the values
pub pointer_field : (t : TypeShape) (g : ℕ) (u : TypeNo) → field_kind t g ≡ Some (Pointer u) → (t.values ≤ g) × (g < element_count t)
pointer_field t g u e = elim (nat_lt g t.values) as (λ b. nat_lt g t.values ≡ b
    → cond b (Some Int) (option_map Pointer (slice_get t.targets (g - t.values))) ≡ Some (Pointer u) → (t.values ≤ g) × (g < element_count t)) [
      | true ↦ λ x h. absurd (cc)
      | false ↦ λ x h. let low : t.values ≤ g = ltb-false g t.values x in
          elim (slice_get t.targets (g - t.values)) as (λ (o : Option TypeNo).
          slice_get t.targets (g - t.values) ≡ o → option_map Pointer o ≡ Some (Pointer u) → (t.values ≤ g) × (g < element_count t)) [
            | None ↦ λ y k. absurd (cc)
            | Some v ↦ λ y k. let w : g - t.values < length t.targets = slice_get_within t.targets (g - t.values) v y in (low, omega arith)
          ] refl h
    ] refl e

-- a value slot holds neither a pointer nor an entry
pub no_target : (t : TypeShape) (ty : ℕ → TypeNo) (g y : ℕ) → HasKind t ty g (Target y) → g < t.values → ⊥
no_target t ty g y k l = let p = pointer_field t g (ty y) k in omega (arith, p.0)

pub no_from : (t : TypeShape) (ty : ℕ → TypeNo) (g x f : ℕ) → HasKind t ty g (From x f) → g < t.values → ⊥
no_from t ty g x f k l = omega (arith, k.from)

-- ---- one field, one position

module _ (shape : List TypeShape) (end : ℕ) (old new : Arena) (x f b : ℕ) (a : IsArena shape end old) (o : HasSameNodes old new) where
  pub in_new : (i n : ℕ) → IsIn old i n → IsIn new i n
  in_new i n h = record { there = omega (arith, o.count, h.there); low = omega (arith, o.lo i, h.low); high = omega (arith, o.hi i, h.high) }

  pub in_old : (i n : ℕ) → IsIn new i n → IsIn old i n
  in_old i n h = record { there = omega (arith, o.count, h.there); low = omega (arith, o.lo i, h.low); high = omega (arith, o.hi i, h.high) }

  was : (i : ℕ) → i < new.count → i < old.count
  was i h = omega (arith, o.count)

  pub same_chained : AreChained new
  same_chained = record {
    some = λ i h. omega (arith, a.chained.some i (was i h), o.lo i, o.hi i);
    next = λ i j h s.
        let v : (j < old.count) × (old.name j ≡ old.name i) × (old.lo j ≡ old.hi i) = a.chained.next i j (was i h) (sym (o.later i) ∙ s) in
        (omega (arith, v.0, o.count), o.name j ∙ v.1 ∙ sym (o.name i), o.lo j ∙ v.2 ∙ sym (o.hi i));
    last = λ i j h g s n. omega (arith, a.chained.last i j (was i h) (was j g) (sym (o.later i) ∙ s) (sym (o.name j) ∙ n ∙ o.name i), o.hi i, o.hi j);
    apart = λ i j h g ne n. elim (a.chained.apart i j (was i h) (was j g) ne (sym (o.name i) ∙ n ∙ o.name j)) [
      | inl v ↦ inl (omega (arith, v, o.hi i, o.lo j))
      | inr v ↦ inr (omega (arith, v, o.hi j, o.lo i))
    ];
  }

  pub same_live : (i n : ℕ) → IsLive old i n → IsLive new i n
  same_live i n h = record {
    there = omega (arith, o.count, h.there);
    begun = omega (arith, o.lo i, h.begun);
    covering = (h.covering.0, in_new h.covering.0 n h.covering.1, o.name h.covering.0 ∙ h.covering.2 ∙ sym (o.name i));
  }

  -- the arena, once what is held is known to be matched and of the right kinds
  pub same_arena : IsMirrored new.chart → ((i g n : ℕ) → IsIn old i n → HasKind (type_at shape (old.ty i)) old.ty g (new.chart.holds i g n)) → IsArena shape end new
  same_arena mir kinds = record {
    chained = same_chained;
    one_type = λ i j h g n. o.ty i ∙ a.one_type i j (was i h) (was j g) (sym (o.name i) ∙ n ∙ o.name j) ∙ sym (o.ty j);
    known = λ i h. subst (λ (t : TypeNo). t.0 < length shape) (sym (o.ty i)) (a.known i (was i h));
    mirrored = mir;
    kinds = λ i g n h. kind-types (type_at shape (old.ty i)) (type_at shape (new.ty i)) old.ty new.ty g (new.chart.holds i g n)
        (ap (type_at shape) (o.ty i)) (λ y q. o.ty y) (kinds i g n (in_old i n h));
    root = λ n h. let r = a.root n h in (r.0, in_new r.0 n r.1, o.name r.0 ∙ r.2, o.ty r.0 ∙ r.3);
    one_root = λ i h t. o.name i ∙ a.one_root i (was i h) (sym (o.ty i) ∙ t);
  }

  module _ (others : (i g n : ℕ) → g < element_count (type_at shape (old.ty i)) → (i ≡ x → g ≡ f → n ≡ b → ⊥) → new.chart.holds i g n ≡ old.chart.holds i g n) where
    other_record : (i n : ℕ) → (i ≡ x → n ≡ b → ⊥) → record_at shape new i n ≡ record_at shape old i n
    other_record i n off = record_of-same shape (old.ty i) (new.ty i) old.name new.name (λ g. old.chart.holds i g n) (λ g. new.chart.holds i g n) (o.ty i)
        (λ g l. ap number (others i g n l (λ p q r. off p r)))
        (λ g l. ap (denoted new.name) (others i g n l (λ p q r. off p r)) ∙ denoted-names old.name new.name (old.chart.holds i g n) (λ y q. o.name y))

    pub elsewhere : (n : ℕ) → n ≢ b → heap_at shape new n ≡ heap_at shape old n
    elsewhere n ne = same_heaps shape old new n n a.chained same_chained
        (λ i h. (i, in_new i n h, o.name i, other_record i n (λ p q. ne q)))
        (λ j h. (j, in_old j n h, sym (o.name j)))

    pub here : IsIn old x b → heap_at shape new b ≡ insert (heap_at shape old b) (old.name x) (record_at shape new x b)
    here h =
        put_heap shape new b x (heap_at shape old b) same_chained (in_new x b h)
        (λ q ne. same_at shape old new b b q a.chained same_chained
        (λ i l is. (i, in_new i b l, o.name i ∙ is, other_record i b (λ p r. ne (sym is ∙ sym (o.name i) ∙ ap new.name p))))
        (λ j l is. (j, in_old j b l, sym (o.name j) ∙ is)))
        ∙ ap (λ q. insert (heap_at shape old b) q (record_at shape new x b)) (o.name x)

    -- a number is written
    pub number_here : (v : ℤ) → IsIn old x b → f < (type_at shape (old.ty x)).values → new.chart.holds x f b ≡ Number v
        → heap_at shape new b ≡ with_value (heap_at shape old b) (old.name x) f v
    number_here v h l c =
        let t : TypeShape = type_at shape (old.ty x) in
        let rec : record_at shape new x b ≡ value_set (record_at shape old x b) f v =
        ap (λ (t : TypeNo). record_of shape t new.name (λ g. new.chart.holds x g b)) (o.ty x) ∙
        (λ i. record {
          ty = old.ty x;
          values = listed-set (type_at shape (old.ty x)).values (λ g. number (old.chart.holds x g b)) (λ g. number (new.chart.holds x g b)) f v l
              (ap number c) (λ j m ne. ap number (others x j b (omega arith) (λ p q r. ne q))) i;
          pointers = listed-same (length (type_at shape (old.ty x)).targets)
              (λ k. denoted new.name (new.chart.holds x ((type_at shape (old.ty x)).values + k) b))
              (λ k. denoted old.name (old.chart.holds x ((type_at shape (old.ty x)).values + k) b))
              (λ k m. ap (denoted new.name) (others x ((type_at shape (old.ty x)).values + k) b (omega arith) (λ p q r. absurd (omega arith)))
              ∙ denoted-names old.name new.name (old.chart.holds x ((type_at shape (old.ty x)).values + k) b) (λ y q. o.name y)) i;
        }) in
        here h ∙ ap (λ (r : Rec). insert (heap_at shape old b) (old.name x) r) rec
        ∙ sym (with_value-at (heap_at shape old b) (old.name x) f v (record_at shape old x b) (heap_has shape old b a.chained x h))

    -- a pointer is written
    pub pointer_here : (c : Content) (p : Option Name) → IsIn old x b → (type_at shape (old.ty x)).values ≤ f
        → f < element_count (type_at shape (old.ty x)) → new.chart.holds x f b ≡ c → denoted old.name c ≡ p
        → heap_at shape new b ≡ with_pointer (heap_at shape old b) (old.name x) f p
    pointer_here c p h low high is den =
        let k : ℕ = f - (type_at shape (old.ty x)).values in
        let at : (type_at shape (old.ty x)).values + (f - (type_at shape (old.ty x)).values) ≡ f = omega arith in
        let len : length (record_at shape old x b).values ≡ (type_at shape (old.ty x)).values = length-listed (type_at shape (old.ty x)).values (λ g. number (old.chart.holds x g b)) in
        let now : denoted new.name (new.chart.holds x ((type_at shape (old.ty x)).values + (f - (type_at shape (old.ty x)).values)) b) ≡ p =
        ap (λ g. denoted new.name (new.chart.holds x g b)) at ∙ ap (denoted new.name) is ∙ denoted-names old.name new.name c (λ y q. o.name y) ∙ den in
        let rec : record_at shape new x b ≡ record (record_at shape old x b) { pointers = set (record_at shape old x b).pointers (f - (type_at shape (old.ty x)).values) p } =
        ap (λ (t : TypeNo). record_of shape t new.name (λ g. new.chart.holds x g b)) (o.ty x) ∙
        (λ i. record {
          ty = old.ty x;
          values = listed-same (type_at shape (old.ty x)).values (λ g. number (new.chart.holds x g b)) (λ g. number (old.chart.holds x g b))
              (λ g m. ap number (others x g b (omega arith) (λ p q r. absurd (omega arith)))) i;
          pointers = listed-set (length (type_at shape (old.ty x)).targets)
              (λ k. denoted old.name (old.chart.holds x ((type_at shape (old.ty x)).values + k) b))
              (λ k. denoted new.name (new.chart.holds x ((type_at shape (old.ty x)).values + k) b)) (f - (type_at shape (old.ty x)).values) p (omega arith) now
              (λ j m ne. ap (denoted new.name) (others x ((type_at shape (old.ty x)).values + j) b (omega arith) (λ p q r. ne (omega arith)))
              ∙ denoted-names old.name new.name (old.chart.holds x ((type_at shape (old.ty x)).values + j) b) (λ y q. o.name y)) i;
        }) in
        let same : record (record_at shape old x b) { pointers = set (record_at shape old x b).pointers (f - (type_at shape (old.ty x)).values) p } ≡ pointer_set (record_at shape old x b) f p =
        ap (λ (m : ℕ). record (record_at shape old x b) { pointers = set (record_at shape old x b).pointers (f - m) p }) (sym len) in
        here h ∙ ap (λ (r : Rec). insert (heap_at shape old b) (old.name x) r) (rec ∙ same)
        ∙ sym (with_pointer-at (heap_at shape old b) (old.name x) f p (record_at shape old x b) (heap_has shape old b a.chained x h))
