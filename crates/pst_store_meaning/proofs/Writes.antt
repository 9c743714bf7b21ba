-- The three writes: a number set, a pointer taken away, a pointer put in.
use Rattle.std.proofs.Common.{◌≡◌, ℕ, ◌<◌, true, false, eqb, Some, None, List, ℤ, refl, sym, ap, ◌∙◌, subst, inl, inr, ⊎_elim, arith}
use Rattle.std.proofs.lemmas.Bool.{cases_Bool, and_parts, eqb-true, false_from_ne_true}
use Rattle.pst_base.specs.declared.shape.TypeShape.{TypeShape}
use Rattle.pst_base.specs.declared.names.Kind.TheVariants.{Pointer}
use Rattle.pst_base.specs.Shape.{type_at, element_count, field_kind}
use Rattle.pst_base.specs.Heap.{with_value, with_pointer}
use Rattle.pst_rows.specs.declared.content.Content.{Content}
use Rattle.pst_rows.specs.declared.content.Content.TheVariants.{Number, Null, Free}
use Rattle.pst_mirror.specs.Contents.{Target, From}
use Rattle.pst_mirror.specs.Mirror.{IsMirrored, is_there, is_slot, put_two}
use Rattle.pst_mirror.proofs.MirrorLemmas.{there_is, not_there, is_there_same}
use Rattle.pst_mirror.proofs.WriteLemmas.{put_cases, put_first, put_other, unlink_law, link_law}
use Rattle.pst_store_meaning.specs.Arena.{Arena, IsIn, IsArena, IsDrawn, heap_at}
use Rattle.pst_mirror.specs.Kinds.{HasKind, IsInverse}
use Rattle.pst_store_meaning.specs.Changes.{IsNumberSet, IsPointerTaken, IsPointerPut, WriteKeeps, NumberLaw, TakenLaw, PutLaw}
use Rattle.pst_store_meaning.proofs.RecordLaws.{alive, source_alive}
use Rattle.pst_store_meaning.proofs.Written.{pointer_field, no_target, no_from, same_arena, same_live, elsewhere, number_here, pointer_here}

slot_is : (x f i g : ℕ) → is_slot x f i g ≡ true → (i ≡ x) × (g ≡ f)
slot_is x f i g e = let q : (eqb i x ≡ true) × (eqb g f ≡ true) = and_parts (eqb i x) (eqb g f) e in (eqb-true i x q.0, eqb-true g f q.1)

-- ---- a number

module _ (shape : List TypeShape) (end : ℕ) (old new : Arena) (x f b : ℕ) (v : ℤ) (a : IsArena shape end old) (d : IsDrawn old) (e : IsDrawn new)
    (o : IsNumberSet old new x f b v) (h : IsIn old x b) (l : f < (type_at shape (old.ty x)).values) where
  -- the slot never holds a pointer or an entry
  slot_target : (i g n y : ℕ) → old.chart.holds i g n ≡ Target y → i ≡ x → g ≡ f → ⊥
  slot_target i g n y p ix gf =
      let q : old.chart.holds x f n ≡ Target y = ap (λ (k : ℕ). old.chart.holds k f n) (sym ix) ∙ ap (λ (k : ℕ). old.chart.holds i k n) (sym gf) ∙ p in
      let there : IsIn old x n = alive old x f n d (λ none. let z : Target y ≡ Null = sym q ∙ none in cc) in
      no_target (type_at shape (old.ty x)) old.ty f y (subst (λ (c : Content). HasKind (type_at shape (old.ty x)) old.ty f c) q (a.kinds x f n there)) l

  slot_from : (i g n y s : ℕ) → old.chart.holds i g n ≡ From y s → i ≡ x → g ≡ f → ⊥
  slot_from i g n y s p ix gf =
      let q : old.chart.holds x f n ≡ From y s = ap (λ (k : ℕ). old.chart.holds k f n) (sym ix) ∙ ap (λ (k : ℕ). old.chart.holds i k n) (sym gf) ∙ p in
      let there : IsIn old x n = alive old x f n d (λ none. let z : From y s ≡ Null = sym q ∙ none in cc) in
      no_from (type_at shape (old.ty x)) old.ty f y s (subst (λ (c : Content). HasKind (type_at shape (old.ty x)) old.ty f c) q (a.kinds x f n there)) l

  there_new : (i g n : ℕ) → is_there x f b i g n ≡ true → new.chart.holds i g n ≡ Number v
  there_new i g n t = o.set.holds i g n ∙ rw t refl

  other_new : (i g n : ℕ) → is_there x f b i g n ≡ false → new.chart.holds i g n ≡ old.chart.holds i g n
  other_new i g n t = o.set.holds i g n ∙ rw t refl

  target_was : (i g n y : ℕ) → new.chart.holds i g n ≡ Target y → old.chart.holds i g n ≡ Target y
  target_was i g n y p = ⊎_elim
      (λ (t : is_there x f b i g n ≡ true). absurd (let q : Number v ≡ Target y = sym (there_new i g n t) ∙ p in cc))
      (λ (t : is_there x f b i g n ≡ false). sym (other_new i g n t) ∙ p)
      (cases_Bool (is_there x f b i g n))

  from_was : (i g n y s : ℕ) → new.chart.holds i g n ≡ From y s → old.chart.holds i g n ≡ From y s
  from_was i g n y s p = ⊎_elim
      (λ (t : is_there x f b i g n ≡ true). absurd (let q : Number v ≡ From y s = sym (there_new i g n t) ∙ p in cc))
      (λ (t : is_there x f b i g n ≡ false). sym (other_new i g n t) ∙ p)
      (cases_Bool (is_there x f b i g n))

  target_is : (i g n y : ℕ) → old.chart.holds i g n ≡ Target y → new.chart.holds i g n ≡ Target y
  target_is i g n y p = other_new i g n (not_there x f b i g n (λ ix gf nb. slot_target i g n y p ix gf)) ∙ p

  from_is : (i g n y s : ℕ) → old.chart.holds i g n ≡ From y s → new.chart.holds i g n ≡ From y s
  from_is i g n y s p = other_new i g n (not_there x f b i g n (λ ix gf nb. slot_from i g n y s p ix gf)) ∙ p

  edge_same : (i g n : ℕ) → (i ≡ x → g ≡ f → ⊥) → new.chart.edge i g n ≡ old.chart.edge i g n
  edge_same i g n off =
      let none : is_slot x f i g ≡ false = false_from_ne_true (is_slot x f i g) (λ t. let p = slot_is x f i g t in off p.0 p.1) in
      o.set.edges i g n ∙ rw none refl

  number_mirrored : IsMirrored new.chart
  number_mirrored = record {
    found = λ i g n y p. let s = a.mirrored.found i g n y (target_was i g n y p) in (s.0, from_is y s.0 n i g s.1);
    back = λ y s n i g p. target_is i g n y (a.mirrored.back y s n i g (from_was y s n i g p));
    one = λ y s t n i g p q. a.mirrored.one y s t n i g (from_was y s n i g p) (from_was y t n i g q);
    together = λ y s n i g p.
        let q = from_was y s n i g p in
        edge_same y s n (λ u w. slot_from y s n i g q u w) ∙ a.mirrored.together y s n i g q ∙ sym (edge_same i g n (λ u w. slot_target i g n y (a.mirrored.back y s n i g q) u w));
  }

  number_kind : (i g n : ℕ) → IsIn old i n → HasKind (type_at shape (old.ty i)) old.ty g (new.chart.holds i g n)
  number_kind i g n k = ⊎_elim
      (λ (t : is_there x f b i g n ≡ true).
      let p = there_is x f b i g n t in
      subst (λ (c : Content). HasKind (type_at shape (old.ty i)) old.ty g c) (sym (there_new i g n t))
      (subst (λ (i : ℕ). g < (type_at shape (old.ty i)).values) (sym p.0) (subst (λ (g : ℕ). g < (type_at shape (old.ty x)).values) (sym p.1) l)))
      (λ (t : is_there x f b i g n ≡ false). subst (λ (c : Content). HasKind (type_at shape (old.ty i)) old.ty g c) (sym (other_new i g n t)) (a.kinds i g n k))
      (cases_Bool (is_there x f b i g n))

  number_others : (i g n : ℕ) → g < element_count (type_at shape (old.ty i)) → (i ≡ x → g ≡ f → n ≡ b → ⊥) → new.chart.holds i g n ≡ old.chart.holds i g n
  number_others i g n k off = other_new i g n (not_there x f b i g n off)

  number_keeps : WriteKeeps shape end old new b (with_value (heap_at shape old b) (old.name x) f v)
  number_keeps = record {
    arena = same_arena shape end old new x f b a o.nodes number_mirrored number_kind;
    here = number_here shape end old new x f b a o.nodes number_others v h l (there_new x f b (is_there_same x f b));
    elsewhere = elsewhere shape end old new x f b a o.nodes number_others;
    live = same_live shape end old new x f b a o.nodes;
  }

pub number_law : NumberLaw
number_law = number_keeps

-- ---- pointers

-- two slots that are put: what is left is of the right kinds, and no other field changes
module _ (shape : List TypeShape) (end : ℕ) (old new : Arena) (x f : ℕ) (c : Content) (y s : ℕ) (e : Content) (b : ℕ) (a : IsArena shape end old)
    (put : (i g n : ℕ) → new.chart.holds i g n ≡ put_two old.chart x f c y s e b i g n) (inverse : IsInverse (type_at shape (old.ty y)) s) where
  put_kind : HasKind (type_at shape (old.ty x)) old.ty f c → HasKind (type_at shape (old.ty y)) old.ty s e → (i g n : ℕ) → IsIn old i n
      → HasKind (type_at shape (old.ty i)) old.ty g (new.chart.holds i g n)
  put_kind k m i g n h = subst (λ (c : Content). HasKind (type_at shape (old.ty i)) old.ty g c) (sym (put i g n)) (elim (put_cases old.chart x f c y s e b i g n) [
    | inl p ↦ subst (λ (z : Content). HasKind (type_at shape (old.ty i)) old.ty g z) (sym p.3)
        (subst (λ (i : ℕ). HasKind (type_at shape (old.ty i)) old.ty g c) (sym p.0) (subst (λ (g : ℕ). HasKind (type_at shape (old.ty x)) old.ty g c) (sym p.1) k))
    | inr q ↦ elim q [
      | inl p ↦ subst (λ (z : Content). HasKind (type_at shape (old.ty i)) old.ty g z) (sym p.3)
          (subst (λ (i : ℕ). HasKind (type_at shape (old.ty i)) old.ty g e) (sym p.0) (subst (λ (g : ℕ). HasKind (type_at shape (old.ty y)) old.ty g e) (sym p.1) m))
      | inr p ↦ subst (λ (z : Content). HasKind (type_at shape (old.ty i)) old.ty g z) (sym p.2) (a.kinds i g n h)
    ]
  ])

  put_others : (i g n : ℕ) → g < element_count (type_at shape (old.ty i)) → (i ≡ x → g ≡ f → n ≡ b → ⊥) → new.chart.holds i g n ≡ old.chart.holds i g n
  put_others i g n l off = put i g n ∙ put_other old.chart x f c y s e b i g n (not_there x f b i g n off)
      (not_there y s b i g n (λ p q r. let l' : g < element_count (type_at shape (old.ty y)) =
      subst (λ (i : ℕ). g < element_count (type_at shape (old.ty i))) p l in absurd (omega (arith, inverse.from))))

module _ (shape : List TypeShape) (end : ℕ) (old new : Arena) (x f y s b : ℕ) (a : IsArena shape end old) (d : IsDrawn old) (e : IsDrawn new) where
  taken_keeps : IsPointerTaken old new x f y s b → WriteKeeps shape end old new b (with_pointer (heap_at shape old b) (old.name x) f None)
  taken_keeps o =
      let pair : old.chart.holds y s b ≡ From x f = o.unlinked.pair in
      let held : old.chart.holds x f b ≡ Target y = a.mirrored.back y s b x f pair in
      let hx : IsIn old x b = source_alive old y s b x f d a.mirrored pair in
      let hy : IsIn old y b = alive old y s b d (λ none. let z : From x f ≡ Null = sym pair ∙ none in cc) in
      let kx : field_kind (type_at shape (old.ty x)) f ≡ Some (Pointer (old.ty y)) = subst (λ (c : Content). HasKind (type_at shape (old.ty x)) old.ty f c) held (a.kinds x f b hx) in
      let ky : IsInverse (type_at shape (old.ty y)) s = subst (λ (c : Content). HasKind (type_at shape (old.ty y)) old.ty s c) pair (a.kinds y s b hy) in
      let slot = pointer_field (type_at shape (old.ty x)) f (old.ty y) kx in
      let others = put_others shape end old new x f Null y s Free b a o.unlinked.holds ky in
      record {
        arena = same_arena shape end old new x f b a o.nodes (unlink_law old.chart new.chart x f y s b o.unlinked d.steady a.mirrored)
            (put_kind shape end old new x f Null y s Free b a o.unlinked.holds ky (slot.0, inl slot.1) ky);
        here = pointer_here shape end old new x f b a o.nodes others Null None hx slot.0 slot.1 (o.unlinked.holds x f b ∙ put_first old.chart x f Null y s Free b) refl;
        elsewhere = elsewhere shape end old new x f b a o.nodes others;
        live = same_live shape end old new x f b a o.nodes;
      }

  put_keeps : IsPointerPut old new x f y s b → IsIn old x b → field_kind (type_at shape (old.ty x)) f ≡ Some (Pointer (old.ty y))
      → WriteKeeps shape end old new b (with_pointer (heap_at shape old b) (old.name x) f (Some (old.name y)))
  put_keeps o hx kx =
      let free : old.chart.holds y s b ≡ Free = o.linked.free in
      let hy : IsIn old y b = alive old y s b d (λ none. let z : Free ≡ Null = sym free ∙ none in cc) in
      let ky : IsInverse (type_at shape (old.ty y)) s = subst (λ (c : Content). HasKind (type_at shape (old.ty y)) old.ty s c) free (a.kinds y s b hy) in
      let slot = pointer_field (type_at shape (old.ty x)) f (old.ty y) kx in
      let others = put_others shape end old new x f (Target y) y s (From x f) b a o.linked.holds ky in
      record {
        arena = same_arena shape end old new x f b a o.nodes (link_law old.chart new.chart x f y s b o.linked d.steady a.mirrored)
            (put_kind shape end old new x f (Target y) y s (From x f) b a o.linked.holds ky kx ky);
        here = pointer_here shape end old new x f b a o.nodes others (Target y) (Some (old.name y)) hx slot.0 slot.1 (o.linked.holds x f b ∙ put_first old.chart x f (Target y) y s (From x f) b) refl;
        elsewhere = elsewhere shape end old new x f b a o.nodes others;
        live = same_live shape end old new x f b a o.nodes;
      }

pub taken_law : TakenLaw
taken_law = taken_keeps

pub put_law : PutLaw
put_law = put_keeps
