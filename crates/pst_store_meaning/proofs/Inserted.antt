-- A place that comes in.
use Rattle.std.proofs.Common.{◌≡◌, ℕ, suc, ◌<◌, List, length, sym, ap, ◌∙◌, subst, inl, inr, arith}
use Rattle.pst_base.specs.declared.names.TypeNo.{TypeNo}
use Rattle.pst_base.specs.declared.shape.TypeShape.{TypeShape}
use Rattle.pst_base.specs.Shape.{type_at}
use Rattle.pst_rows.specs.declared.content.Content.{Content}
use Rattle.pst_mirror.specs.Fork.{shift, back}
use Rattle.pst_mirror.proofs.ForkLemmas.{shift_cases, back_cases, reindex_law}
use Rattle.pst_rows.specs.Contents.{number}
use Rattle.pst_store_meaning.specs.Arena.{Arena, IsIn, IsLive, AreChained, IsArena, IsDrawn, heap_at, record_at, denoted}
use Rattle.pst_mirror.specs.Kinds.{HasKind}
use Rattle.pst_store_meaning.specs.Changes.{IsInserted, InsertedKeeps, InsertedLaw}
use Rattle.pst_store_meaning.proofs.HeapLaws.{same_heaps}
use Rattle.pst_store_meaning.proofs.RecordLaws.{record_of-same, denoted-names, kind-types}

module _ (shape : List TypeShape) (end : ℕ) (old new : Arena) (k : ℕ) (a : IsArena shape end old) (d : IsDrawn old) (e : IsDrawn new) (l : k < end) (o : IsInserted old new k) where
  pub in_new : (i n : ℕ) → IsIn old i (back k n) → IsIn new i n
  in_new i n h = record {
    there = omega (arith, o.count, h.there);
    low = omega (arith, o.lo i h.there, shift_cases k (old.lo i), back_cases k n, h.low);
    high = omega (arith, o.hi i h.there, shift_cases k (old.hi i), back_cases k n, h.high);
  }

  pub in_old : (i n : ℕ) → IsIn new i n → IsIn old i (back k n)
  in_old i n h =
      let there : i < old.count = omega (arith, o.count, h.there) in
      record {
        there = there;
        low = omega (arith, o.lo i there, shift_cases k (old.lo i), back_cases k n, h.low);
        high = omega (arith, o.hi i there, shift_cases k (old.hi i), back_cases k n, h.high);
      }

  was : (i : ℕ) → i < new.count → i < old.count
  was i h = omega (arith, o.count)

  inserted_chained : AreChained new
  inserted_chained = record {
    some = λ i h. let p = was i h in omega (arith, a.chained.some i p, o.lo i p, o.hi i p, shift_cases k (old.lo i), shift_cases k (old.hi i));
    next = λ i j h s.
        let p = was i h in
        let v : (j < old.count) × (old.name j ≡ old.name i) × (old.lo j ≡ old.hi i) = a.chained.next i j p (sym (o.later i) ∙ s) in
        (omega (arith, v.0, o.count), o.name j ∙ v.1 ∙ sym (o.name i), o.lo j v.0 ∙ ap (shift k) v.2 ∙ sym (o.hi i p));
    last = λ i j h g s n.
        let p = was i h in
        let q = was j g in
        omega (arith, a.chained.last i j p q (sym (o.later i) ∙ s) (sym (o.name j) ∙ n ∙ o.name i), o.hi i p, o.hi j q, shift_cases k (old.hi i), shift_cases k (old.hi j));
    apart = λ i j h g ne n.
        let p = was i h in
        let q = was j g in
        elim (a.chained.apart i j p q ne (sym (o.name i) ∙ n ∙ o.name j)) [
          | inl v ↦ inl (omega (arith, v, o.hi i p, o.lo j q, shift_cases k (old.hi i), shift_cases k (old.lo j)))
          | inr v ↦ inr (omega (arith, v, o.hi j q, o.lo i p, shift_cases k (old.hi j), shift_cases k (old.lo i)))
        ];
  }

  inserted_kind : (i g n : ℕ) → IsIn new i n → HasKind (type_at shape (new.ty i)) new.ty g (new.chart.holds i g n)
  inserted_kind i g n h =
      subst (λ (c : Content). HasKind (type_at shape (new.ty i)) new.ty g c) (sym (o.chart.holds i g n))
      (kind-types (type_at shape (old.ty i)) (type_at shape (new.ty i)) old.ty new.ty g (old.chart.holds i g (back k n)) (ap (type_at shape) (o.ty i))
      (λ y q. o.ty y) (a.kinds i g (back k n) (in_old i n h)))

  inserted_arena : IsArena shape (suc end) new
  inserted_arena = record {
    chained = inserted_chained;
    one_type = λ i j h g n. o.ty i ∙ a.one_type i j (was i h) (was j g) (sym (o.name i) ∙ n ∙ o.name j) ∙ sym (o.ty j);
    known = λ i h. subst (λ (t : TypeNo). t.0 < length shape) (sym (o.ty i)) (a.known i (was i h));
    mirrored = reindex_law old.chart new.chart k o.chart a.mirrored;
    kinds = inserted_kind;
    root = λ n h. let r = a.root (back k n) (omega (arith, back_cases k n)) in (r.0, in_new r.0 n r.1, o.name r.0 ∙ r.2, o.ty r.0 ∙ r.3);
    one_root = λ i h t. o.name i ∙ a.one_root i (was i h) (sym (o.ty i) ∙ t);
  }

  inserted_record : (i n : ℕ) → record_at shape new i n ≡ record_at shape old i (back k n)
  inserted_record i n = record_of-same shape (old.ty i) (new.ty i) old.name new.name (λ g. old.chart.holds i g (back k n)) (λ g. new.chart.holds i g n) (o.ty i)
      (λ g p. ap number (o.chart.holds i g n))
      (λ g p. ap (denoted new.name) (o.chart.holds i g n) ∙ denoted-names old.name new.name (old.chart.holds i g (back k n)) (λ y q. o.name y))

  inserted_heap : (n : ℕ) → heap_at shape new n ≡ heap_at shape old (back k n)
  inserted_heap n = same_heaps shape old new (back k n) n a.chained inserted_chained
      (λ i h. (i, in_new i n h, o.name i, inserted_record i n))
      (λ j h. (j, in_old j n h, sym (o.name j)))

  inserted_live : (i n : ℕ) → IsLive old i (back k n) → IsLive new i n
  inserted_live i n h = record {
    there = omega (arith, o.count, h.there);
    begun = omega (arith, o.lo i h.there, shift_cases k (old.lo i), back_cases k n, h.begun);
    covering = (h.covering.0, in_new h.covering.0 n h.covering.1, o.name h.covering.0 ∙ h.covering.2 ∙ sym (o.name i));
  }

  inserted : InsertedKeeps shape end old new k
  inserted = record { arena = inserted_arena; heaps = inserted_heap; live = inserted_live }

pub inserted_law : InsertedLaw
inserted_law = inserted
