-- A whole pointer write.
use Rattle.std.proofs.Common.{◌≡◌, ℕ, zero, suc, ◌+◌, ◌-◌, ◌<◌, Bool, true, false, cond, List, [], ◌∷◌, length, Option, Some, None, refl, sym, ap, ◌∙◌, subst, inl, inr, ⊎_elim, arith, get_or}
use Rattle.std.proofs.Math.ListN.{set}
use Rattle.std.specs.FinMap.{get, insert, get-insert}
use Rattle.std.proofs.lemmas.Bool.{cases_Bool}
use Rattle.pst_base.proofs.Below.{get_or-listed, length-listed}
use Rattle.pst_base.proofs.Showing.{same_heap}
use Rattle.pst_base.specs.declared.names.TypeNo.{TypeNo}
use Rattle.pst_base.specs.declared.names.Name.{Name}
use Rattle.pst_base.specs.declared.names.Kind.TheVariants.{Pointer}
use Rattle.pst_base.specs.declared.shape.TypeShape.{TypeShape}
use Rattle.pst_base.specs.Shape.{type_at, field_kind}
use Rattle.pst_base.specs.Name.{name_eq}
use Rattle.pst_base.specs.Heap.{Heap, Rec, with_pointer, pointer_set, pointer_index}
use Rattle.pst_base.proofs.NameLemmas.{name_cmp-total, name_eq-true, name_eq-same}
use Rattle.pst_base.proofs.Degrees.{with_pointer-at}
use Rattle.pst_rows.specs.declared.content.Content.TheVariants.{Null}
use Rattle.pst_mirror.proofs.WriteLemmas.{put_first}
use Rattle.pst_rows.specs.Contents.{number}
use Rattle.pst_store_meaning.specs.Arena.{Arena, IsIn, IsLive, IsArena, IsDrawn, heap_at, record_at, denoted}
use Rattle.pst_store_meaning.specs.Changes.{HasSameNodes, IsCleared, WriteKeeps, ClearedLaw, PointerLaw}
use Rattle.pst_store_meaning.proofs.HeapLaws.{heap_has}
use Rattle.pst_store_meaning.proofs.Written.{pointer_field, in_new}
use Rattle.pst_store_meaning.proofs.Writes.{taken_law, put_law}

-- ---- heaps

get-put : (h : Heap) (n : Name) (r : Rec) (q : Name) → get (insert h n r) q ≡ cond (name_eq q n) (Some r) (get h q)
get-put h n r q = get-insert name_cmp-total h n r q

-- what is found, put back
put_same : (h : Heap) (n : Name) (r : Rec) → get h n ≡ Some r → insert h n r ≡ h
put_same h n r e = same_heap _ _ (λ q. get-put h n r q ∙ ⊎_elim
    (λ (t : name_eq q n ≡ true). ap (λ b. cond b (Some r) (get h q)) t ∙ sym e ∙ ap (get h) (sym (name_eq-true q n t)))
    (λ (t : name_eq q n ≡ false). ap (λ b. cond b (Some r) (get h q)) t)
    (cases_Bool (name_eq q n)))

-- the later of two records put at one name stands
put_twice : (h : Heap) (n : Name) (r v : Rec) → insert (insert h n r) n v ≡ insert h n v
put_twice h n r v = same_heap _ _ (λ q. get-put (insert h n r) n v q ∙ ap (cond (name_eq q n) (Some v)) (get-put h n r q) ∙ hidden (name_eq q n) (get h q) ∙ sym (get-put h n v q))
  where
    hidden : (b : Bool) (o : Option Rec) → cond b (Some v) (cond b (Some r) o) ≡ cond b (Some v) o
    hidden true o = refl
    hidden false o = refl

set_same : {A : Type 0} (xs : List A) (k : ℕ) (d : A) → k < length xs → set xs k (get_or xs k d) ≡ xs
set_same [] k d l = refl
set_same (x ∷ xs) zero d l = refl
set_same (x ∷ xs) (suc k) d l = ap (λ ys. x ∷ ys) (set_same xs k d (omega arith))

set_twice : {A : Type 0} (xs : List A) (k : ℕ) (a b : A) → set (set xs k a) k b ≡ set xs k b
set_twice [] k a b = refl
set_twice (x ∷ xs) zero a b = refl
set_twice (x ∷ xs) (suc k) a b = ap (λ ys. x ∷ ys) (set_twice xs k a b)

-- two pointer writes of one field are the later one
pub pointer_twice : (h : Heap) (n : Name) (f : ℕ) (p q : Option Name) (r : Rec) → get h n ≡ Some r → with_pointer (with_pointer h n f p) n f q ≡ with_pointer h n f q
pointer_twice h n f p q r e =
    let first : with_pointer h n f p ≡ insert h n (pointer_set r f p) = with_pointer-at h n f p r e in
    let at : get (insert h n (pointer_set r f p)) n ≡ Some (pointer_set r f p) = get-put h n (pointer_set r f p) n ∙ ap (λ b. cond b (Some (pointer_set r f p)) (get h n)) (name_eq-same n) in
    ap (λ (g : Heap). with_pointer g n f q) first
    ∙ with_pointer-at (insert h n (pointer_set r f p)) n f q (pointer_set r f p) at
    ∙ put_twice h n (pointer_set r f p) (pointer_set (pointer_set r f p) f q)
    ∙ ap (λ (ps : List (Option Name)). insert h n (record r { pointers = ps })) (set_twice r.pointers (pointer_index r f) p q)
    ∙ sym (with_pointer-at h n f q r e)

-- ---- clearing

module _ (shape : List TypeShape) (end : ℕ) (old mid : Arena) (x f b : ℕ) (t : TypeNo) (a : IsArena shape end old) (d : IsDrawn old) (e : IsDrawn mid)
    (h : IsIn old x b) (k : field_kind (type_at shape (old.ty x)) f ≡ Some (Pointer t)) where
  same_nodes : HasSameNodes old old
  same_nodes = record { count = refl; name = λ i. refl; ty = λ i. refl; lo = λ i. refl; hi = λ i. refl; later = λ i. refl }

  -- to write null into a field that is null changes nothing
  null_same : old.chart.holds x f b ≡ Null → heap_at shape old b ≡ with_pointer (heap_at shape old b) (old.name x) f None
  null_same none =
      let p = pointer_field (type_at shape (old.ty x)) f t k in
      let len : length (record_at shape old x b).values ≡ (type_at shape (old.ty x)).values = length-listed (type_at shape (old.ty x)).values (λ g. number (old.chart.holds x g b)) in
      let ptrs : length (record_at shape old x b).pointers ≡ length (type_at shape (old.ty x)).targets =
      length-listed (length (type_at shape (old.ty x)).targets) (λ k. denoted old.name (old.chart.holds x ((type_at shape (old.ty x)).values + k) b)) in
      let at : (type_at shape (old.ty x)).values + (f - (type_at shape (old.ty x)).values) ≡ f = omega (arith, p.0) in
      let held : get_or (record_at shape old x b).pointers (f - length (record_at shape old x b).values) None ≡ None =
      ap (λ (m : ℕ). get_or (record_at shape old x b).pointers (f - m) None) len
      ∙ get_or-listed (length (type_at shape (old.ty x)).targets)
      (λ k. denoted old.name (old.chart.holds x ((type_at shape (old.ty x)).values + k) b)) (f - (type_at shape (old.ty x)).values) None
      (omega (arith, p.0, p.1))
      ∙ ap (λ (g : ℕ). denoted old.name (old.chart.holds x g b)) at ∙ ap (denoted old.name) none in
      let ps : set (record_at shape old x b).pointers (f - length (record_at shape old x b).values) None ≡ (record_at shape old x b).pointers =
      ap (λ (v : Option Name). set (record_at shape old x b).pointers (f - length (record_at shape old x b).values) v) (sym held)
      ∙ set_same (record_at shape old x b).pointers (f - length (record_at shape old x b).values) None (omega (arith, p.0, p.1, len, ptrs)) in
      let there : get (heap_at shape old b) (old.name x) ≡ Some (record_at shape old x b) = heap_has shape old b a.chained x h in
      sym (with_pointer-at (heap_at shape old b) (old.name x) f None (record_at shape old x b) there
      ∙ ap (λ (qs : List (Option Name)). insert (heap_at shape old b) (old.name x) (record (record_at shape old x b) { pointers = qs })) ps
      ∙ put_same (heap_at shape old b) (old.name x) (record_at shape old x b) there)

  cleared : IsCleared old mid x f b → WriteKeeps shape end old mid b (with_pointer (heap_at shape old b) (old.name x) f None) × HasSameNodes old mid × (mid.chart.holds x f b ≡ Null)
  cleared c = elim c [
    | inl v ↦ (
      record {
        arena = subst (IsArena shape end) (sym v.0) a;
        here = ap (λ (w : Arena). heap_at shape w b) v.0 ∙ null_same v.1;
        elsewhere = λ n ne. ap (λ (w : Arena). heap_at shape w n) v.0;
        live = λ i n l. subst (λ (w : Arena). IsLive w i n) (sym v.0) l;
      },
      subst (λ (w : Arena). HasSameNodes old w) (sym v.0) same_nodes,
      ap (λ (w : Arena). w.chart.holds x f b) v.0 ∙ v.1,
    )
    | inr v ↦ (taken_law shape end old mid x f v.0 v.1 b a d e v.2, v.2.nodes, v.2.unlinked.holds x f b ∙ put_first old.chart x f Null v.0 v.1 _ b)
  ]

pub cleared_law : ClearedLaw
cleared_law = cleared

module _ (old mid new : Arena) (o : HasSameNodes old mid) (p : HasSameNodes mid new) where
  pub both_same : HasSameNodes old new
  both_same = record {
    count = p.count ∙ o.count;
    name = λ i. p.name i ∙ o.name i;
    ty = λ i. p.ty i ∙ o.ty i;
    lo = λ i. p.lo i ∙ o.lo i;
    hi = λ i. p.hi i ∙ o.hi i;
    later = λ i. p.later i ∙ o.later i;
  }

pub pointer_law : PointerLaw
pointer_law shape end old mid new x f y s b a d dm e h k c o =
    let m = cleared shape end old mid x f b (old.ty y) a d dm h k c in
    let km : field_kind (type_at shape (mid.ty x)) f ≡ Some (Pointer (mid.ty y)) = ap (λ (t : TypeNo). field_kind (type_at shape t) f) (m.1.ty x) ∙ k
    ∙ ap (λ (t : TypeNo). Some (Pointer t)) (sym (m.1.ty y)) in
    let w = put_law shape end mid new x f y s b m.0.arena dm e o (in_new shape end old mid x f b a m.1 x b h) km in (
      record {
        arena = w.arena;
        here = w.here ∙ ap (λ (g : Heap). with_pointer g (mid.name x) f (Some (mid.name y))) m.0.here
            ∙ ap (λ (n : Name). with_pointer (with_pointer (heap_at shape old b) (old.name x) f None) n f (Some (mid.name y))) (m.1.name x)
            ∙ ap (λ (n : Name). with_pointer (with_pointer (heap_at shape old b) (old.name x) f None) (old.name x) f (Some n)) (m.1.name y)
            ∙ pointer_twice (heap_at shape old b) (old.name x) f None (Some (old.name y)) (record_at shape old x b) (heap_has shape old b a.chained x h);
        elsewhere = λ n ne. w.elsewhere n ne ∙ m.0.elsewhere n ne;
        live = λ i n l. w.live i n (m.0.live i n l);
      },
      both_same old mid new m.1 o.nodes,
    )
