-- A whole split.
use Rattle.std.proofs.Common.{◌≡◌, ◌≢◌, ℕ, ◌<◌, ◌≤◌, Some, List, length, refl, sym, ap, ◌∙◌, subst, ◌⊎◌, inl, inr, ⊎_elim, arith}
use Rattle.std.proofs.lemmas.Bool.{cases_eq, cases_lt, eq-eqb, ne_eqb}
use Rattle.pst_base.specs.declared.names.TypeNo.{TypeNo}
use Rattle.pst_base.specs.declared.names.Name.{Name}
use Rattle.pst_base.specs.declared.names.Kind.TheVariants.{Pointer}
use Rattle.pst_base.specs.declared.shape.TypeShape.{TypeShape}
use Rattle.pst_base.specs.Shape.{type_at}
use Rattle.pst_rows.specs.declared.content.Content.{Content}
use Rattle.pst_rows.specs.declared.content.Content.TheVariants.{Number, Null, Free, Target as TargetOf, From as FromOf}
use Rattle.pst_mirror.specs.Contents.{Target}
use Rattle.pst_mirror.specs.Mirror.{moved, renamed}
use Rattle.pst_mirror.proofs.SplitLemmas.{split_whole_law}
use Rattle.pst_rows.specs.Contents.{number}
use Rattle.pst_store_meaning.specs.Arena.{Arena, lives_of, IsIn, AreChained, IsArena, IsDrawn, heap_at, record_at, denoted}
use Rattle.pst_mirror.specs.Kinds.{HasKind}
use Rattle.pst_store_meaning.specs.Changes.{IsSplit, SplitKeeps, SplitLaw}
use Rattle.pst_store_meaning.proofs.HeapLaws.{same_heaps, new_or_old}
use Rattle.pst_mirror.proofs.LivesLemmas.{split_life_law, stays_live_law}
use Rattle.pst_store_meaning.proofs.RecordLaws.{record_of-same, denoted-names, kind-types, target_alive}

number-renamed : (x z : ℕ) (c : Content) → number (renamed x z c) ≡ number c
number-renamed x z (Number n) = refl
number-renamed x z Null = refl
number-renamed x z (TargetOf ynode) = let y : ℕ = ynode.0 in refl
number-renamed x z Free = refl
number-renamed x z (FromOf ynode fslot) = let y : ℕ = ynode.0 in let f : ℕ = fslot.0 in refl

denoted-renamed : (name name' : ℕ → Name) (x z : ℕ) (c : Content) → ((y : ℕ) → c ≡ Target y → name' (moved x z y) ≡ name y) → denoted name' (renamed x z c) ≡ denoted name c
denoted-renamed name name' x z (Number n) h = refl
denoted-renamed name name' x z Null h = refl
denoted-renamed name name' x z (TargetOf ynode) h = let y : ℕ = ynode.0 in ap Some (h y refl)
denoted-renamed name name' x z Free h = refl
denoted-renamed name name' x z (FromOf ynode fslot) h = let y : ℕ = ynode.0 in let f : ℕ = fslot.0 in refl

kind-renamed : (t : TypeShape) (ty ty' : ℕ → TypeNo) (x z g : ℕ) (c : Content) → ((y : ℕ) → c ≡ Target y → ty' (moved x z y) ≡ ty y) → HasKind t ty g c → HasKind t ty' g (renamed x z c)
kind-renamed t ty ty' x z g (Number n) h k = k
kind-renamed t ty ty' x z g Null h k = k
kind-renamed t ty ty' x z g (TargetOf ynode) h k = let y : ℕ = ynode.0 in k ∙ ap (λ (v : TypeNo). Some (Pointer v)) (sym (h y refl))
kind-renamed t ty ty' x z g Free h k = k
kind-renamed t ty ty' x z g (FromOf ynode fslot) h k = let y : ℕ = ynode.0 in let f : ℕ = fslot.0 in k

module _ (shape : List TypeShape) (end : ℕ) (old new : Arena) (x s : ℕ) (a : IsArena shape end old) (d : IsDrawn old) (e : IsDrawn new) (o : IsSplit old new x s) where
  abbrev z : ℕ
  z = old.count

  abbrev mv : ℕ → ℕ
  mv i = moved x z i

  mv_x : (i : ℕ) → i ≡ x → mv i ≡ z
  mv_x i q = rw (eq-eqb i x q) refl

  mv_other : (i : ℕ) → i ≢ x → mv i ≡ i
  mv_other i q = rw (ne_eqb i x q) refl

  moved_name : (i : ℕ) → i < old.count → new.name (mv i) ≡ old.name i
  moved_name i l = ⊎_elim (λ (q : i ≡ x). ap new.name (mv_x i q) ∙ o.life.name_z ∙ ap old.name (sym q)) (λ (q : i ≡ x → ⊥). ap new.name (mv_other i q) ∙ o.life.name i l) (cases_eq i x)

  moved_ty : (i : ℕ) → i < old.count → new.ty (mv i) ≡ old.ty i
  moved_ty i l = ⊎_elim (λ (q : i ≡ x). ap new.ty (mv_x i q) ∙ o.ty_z ∙ ap old.ty (sym q)) (λ (q : i ≡ x → ⊥). ap new.ty (mv_other i q) ∙ o.ty i l) (cases_eq i x)

  in_early : (i n : ℕ) → n < s → IsIn old i n → IsIn new i n
  in_early i n l h = record {
    there = omega (arith, o.life.count, h.there);
    low = omega (arith, o.life.lo i h.there, h.low);
    high = ⊎_elim (λ (q : i ≡ x). let t : new.hi i ≡ s = ap new.hi q ∙ o.life.hi_x in omega arith) (λ (q : i ≡ x → ⊥). omega (arith, o.life.hi i h.there q, h.high)) (cases_eq i x);
  }

  in_late : (i n : ℕ) → s ≤ n → IsIn old i n → IsIn new (mv i) n
  in_late i n l h = ⊎_elim
      (λ (q : i ≡ x). subst (λ (k : ℕ). IsIn new k n) (sym (mv_x i q)) (record {
        there = omega (arith, o.life.count);
        low = omega (arith, o.life.lo_z);
        high = let t : old.hi i ≡ old.hi x = ap old.hi q in omega (arith, o.life.hi_z, h.high);
      }))
      (λ (q : i ≡ x → ⊥). subst (λ (k : ℕ). IsIn new k n) (sym (mv_other i q)) (record {
        there = omega (arith, o.life.count, h.there);
        low = omega (arith, o.life.lo i h.there, h.low);
        high = omega (arith, o.life.hi i h.there q, h.high);
      }))
      (cases_eq i x)

  -- the old node behind one that lives at a position
  record Behind (j n : ℕ) : Type 0 where
    node : ℕ
    alive : IsIn old node n
    is : ((n < s) × (node ≡ j)) ⊎ ((s ≤ n) × (mv node ≡ j))

  behind : (j n : ℕ) → IsIn new j n → Behind j n
  behind j n h = ⊎_elim
      (λ (q : j ≡ old.count).
      let low : new.lo j ≡ s = ap new.lo q ∙ o.life.lo_z in
      let high : new.hi j ≡ old.hi x = ap new.hi q ∙ o.life.hi_z in
      record {
        node = x;
        alive = record { there = o.life.there; low = omega (arith, o.life.low, h.low); high = omega (arith, h.high) };
        is = inr (omega (arith, h.low), mv_x x refl ∙ sym q);
      })
      (λ (p : j < old.count). ⊎_elim
      (λ (q : j ≡ x).
      let high : new.hi j ≡ s = ap new.hi q ∙ o.life.hi_x in
      let top : old.hi j ≡ old.hi x = ap old.hi q in
      record {
        node = j;
        alive = record { there = p; low = omega (arith, o.life.lo j p, h.low); high = omega (arith, o.life.high, h.high) };
        is = inl (omega (arith, h.high), refl);
      })
      (λ (q : j ≡ x → ⊥). record {
        node = j;
        alive = record { there = p; low = omega (arith, o.life.lo j p, h.low); high = omega (arith, o.life.hi j p q, h.high) };
        is = ⊎_elim (λ (l : n < s). inl (l, refl)) (λ (l : s ≤ n). inr (l, mv_other j q)) (cases_lt n s);
      })
      (cases_eq j x))
      (new_or_old old.count new.count j o.life.count h.there)

  behind_name : (j n : ℕ) (b : Behind j n) → new.name j ≡ old.name b.node
  behind_name j n b = elim b.is [
    | inl v ↦ ap new.name (sym v.1) ∙ o.life.name b.node b.alive.there
    | inr v ↦ ap new.name (sym v.1) ∙ moved_name b.node b.alive.there
  ]

  target : (i g n y : ℕ) → old.chart.holds i g n ≡ Target y → y < old.count
  target i g n y q = (target_alive old i g n y d a.mirrored q).there

  early_record : (i n : ℕ) → n < s → IsIn old i n → record_at shape new i n ≡ record_at shape old i n
  early_record i n l h = record_of-same shape (old.ty i) (new.ty i) old.name new.name (λ g. old.chart.holds i g n) (λ g. new.chart.holds i g n) (o.ty i h.there)
      (λ g p. ap number (o.whole.early i g n l))
      (λ g p. ap (denoted new.name) (o.whole.early i g n l) ∙ denoted-names old.name new.name (old.chart.holds i g n) (λ y q. o.life.name y (target i g n y q)))

  apart : (i : ℕ) → i < old.count → i ≢ z
  apart i l q = absurd (omega arith)

  late_record : (i n : ℕ) → s ≤ n → IsIn old i n → record_at shape new (mv i) n ≡ record_at shape old i n
  late_record i n l h =
      let iz : i ≢ z = apart i h.there in
      record_of-same shape (old.ty i) (new.ty (mv i)) old.name new.name (λ g. old.chart.holds i g n) (λ g. new.chart.holds (mv i) g n) (moved_ty i h.there)
      (λ g p. ap number (o.whole.late i g n l iz) ∙ number-renamed x z (old.chart.holds i g n))
      (λ g p. ap (denoted new.name) (o.whole.late i g n l iz) ∙ denoted-renamed old.name new.name x z (old.chart.holds i g n) (λ y q. moved_name y (target i g n y q)))

  split_kind : (j g n : ℕ) → IsIn new j n → HasKind (type_at shape (new.ty j)) new.ty g (new.chart.holds j g n)
  split_kind j g n h =
      let b = behind j n h in
      elim b.is [
        | inl v ↦ subst (λ (j : ℕ). HasKind (type_at shape (new.ty j)) new.ty g (new.chart.holds j g n)) v.1
            (subst (λ (c : Content). HasKind (type_at shape (new.ty b.node)) new.ty g c) (sym (o.whole.early b.node g n v.0))
            (kind-types (type_at shape (old.ty b.node)) (type_at shape (new.ty b.node)) old.ty new.ty g (old.chart.holds b.node g n) (ap (type_at shape) (o.ty b.node b.alive.there))
            (λ y q. o.ty y (target b.node g n y q)) (a.kinds b.node g n b.alive)))
        | inr v ↦ subst (λ (j : ℕ). HasKind (type_at shape (new.ty j)) new.ty g (new.chart.holds j g n)) v.1
            (subst (λ (c : Content). HasKind (type_at shape (new.ty (mv b.node))) new.ty g c) (sym (o.whole.late b.node g n v.0 (apart b.node b.alive.there)))
            (subst (λ (t : TypeNo). HasKind (type_at shape t) new.ty g (renamed x z (old.chart.holds b.node g n))) (sym (moved_ty b.node b.alive.there))
            (kind-renamed (type_at shape (old.ty b.node)) old.ty new.ty x z g (old.chart.holds b.node g n) (λ y q. moved_ty y (target b.node g n y q)) (a.kinds b.node g n b.alive))))
      ]

  -- the old node that a node was
  source : (j : ℕ) → j < new.count → (i : ℕ) × (i < old.count) × (new.name j ≡ old.name i) × (new.ty j ≡ old.ty i)
  source j l = ⊎_elim
      (λ (q : j ≡ old.count). (x, o.life.there, ap new.name q ∙ o.life.name_z, ap new.ty q ∙ o.ty_z))
      (λ (p : j < old.count). (j, p, o.life.name j p, o.ty j p))
      (new_or_old old.count new.count j o.life.count l)

  new_chained : AreChained new
  new_chained = split_life_law (lives_of old) (lives_of new) x s o.life a.chained

  split_arena : IsArena shape end new
  split_arena = record {
    chained = new_chained;
    one_type = λ i j l m n. let p = source i l in let q = source j m in p.3 ∙ a.one_type p.0 q.0 p.1 q.1 (sym p.2 ∙ n ∙ q.2) ∙ sym q.3;
    known = λ i l. let p = source i l in subst (λ (t : TypeNo). t.0 < length shape) (sym p.3) (a.known p.0 p.1);
    mirrored = split_whole_law old.chart new.chart x z s o.whole a.mirrored;
    kinds = split_kind;
    root = λ n l. let r = a.root n l in ⊎_elim
        (λ (p : n < s). (r.0, in_early r.0 n p r.1, o.life.name r.0 r.1.there ∙ r.2, o.ty r.0 r.1.there ∙ r.3))
        (λ (p : s ≤ n). (mv r.0, in_late r.0 n p r.1, moved_name r.0 r.1.there ∙ r.2, moved_ty r.0 r.1.there ∙ r.3))
        (cases_lt n s);
    one_root = λ i l t. let p = source i l in p.2 ∙ a.one_root p.0 p.1 (sym p.3 ∙ t);
  }

  split_heap : (n : ℕ) → heap_at shape new n ≡ heap_at shape old n
  split_heap n = same_heaps shape old new n n a.chained new_chained
      (λ i h. ⊎_elim
      (λ (l : n < s). (i, in_early i n l h, o.life.name i h.there, early_record i n l h))
      (λ (l : s ≤ n). (mv i, in_late i n l h, moved_name i h.there, late_record i n l h))
      (cases_lt n s))
      (λ j h. let b = behind j n h in (b.node, b.alive, sym (behind_name j n b)))

  split_keeps : SplitKeeps shape end old new
  split_keeps = record { arena = split_arena; heaps = split_heap; live = stays_live_law (lives_of old) (lives_of new) x s o.life }

pub split_law : SplitLaw
split_law = split_keeps
