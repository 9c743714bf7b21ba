-- How runs end.
use Rattle.std.proofs.Common.{◌≡◌, ℕ, suc, ◌<◌, ◌≤◌, true, false, Option, Some, None, List, length, refl, sym, ap, ◌∙◌, subst, inl, inr, ⊎_elim, arith}
use Rattle.std.proofs.lemmas.Bool.{cases_lt, cases_Bool, false≢true, le-leb}
use Rattle.pst_base.proofs.Below.{sum_below-same}
use Rattle.pst_base.specs.Below.{sum_below}
use Rattle.pst_base.specs.declared.shape.TypeShape.{TypeShape}
use Rattle.pst_base.specs.declared.names.TypeNo.{TypeNo}
use Rattle.pst_base.specs.Shape.{type_at}
use Rattle.pst_line_nodes.specs.Contents.{Target}
use Rattle.pst_line_nodes.specs.Line.{Line, Covers, IsLive, IsNewest, AreChained, IsLine, IsQuiet, HasKind, is_over, ends_by, newest, onward, heap_at, denoted, number, if_stale, if_other, if_newest, stale_at, stale, load, potential}
use Rattle.pst_line_nodes.specs.Runs.{NextLaw, IsDropped, DropLaw, LeftBehindLaw}
use Rattle.pst_line_nodes.proofs.HeapLaws.{same_heaps}
use Rattle.pst_line_nodes.proofs.RecordLaws.{record_of-same, denoted-names, kind-types}
use Rattle.pst_line_nodes.proofs.Same.{ends_by-same}
use Rattle.pst_line_nodes.proofs.Copy.{covers_last, last_covers}

-- ---- the next stamp

module _ (shape : List TypeShape) (t : ℕ) (w : Line) (l : IsLine shape t w) (q : IsQuiet w t) where
  flat_next : (i g : ℕ) → i < w.count → w.holds i g (suc t) ≡ w.holds i g t
  flat_next i g m = l.flat i g (suc t) m (omega arith)

  -- a node that covers the next stamp is a newest one
  next_last : (i n : ℕ) → t ≤ n → Covers w i n → IsNewest w i
  next_last i n b h = elim (w.later i) as (λ (j : Option ℕ). w.later i ≡ j → IsNewest w i) [
    | None ↦ λ e. record { there = h.there; last = e }
    | Some j ↦ λ e.
        let next = l.chained.next i j h.there e in
        let over : is_over w i n ≡ true = ap (λ j. ends_by w.first j n) e ∙ le-leb (w.first j) n (omega (arith, l.first j next.0)) in
        absurd (false≢true (sym h.still ∙ over))
  ] refl

  last_next : (i n : ℕ) → t ≤ n → IsNewest w i → Covers w i n
  last_next i n b h = record { there = h.there; begun = omega (arith, l.first i h.there); still = ap (λ (j : Option ℕ). ends_by w.first j n) h.last }

  held_at : (i g n : ℕ) → i < w.count → n ≤ suc t → t ≤ n → w.holds i g n ≡ w.holds i g t
  held_at i g n m b c = l.flat i g n m c

  next_line : IsLine shape (suc t) w
  next_line = record {
    chained = l.chained;
    known = l.known;
    first = λ i m. omega (arith, l.first i m);
    flat = λ i g n m b. l.flat i g n m (omega arith) ∙ sym (flat_next i g m);
    kinds = λ i g n b h. elim (cases_lt n t) [
      | inl early ↦ l.kinds i g n (omega arith) h
      | inr late ↦ subst (HasKind (type_at shape (w.ty i)) w.ty g) (sym (held_at i g n h.there b late)) (l.kinds i g t (omega arith) (last_covers shape t w i l (next_last i n late h)))
    ];
    segments = λ i g n y b h e. elim (cases_lt n t) [
      | inl early ↦ l.segments i g n y early h e
      | inr late ↦
          let last = next_last i n late h in
          let e' : w.holds i g t ≡ Target y = sym (held_at i g n h.there (omega arith) late) ∙ e in
          last_next y n late (record { there = (l.newest i g y last e').0; last = q.none i g y last e' })
    ];
    newest = λ i g y n e.
        let e' : w.holds i g t ≡ Target y = sym (flat_next i g n.there) ∙ e in
        let v = l.newest i g y n e' in
        (v.0, v.1, λ z h. absurd (let none : None ≡ Some z = sym (q.none i g y n e') ∙ h in cc));
    lives = λ i g n y b h e. elim (cases_lt n t) [
      | inl early ↦ l.lives i g n y (omega arith) h e
      | inr late ↦ l.lives i g t y (omega arith) (last_covers shape t w i l (next_last i n late h)) (sym (held_at i g n h.there b late) ∙ e)
    ];
    matched = record {
      found = λ i g y n e. l.matched.found i g y n (sym (flat_next i g n.there) ∙ e);
      back = λ y s i g n e. let v = l.matched.back y s i g n e in (v.0, (v.1.0, flat_next i g v.0.there ∙ v.1.1, v.1.2));
      one = l.matched.one;
    };
    root = l.root;
    one_root = l.one_root;
  }

  next_heap : heap_at shape w (suc t) ≡ heap_at shape w t
  next_heap = same_heaps shape w w t (suc t) l.chained l.chained
      (λ i h. (
        i,
        record { covers = last_next i (suc t) (omega arith) (covers_last shape t w i l h.covers); made = h.made },
        refl,
        record_of-same shape (w.ty i) (w.ty i) w.name w.name (λ g. w.holds i g t) (λ g. w.holds i g (suc t)) refl
            (λ g b. ap number (flat_next i g h.covers.there)) (λ g b. ap (denoted w.name) (flat_next i g h.covers.there)),
      ))
      (λ j h. (j, record { covers = last_covers shape t w j l (next_last j (suc t) (omega arith) h.covers); made = h.made }, refl))

  next_entry : (y s : ℕ) → IsNewest w y → if_stale w (suc t) y (w.entry y s) ≡ if_stale w t y (w.entry y s)
  next_entry y s n = elim (w.entry y s) as (λ (j : Option (ℕ × ℕ)). w.entry y s ≡ j → if_stale w (suc t) y j ≡ if_stale w t y j) [
    | None ↦ λ h. refl
    | Some j ↦ λ h. ap (if_other y) (flat_next j.0 j.1 (l.matched.back y s j.0 j.1 n h).0.there)
  ] refl

  next_load : load shape w (suc t) ≡ load shape w t
  next_load =
      let same : stale shape w (suc t) ≡ stale shape w t = sum_below-same w.count (λ y. if_newest (w.later y) (stale_at shape w (suc t) y)) (λ y. if_newest (w.later y) (stale_at shape w t y))
      (λ y m. elim (w.later y) as (λ (j : Option ℕ). w.later y ≡ j → if_newest j (stale_at shape w (suc t) y) ≡ if_newest j (stale_at shape w t y)) [
        | None ↦ λ e. sum_below-same (type_at shape (w.ty y)).limit (λ s. if_stale w (suc t) y (w.entry y s)) (λ s. if_stale w t y (w.entry y s)) (λ s b. next_entry y s (record { there = m; last = e }))
        | Some j ↦ λ e. refl
      ] refl) in
      omega (arith, same)

pub next_law : NextLaw
next_law shape t w l q = (next_line shape t w l q, next_heap shape t w l q, next_load shape t w l q)

-- ---- records are dropped

module _ (shape : List TypeShape) (t : ℕ) (old new : Line) (l : IsLine shape t old) (o : IsDropped old new t) where
  over : (i n : ℕ) → is_over new i n ≡ is_over old i n
  over i n = ap (λ j. ends_by new.first j n) (o.later i) ∙ ends_by-same new.first old.first (old.later i) n o.first

  covers_new : (i n : ℕ) → Covers old i n → Covers new i n
  covers_new i n h = record { there = omega (arith, o.count, h.there); begun = omega (arith, o.first i, h.begun); still = over i n ∙ h.still }

  covers_old : (i n : ℕ) → Covers new i n → Covers old i n
  covers_old i n h = record { there = omega (arith, o.count, h.there); begun = omega (arith, o.first i, h.begun); still = sym (over i n) ∙ h.still }

  last_new : (i : ℕ) → IsNewest old i → IsNewest new i
  last_new i h = record { there = omega (arith, o.count, h.there); last = o.later i ∙ h.last }

  last_old : (i : ℕ) → IsNewest new i → IsNewest old i
  last_old i h = record { there = omega (arith, o.count, h.there); last = sym (o.later i) ∙ h.last }

  newest_same : (y : ℕ) → newest new y ≡ newest old y
  newest_same y = ap (λ j. onward j y) (o.later y)

  was : (i : ℕ) → i < new.count → i < old.count
  was i h = omega (arith, o.count)

  -- what began before t stays
  stays : (i : ℕ) → i < old.count → old.made i ≡ true → old.first i < t → new.made i ≡ true
  stays i m a b = ⊎_elim (λ (e : new.made i ≡ true). e) (λ (e : new.made i ≡ false). absurd (omega (arith, o.young i m a e, b))) (cases_Bool (new.made i))

  drop_chained : AreChained new
  drop_chained = record {
    next = λ i j h s.
        let v = l.chained.next i j (was i h) (sym (o.later i) ∙ s) in
        (omega (arith, v.0, o.count), o.home j ∙ v.1 ∙ sym (o.home i), omega (arith, v.2, o.first i, o.first j));
    apart = λ i j h g ne n. elim (l.chained.apart i j (was i h) (was j g) ne (sym (o.home i) ∙ n ∙ o.home j)) [
      | inl v ↦ inl (ap (is_over new i) (o.first j) ∙ over i (old.first j) ∙ v)
      | inr v ↦ inr (ap (is_over new j) (o.first i) ∙ over j (old.first i) ∙ v)
    ];
    same = λ i j h g n. let e : old.home i ≡ old.home j = sym (o.home i) ∙ n ∙ o.home j in let v = l.chained.same i j (was i h) (was j g) e in
        (o.name i ∙ v.0 ∙ sym (o.name j), o.ty i ∙ v.1 ∙ sym (o.ty j), o.whole i j (was i h) (was j g) e);
    named = λ i j h g a b n. o.home i ∙ l.chained.named i j (was i h) (was j g) (o.fewer i (was i h) a) (o.fewer j (was j g) b) (sym (o.name i) ∙ n ∙ o.name j) ∙ sym (o.home j);
  }

  drop_line : IsLine shape t new
  drop_line = record {
    chained = drop_chained;
    known = λ i h. subst (λ (u : TypeNo). u.0 < length shape) (sym (o.ty i)) (l.known i (was i h));
    first = λ i h. omega (arith, l.first i (was i h), o.first i);
    flat = λ i g n h b. o.holds i g n ∙ l.flat i g n (was i h) b ∙ sym (o.holds i g t);
    kinds = λ i g n b h. subst (HasKind (type_at shape (new.ty i)) new.ty g) (sym (o.holds i g n)) (kind-types (type_at shape (old.ty i)) (type_at shape (new.ty i)) old.ty new.ty g (old.holds i g n) (ap (type_at shape) (o.ty i)) (λ y q. o.ty y) (l.kinds i g n b (covers_old i n h)));
    segments = λ i g n y b h e. covers_new y n (l.segments i g n y b (covers_old i n h) (sym (o.holds i g n) ∙ e));
    newest = λ i g y n e.
        let v = l.newest i g y (last_old i n) (sym (o.holds i g t) ∙ e) in
        (omega (arith, v.0, o.count), subst (IsNewest new) (sym (newest_same y)) (last_new (newest old y) v.1), λ z h. o.first z ∙ v.2 z (sym (o.later y) ∙ h));
    lives = λ i g n y b h e.
        let c = covers_old i n h in
        let e' : old.holds i g n ≡ Target y = sym (o.holds i g n) ∙ e in
        let v = l.lives i g n y b c e' in
        elim (cases_lt n t) [
          | inl early ↦ let d = l.segments i g n y early c e' in (stays i c.there v.0 (omega (arith, c.begun)), stays y d.there v.1 (omega (arith, d.begun)))
          | inr late ↦ let same : n ≡ t = omega arith in o.from i g y (subst (Covers old i) same c) (ap (old.holds i g) (sym same) ∙ e')
        ];
    matched = record {
      found = λ i g y n e.
          let w = l.matched.found i g y (last_old i n) (sym (o.holds i g t) ∙ e) in
          let same : (type_at shape (new.ty y)).limit ≡ (type_at shape (old.ty y)).limit = ap (λ (v : TypeNo). (type_at shape v).limit) (o.ty y) in
          (w.0, omega (arith, w.1, same), o.entry (newest new y) w.0 ∙ ap (λ z. old.entry z w.0) (newest_same y) ∙ w.2);
      back = λ y s i g n e.
          let w = l.matched.back y s i g (last_old y n) (sym (o.entry y s) ∙ e) in
          (last_new i w.0, (w.1.0, o.holds i g t ∙ w.1.1, newest_same w.1.0 ∙ w.1.2));
      one = λ y s u i g n a b. l.matched.one y s u i g (last_old y n) (sym (o.entry y s) ∙ a) (sym (o.entry y u) ∙ b);
    };
    root = let r = l.root in (omega (arith, r.0, o.count), o.home 0 ∙ r.1, o.first 0 ∙ r.2, o.name 0 ∙ r.3, o.ty 0 ∙ r.4, o.root);
    one_root = λ i h m u. o.home i ∙ l.one_root i (was i h) (o.fewer i (was i h) m) (sym (o.ty i) ∙ u);
  }

  drop_heap : (n : ℕ) → n < t → heap_at shape new n ≡ heap_at shape old n
  drop_heap n early = same_heaps shape old new n n l.chained drop_chained
      (λ i h. (
        i,
        record { covers = covers_new i n h.covers; made = stays i h.covers.there h.made (omega (arith, h.covers.begun)) },
        o.name i,
        record_of-same shape (old.ty i) (new.ty i) old.name new.name (λ g. old.holds i g n) (λ g. new.holds i g n) (o.ty i)
            (λ g b. ap number (o.holds i g n)) (λ g b. ap (denoted new.name) (o.holds i g n) ∙ denoted-names old.name new.name (old.holds i g n) (λ y q. o.name y)),
      ))
      (λ j h. (j, record { covers = covers_old j n h.covers; made = o.fewer j (was j h.covers.there) h.made }, sym (o.name j)))

  drop_live : (i n : ℕ) → n < t → IsLive old i n → IsLive new i n
  drop_live i n early h = record { there = omega (arith, o.count, h.there); made = stays i h.there h.made (omega (arith, h.begun)); begun = omega (arith, o.first i, h.begun) }

  drop_stale : (y s : ℕ) → if_stale new t y (new.entry y s) ≡ if_stale old t y (old.entry y s)
  drop_stale y s = ap (if_stale new t y) (o.entry y s) ∙ elim (old.entry y s) as (λ (j : Option (ℕ × ℕ)). if_stale new t y j ≡ if_stale old t y j) [
    | None ↦ refl
    | Some j ↦ ap (if_other y) (o.holds j.0 j.1 t)
  ]

  drop_load : load shape new t ≡ load shape old t
  drop_load =
      let a : potential new ≡ sum_below old.count (λ i. if_newest (new.later i) (new.stamped i)) = ap (λ n. sum_below n (λ i. if_newest (new.later i) (new.stamped i))) o.count in
      let b = sum_below-same old.count (λ i. if_newest (new.later i) (new.stamped i)) (λ i. if_newest (old.later i) (old.stamped i)) (λ i m. ap (λ j. if_newest j (new.stamped i)) (o.later i) ∙ ap (if_newest (old.later i)) (o.stamped i)) in
      let c : stale shape new t ≡ sum_below old.count (λ y. if_newest (new.later y) (stale_at shape new t y)) = ap (λ n. sum_below n (λ y. if_newest (new.later y) (stale_at shape new t y))) o.count in
      let d = sum_below-same old.count (λ y. if_newest (new.later y) (stale_at shape new t y)) (λ y. if_newest (old.later y) (stale_at shape old t y))
      (λ y m. ap (λ j. if_newest j (stale_at shape new t y)) (o.later y) ∙ ap (if_newest (old.later y)) (ap (λ (v : TypeNo). sum_below (type_at shape v).limit (λ s. if_stale new t y (new.entry y s))) (o.ty y)
      ∙ sum_below-same (type_at shape (old.ty y)).limit (λ s. if_stale new t y (new.entry y s)) (λ s. if_stale old t y (old.entry y s)) (λ s b. drop_stale y s))) in
      omega (arith, o.count, a, b, c, d)

pub drop_law : DropLaw
drop_law shape t old new l o = (drop_line shape t old new l o, drop_heap shape t old new l o, drop_live shape t old new l o, drop_load shape t old new l o)

pub left_behind_law : LeftBehindLaw
left_behind_law shape t w i g l s inside =
    let c = inside.inside i g t s.held (omega arith) (last_covers shape t w i l s.newest) s.holds in
    let next = l.chained.next s.held s.copy c.there s.copied in
    false≢true (sym c.still ∙ ap (λ j. ends_by w.first j t) s.copied ∙ le-leb (w.first s.copy) t (l.first s.copy next.0))
