-- The writes of a field.
use Rattle.std.proofs.Common.{◌≡◌, ℕ, suc, ◌+◌, ◌<◌, ◌≤◌, true, false, cond, Option, Some, None, List, refl, sym, ap, ◌∙◌, subst, inl, inr, arith, eqb}
use Rattle.std.proofs.lemmas.Bool.{false≢true, eq-eqb, eqb-true, and_parts, false_from_ne_true}
use Rattle.pst_base.proofs.Below.{sum_below-falls, sum_below-le, sum_below-rises}
use Rattle.pst_base.specs.Below.{sum_below}
use Rattle.pst_base.specs.declared.names.TypeNo.{TypeNo}
use Rattle.pst_base.specs.declared.names.Kind.TheVariants.{Pointer}
use Rattle.pst_base.specs.declared.shape.TypeShape.{TypeShape}
use Rattle.pst_base.specs.Shape.{type_at}
use Rattle.pst_line_nodes.specs.declared.content.Content.{Content}
use Rattle.pst_line_nodes.specs.declared.content.Content.TheVariants.{Number, Null, Target as TargetOf}
use Rattle.pst_line_nodes.specs.Contents.{Target}
use Rattle.pst_line_nodes.specs.Line.{Line, Covers, IsNewest, IsLine, AreMatched, HasKind, newest, onward, if_newest, if_other, if_stale, stale_at, stale, potential, load, denoted, number, ends_by}
use Rattle.pst_line_nodes.specs.Changes.{HasSameNodes, IsSet, is_entry, without, NumberLaw, NullLaw, PointLaw, RedirectLaw}
use Rattle.pst_line_nodes.proofs.Contents.{one_target}
use Rattle.pst_line_nodes.proofs.Same.{same_field, pointer_field, no_target, last_old, last_new, newest_same, off, on, stay, number_here, pointer_here, nothing_here, line_after}

-- ---- entries without those of one field

pub is_entry-true : (x f : ℕ) (e : ℕ × ℕ) → is_entry x f (Some e) ≡ true → e ≡ (x, f)
is_entry-true x f e h = let p = and_parts (eqb e.0 x) (eqb e.1 f) h in λ i. (eqb-true e.0 x p.0 i, eqb-true e.1 f p.1 i)

pub is_entry-same : (x f : ℕ) → is_entry x f (Some (x, f)) ≡ true
is_entry-same x f = rw (eq-eqb x x refl, eq-eqb f f refl) refl

pub is_entry-other : (x f i g : ℕ) → (i ≡ x → g ≡ f → ⊥) → is_entry x f (Some (i, g)) ≡ false
is_entry-other x f i g ne = false_from_ne_true (is_entry x f (Some (i, g))) (λ h. let p = and_parts (eqb i x) (eqb g f) h in ne (eqb-true i x p.0) (eqb-true g f p.1))

pub without-some : (x f i g : ℕ) (e : Option (ℕ × ℕ)) → without x f e ≡ Some (i, g) → (e ≡ Some (i, g)) × (i ≡ x → g ≡ f → ⊥)
without-some x f i g None h = absurd (cc)
without-some x f i g (Some e) h = elim (is_entry x f (Some e)) as (λ b. is_entry x f (Some e) ≡ b → cond b None (Some e) ≡ Some (i, g) → (Some e ≡ Some (i, g)) × (i ≡ x → g ≡ f → ⊥)) [
  | true ↦ λ b k. absurd (cc)
  | false ↦ λ b k. (k, λ p q. false≢true (sym b ∙ ap (is_entry x f) (k ∙ ap (λ i. Some (i, g)) p ∙ ap (λ g. Some (x, g)) q) ∙ is_entry-same x f))
] refl h

pub without-keeps : (x f i g : ℕ) (e : Option (ℕ × ℕ)) → e ≡ Some (i, g) → (i ≡ x → g ≡ f → ⊥) → without x f e ≡ Some (i, g)
without-keeps x f i g e h ne = ap (without x f) h ∙ ap (λ b. cond b None (Some (i, g))) (is_entry-other x f i g ne)

-- an entry that is none of this field's has been there
pub without-none : (x f i g : ℕ) (e : Option (ℕ × ℕ)) → without x f e ≡ None → e ≡ Some (i, g) → (i ≡ x) × (g ≡ f)
without-none x f i g e none h = elim (same_field i g x f) [
  | inl p ↦ p
  | inr ne ↦ absurd (let k = without-keeps x f i g e h ne in cc)
]

-- ---- the load

other-none : (y : ℕ) (c : Content) → ((q : ℕ) → c ≡ Target q → q ≡ y) → if_other y c ≡ 0
other-none y (Number n) h = refl
other-none y Null h = refl
other-none y (TargetOf q) h = ap (λ b. cond b 0 1) (eq-eqb q.0 y (h q.0 refl))

module _ (shape : List TypeShape) (t : ℕ) (old new : Line) (l : IsLine shape t old) (o : HasSameNodes old new) (x f : ℕ) (c : Content) (k : ℕ) (s : IsSet old new x f t c k) (last : IsNewest old x) where
  -- the potential rises by what is stamped
  potential_after : potential new ≤ potential old + k
  potential_after =
      let same : potential new ≡ sum_below old.count (λ i. if_newest (new.later i) (new.stamped i)) = ap (λ n. sum_below n (λ i. if_newest (new.later i) (new.stamped i))) o.count in
      let rise : sum_below old.count (λ i. if_newest (new.later i) (new.stamped i)) ≤ potential old + k =
      sum_below-rises old.count (λ i. if_newest (new.later i) (new.stamped i)) (λ i. if_newest (old.later i) (old.stamped i)) x k
      (let a : if_newest (new.later x) (new.stamped x) ≡ new.stamped x = ap (λ j. if_newest j (new.stamped x)) (o.later x ∙ last.last) in
      let b : if_newest (old.later x) (old.stamped x) ≡ old.stamped x = ap (λ j. if_newest j (old.stamped x)) last.last in
      omega (arith, a, b, s.stamped))
      (λ i m ne. let a : if_newest (new.later i) (new.stamped i) ≡ if_newest (old.later i) (old.stamped i) = ap (λ j. if_newest j (new.stamped i)) (o.later i) ∙ ap (if_newest (old.later i)) (s.other_stamped i ne) in omega (arith, a)) in
      omega (arith, same, rise)

  -- a stale entry is one that was stale, where each entry stayed or is not stale now
  module _ (each : (y u : ℕ) → IsNewest old y → if_stale new t y (new.entry y u) ≤ if_stale old t y (old.entry y u)) where
    stale_each : (y : ℕ) → IsNewest old y → stale_at shape new t y ≤ stale_at shape old t y
    stale_each y n =
        let same : stale_at shape new t y ≡ sum_below (type_at shape (old.ty y)).limit (λ u. if_stale new t y (new.entry y u)) = ap (λ (v : TypeNo). sum_below (type_at shape v).limit (λ u. if_stale new t y (new.entry y u))) (o.ty y) in
        let less = sum_below-le (type_at shape (old.ty y)).limit (λ u. if_stale new t y (new.entry y u)) (λ u. if_stale old t y (old.entry y u)) (λ u m. each y u n) in
        omega (arith, same, less)

    pub newest_each : (y : ℕ) → y < old.count → if_newest (new.later y) (stale_at shape new t y) ≤ if_newest (old.later y) (stale_at shape old t y)
    newest_each y m = elim (old.later y) as (λ (j : Option ℕ). old.later y ≡ j → if_newest (new.later y) (stale_at shape new t y) ≤ if_newest j (stale_at shape old t y)) [
      | None ↦ λ e. let a : if_newest (new.later y) (stale_at shape new t y) ≡ stale_at shape new t y = ap (λ j. if_newest j (stale_at shape new t y)) (o.later y ∙ e) in
          let b = stale_each y (record { there = m; last = e }) in omega (arith, a, b)
      | Some j ↦ λ e. let a : if_newest (new.later y) (stale_at shape new t y) ≡ 0 = ap (λ j. if_newest j (stale_at shape new t y)) (o.later y ∙ e) in omega (arith, a)
    ] refl

    stale_count : stale shape new t ≡ sum_below old.count (λ y. if_newest (new.later y) (stale_at shape new t y))
    stale_count = ap (λ n. sum_below n (λ y. if_newest (new.later y) (stale_at shape new t y))) o.count

    pub load_after : load shape new t ≤ load shape old t + k
    load_after =
        let less = sum_below-le old.count (λ y. if_newest (new.later y) (stale_at shape new t y)) (λ y. if_newest (old.later y) (stale_at shape old t y)) newest_each in
        omega (arith, o.count, potential_after, stale_count, less)

    -- one entry was stale, and is not now
    pub stale_falls : (z u : ℕ) → IsNewest old z → u < (type_at shape (old.ty z)).limit → suc (if_stale new t z (new.entry z u)) ≤ if_stale old t z (old.entry z u) → suc (stale shape new t) ≤ stale shape old t
    stale_falls z u n m here =
        let same : stale_at shape new t z ≡ sum_below (type_at shape (old.ty z)).limit (λ u. if_stale new t z (new.entry z u)) = ap (λ (v : TypeNo). sum_below (type_at shape v).limit (λ u. if_stale new t z (new.entry z u))) (o.ty z) in
        let one = sum_below-falls (type_at shape (old.ty z)).limit (λ u. if_stale new t z (new.entry z u)) (λ u. if_stale old t z (old.entry z u)) u 1 m (omega (arith, here)) (λ u m ne. each z u n) in
        let a : if_newest (new.later z) (stale_at shape new t z) ≡ stale_at shape new t z = ap (λ j. if_newest j (stale_at shape new t z)) (o.later z ∙ n.last) in
        let b : if_newest (old.later z) (stale_at shape old t z) ≡ stale_at shape old t z = ap (λ j. if_newest j (stale_at shape old t z)) n.last in
        let less = sum_below-falls old.count (λ y. if_newest (new.later y) (stale_at shape new t y)) (λ y. if_newest (old.later y) (stale_at shape old t y)) z 1 n.there (omega (arith, a, b, same, one)) (λ y m ne. newest_each y m) in
        omega (arith, stale_count, less)

  -- ---- entries stay

  -- the pointers of the field, before and after, stand for one and the same newest node
  module _ (entry : (y u : ℕ) → new.entry y u ≡ old.entry y u)
      (from : (q : ℕ) → c ≡ Target q → (p : ℕ) × (old.holds x f t ≡ Target p) × (newest old p ≡ newest old q) × (old.ty p ≡ old.ty q))
      (to : (p : ℕ) → old.holds x f t ≡ Target p → (q : ℕ) × (c ≡ Target q) × (newest old q ≡ newest old p)) where
    -- what a field held
    held_old : (i g y : ℕ) → new.holds i g t ≡ Target y → (p : ℕ) × (old.holds i g t ≡ Target p) × (newest old p ≡ newest old y) × (old.ty p ≡ old.ty y)
    held_old i g y e = elim (same_field i g x f) [
      | inl p ↦ let w = from y (sym (on shape t old new l o x f c k s i g t p.0 p.1 (omega arith)) ∙ e) in (w.0, ap (λ i. old.holds i g t) p.0 ∙ ap (λ g. old.holds x g t) p.1 ∙ w.1, w.2, w.3)
      | inr ne ↦ (y, sym (off shape t old new l o x f c k s i g t (λ a b. absurd (ne a b))) ∙ e, refl, refl)
    ]

    held_new : (i g y : ℕ) → old.holds i g t ≡ Target y → (q : ℕ) × (new.holds i g t ≡ Target q) × (newest old q ≡ newest old y)
    held_new i g y e = elim (same_field i g x f) [
      | inl p ↦ let w = to y (sym (ap (λ i. old.holds i g t) p.0 ∙ ap (λ g. old.holds x g t) p.1) ∙ e) in (w.0, on shape t old new l o x f c k s i g t p.0 p.1 (omega arith) ∙ w.1, w.2)
      | inr ne ↦ (y, off shape t old new l o x f c k s i g t (λ a b. absurd (ne a b)) ∙ e, refl)
    ]

    pub matched_kept : AreMatched shape t new
    matched_kept = record {
      found = λ i g y n e.
          let h = held_old i g y e in
          let w = l.matched.found i g h.0 (last_old shape t old new l o i n) h.1 in
          let same : (type_at shape (new.ty y)).limit ≡ (type_at shape (old.ty h.0)).limit = ap (λ (v : TypeNo). (type_at shape v).limit) (o.ty y ∙ sym h.3) in
          (w.0, omega (arith, w.1, same), entry (newest new y) w.0 ∙ ap (λ z. old.entry z w.0) (newest_same shape t old new l o y ∙ sym h.2) ∙ w.2);
      back = λ y u i g n e.
          let w = l.matched.back y u i g (last_old shape t old new l o y n) (sym (entry y u) ∙ e) in
          let h = held_new i g w.1.0 w.1.1 in
          (last_new shape t old new l o i w.0, (h.0, h.1, newest_same shape t old new l o h.0 ∙ h.2 ∙ w.1.2));
      one = λ y u v i g n a b. l.matched.one y u v i g (last_old shape t old new l o y n) (sym (entry y u) ∙ a) (sym (entry y v) ∙ b);
    }

    pub each_kept : ((q : ℕ) → c ≡ Target q → newest old q ≡ q) → (y u : ℕ) → IsNewest old y → if_stale new t y (new.entry y u) ≤ if_stale old t y (old.entry y u)
    each_kept own y u n = elim (old.entry y u) as (λ (j : Option (ℕ × ℕ)). old.entry y u ≡ j → if_stale new t y (new.entry y u) ≤ if_stale old t y j) [
      | None ↦ λ h. let a : if_stale new t y (new.entry y u) ≡ 0 = ap (if_stale new t y) (entry y u ∙ h) in omega (arith, a)
      | Some j ↦ λ h.
          let a : if_stale new t y (new.entry y u) ≡ if_other y (new.holds j.0 j.1 t) = ap (if_stale new t y) (entry y u ∙ h) in
          elim (same_field j.0 j.1 x f) [
            | inl p ↦
                let w = l.matched.back y u j.0 j.1 n h in
                let v = to w.1.0 (sym (ap (λ i. old.holds i j.1 t) p.0 ∙ ap (λ g. old.holds x g t) p.1) ∙ w.1.1) in
                let is : v.0 ≡ y = sym (own v.0 v.1) ∙ v.2 ∙ w.1.2 in
                let held : new.holds j.0 j.1 t ≡ Target y = on shape t old new l o x f c k s j.0 j.1 t p.0 p.1 (omega arith) ∙ v.1 ∙ ap Target is in
                let b : if_other y (new.holds j.0 j.1 t) ≡ 0 = ap (if_other y) held ∙ other-none y (Target y) (λ q e. one_target q y (sym e)) in
                omega (arith, a, b)
            | inr ne ↦ let b : if_other y (new.holds j.0 j.1 t) ≡ if_other y (old.holds j.0 j.1 t) = ap (if_other y) (off shape t old new l o x f c k s j.0 j.1 t (λ a b. absurd (ne a b))) in omega (arith, a, b)
          ]
    ] refl

  -- ---- the entry of the field goes

  -- where an entry that is not new stays, unless it is that of the field
  each_without : (y u : ℕ) → new.entry y u ≡ without x f (old.entry y u) → if_stale new t y (new.entry y u) ≤ if_stale old t y (old.entry y u)
  each_without y u entry = elim (old.entry y u) as (λ (j : Option (ℕ × ℕ)). new.entry y u ≡ without x f j → if_stale new t y (new.entry y u) ≤ if_stale old t y j) [
    | None ↦ λ h. let a : if_stale new t y (new.entry y u) ≡ 0 = ap (if_stale new t y) h in omega (arith, a)
    | Some j ↦ λ h. elim (same_field j.0 j.1 x f) [
      | inl p ↦
          let gone : without x f (Some j) ≡ None = ap (λ b. cond b None (Some j)) (ap (is_entry x f) (λ i. Some (p.0 i, p.1 i)) ∙ is_entry-same x f) in
          let a : if_stale new t y (new.entry y u) ≡ 0 = ap (if_stale new t y) (h ∙ gone) in omega (arith, a)
      | inr ne ↦
          let stays : without x f (Some j) ≡ Some j = without-keeps x f j.0 j.1 (Some j) refl ne in
          let a : if_stale new t y (new.entry y u) ≡ if_other y (new.holds j.0 j.1 t) = ap (if_stale new t y) (h ∙ stays) in
          let b : if_other y (new.holds j.0 j.1 t) ≡ if_other y (old.holds j.0 j.1 t) = ap (if_other y) (off shape t old new l o x f c k s j.0 j.1 t (λ a b. absurd (ne a b))) in omega (arith, a, b)
    ]
  ] entry

  module _ (null : c ≡ Null) (entry : (y u : ℕ) → new.entry y u ≡ without x f (old.entry y u)) where
    pub matched_null : AreMatched shape t new
    matched_null = record {
      found = λ i g y n e. elim (same_field i g x f) [
        | inl p ↦ absurd (let a : Null ≡ Target y = sym (on shape t old new l o x f c k s i g t p.0 p.1 (omega arith) ∙ null) ∙ e in cc)
        | inr ne ↦
            let w = l.matched.found i g y (last_old shape t old new l o i n) (sym (off shape t old new l o x f c k s i g t (λ a b. absurd (ne a b))) ∙ e) in
            let same : (type_at shape (new.ty y)).limit ≡ (type_at shape (old.ty y)).limit = ap (λ (v : TypeNo). (type_at shape v).limit) (o.ty y) in
            (w.0, omega (arith, w.1, same), entry (newest new y) w.0 ∙ without-keeps x f i g (old.entry (newest new y) w.0) (ap (λ z. old.entry z w.0) (newest_same shape t old new l o y) ∙ w.2) ne)
      ];
      back = λ y u i g n e.
          let h = without-some x f i g (old.entry y u) (sym (entry y u) ∙ e) in
          let w = l.matched.back y u i g (last_old shape t old new l o y n) h.0 in
          (last_new shape t old new l o i w.0, (w.1.0, off shape t old new l o x f c k s i g t (λ a b. absurd (h.1 a b)) ∙ w.1.1, newest_same shape t old new l o w.1.0 ∙ w.1.2));
      one = λ y u v i g n a b. l.matched.one y u v i g (last_old shape t old new l o y n) (without-some x f i g (old.entry y u) (sym (entry y u) ∙ a)).0 (without-some x f i g (old.entry y v) (sym (entry y v) ∙ b)).0;
    }

    pub each_null : (y u : ℕ) → IsNewest old y → if_stale new t y (new.entry y u) ≤ if_stale old t y (old.entry y u)
    each_null y u n = each_without y u (entry y u)

  -- ---- and another one comes

  module _ (z u : ℕ) (is : c ≡ Target z) (zlast : IsNewest old z) (below : u < (type_at shape (old.ty z)).limit) (free : without x f (old.entry z u) ≡ None) (put : new.entry z u ≡ Some (x, f))
      (entry : (y v : ℕ) → (y ≡ z → v ≡ u → ⊥) → new.entry y v ≡ without x f (old.entry y v)) where
    own_z : newest new z ≡ z
    own_z = newest_same shape t old new l o z ∙ ap (λ j. onward j z) zlast.last

    slot_z : (y v : ℕ) → y ≡ z → v ≡ u → new.entry y v ≡ Some (x, f)
    slot_z y v p q = ap (λ y. new.entry y v) p ∙ ap (new.entry z) q ∙ put

    -- an entry of another field was there
    was_entry : (y v i g : ℕ) → (i ≡ x → g ≡ f → ⊥) → new.entry y v ≡ Some (i, g) → old.entry y v ≡ Some (i, g)
    was_entry y v i g ne e = elim (same_field y v z u) [
      | inl p ↦ absurd (let a : Some (x, f) ≡ Some (i, g) = sym (slot_z y v p.0 p.1) ∙ e in let same : (x, f) ≡ (i, g) = cc in ne (sym (ap (λ (p : ℕ × ℕ). p.0) same)) (sym (ap (λ (p : ℕ × ℕ). p.1) same)))
      | inr far ↦ (without-some x f i g (old.entry y v) (sym (entry y v far) ∙ e)).0
    ]

    -- an entry of this field is the new one
    is_slot : (y v : ℕ) → new.entry y v ≡ Some (x, f) → (y ≡ z) × (v ≡ u)
    is_slot y v e = elim (same_field y v z u) [
      | inl p ↦ p
      | inr far ↦ absurd ((without-some x f x f (old.entry y v) (sym (entry y v far) ∙ e)).1 refl refl)
    ]

    entry_at : (y v i g j h : ℕ) → i ≡ j → g ≡ h → new.entry y v ≡ Some (i, g) → new.entry y v ≡ Some (j, h)
    entry_at y v i g j h p q e = e ∙ ap (λ i. Some (i, g)) p ∙ ap (λ g. Some (j, g)) q

    pub matched_point : AreMatched shape t new
    matched_point = record {
      found = λ i g y n e. elim (same_field i g x f) [
        | inl p ↦
            let a : Target z ≡ Target y = sym (on shape t old new l o x f c k s i g t p.0 p.1 (omega arith) ∙ is) ∙ e in
            let same : y ≡ z = sym (one_target z y a) in
            let limit : (type_at shape (new.ty y)).limit ≡ (type_at shape (old.ty z)).limit = ap (λ (v : TypeNo). (type_at shape v).limit) (ap new.ty same ∙ o.ty z) in
            (u, omega (arith, below, limit), ap (λ y. new.entry (newest new y) u) same ∙ ap (λ y. new.entry y u) own_z ∙ put ∙ ap (λ x. Some (x, f)) (sym p.0) ∙ ap (λ f. Some (i, f)) (sym p.1))
        | inr ne ↦
            let w = l.matched.found i g y (last_old shape t old new l o i n) (sym (off shape t old new l o x f c k s i g t (λ a b. absurd (ne a b))) ∙ e) in
            let same : (type_at shape (new.ty y)).limit ≡ (type_at shape (old.ty y)).limit = ap (λ (v : TypeNo). (type_at shape v).limit) (o.ty y) in
            let there : old.entry (newest new y) w.0 ≡ Some (i, g) = ap (λ z. old.entry z w.0) (newest_same shape t old new l o y) ∙ w.2 in (
              w.0,
              omega (arith, w.1, same),
              entry (newest new y) w.0
                  (λ p q. let k = without-none x f i g (old.entry z u) free (sym (ap (λ y. old.entry y w.0) p ∙ ap (old.entry z) q) ∙ there) in ne k.0 k.1)
                  ∙ without-keeps x f i g (old.entry (newest new y) w.0) there ne,
            )
      ];
      back = λ y v i g n e. elim (same_field i g x f) [
        | inl p ↦
            let at = is_slot y v (entry_at y v i g x f p.0 p.1 e) in
            (subst (IsNewest new) (sym p.0) (last_new shape t old new l o x last), (z, on shape t old new l o x f c k s i g t p.0 p.1 (omega arith) ∙ is, own_z ∙ sym at.0))
        | inr ne ↦
            let w = l.matched.back y v i g (last_old shape t old new l o y n) (was_entry y v i g ne e) in
            (last_new shape t old new l o i w.0, (w.1.0, off shape t old new l o x f c k s i g t (λ a b. absurd (ne a b)) ∙ w.1.1, newest_same shape t old new l o w.1.0 ∙ w.1.2))
      ];
      one = λ y v w i g n a b. elim (same_field i g x f) [
        | inl p ↦ (is_slot y v (entry_at y v i g x f p.0 p.1 a)).1 ∙ sym (is_slot y w (entry_at y w i g x f p.0 p.1 b)).1
        | inr ne ↦ l.matched.one y v w i g (last_old shape t old new l o y n) (was_entry y v i g ne a) (was_entry y w i g ne b)
      ];
    }

    pub each_point : (y v : ℕ) → IsNewest old y → if_stale new t y (new.entry y v) ≤ if_stale old t y (old.entry y v)
    each_point y v n = elim (same_field y v z u) [
      | inl p ↦
          let a : if_stale new t y (new.entry y v) ≡ if_other y (new.holds x f t) = ap (if_stale new t y) (slot_z y v p.0 p.1) in
          let b : if_other y (new.holds x f t) ≡ 0 = ap (if_other y) (s.here ∙ is ∙ ap Target (sym p.0)) ∙ other-none y (Target y) (λ q e. one_target q y (sym e)) in
          omega (arith, a, b)
      | inr far ↦ each_without y v (entry y v far)
    ]

-- ---- the laws

pub number_law : NumberLaw
number_law shape old new x f t v k l there last low d =
    let s = d.set in
    let o = s.nodes in
    let from : (q : ℕ) → Number v ≡ Target q → (p : ℕ) × (old.holds x f t ≡ Target p) × (newest old p ≡ newest old q) × (old.ty p ≡ old.ty q) = λ q e. absurd (cc) in
    let to : (p : ℕ) → old.holds x f t ≡ Target p → (q : ℕ) × (Number v ≡ Target q) × (newest old q ≡ newest old p) = λ p e. absurd (no_target (type_at shape (old.ty x)) old.ty f p (subst (HasKind (type_at shape (old.ty x)) old.ty f) e (l.kinds x f t (omega arith) there.covers)) low) in (
      line_after shape t old new l o x f (Number v) k s low (matched_kept shape t old new l o x f (Number v) k s last d.entry from to) (λ y e. absurd (cc)),
      stay shape t old new l o x f (Number v) k s,
      number_here shape t old new l o x f (Number v) k s v there low refl,
      load_after shape t old new l o x f (Number v) k s last (each_kept shape t old new l o x f (Number v) k s last d.entry from to (λ q e. absurd (cc))),
    )

pub null_law : NullLaw
null_law shape old new x f t k ty l there last field d =
    let s = d.set in
    let o = s.nodes in
    let p = pointer_field (type_at shape (old.ty x)) f ty field in (
      line_after shape t old new l o x f Null k s p.0 (matched_null shape t old new l o x f Null k s last refl d.entry) (λ y e. absurd (cc)),
      stay shape t old new l o x f Null k s,
      pointer_here shape t old new l o x f Null k s None there p.0 p.1 refl,
      load_after shape t old new l o x f Null k s last (each_null shape t old new l o x f Null k s last refl d.entry),
    )

pub point_law : PointLaw
point_law shape old new x f t z u k l there last zthere zlast below field d =
    let s = d.set in
    let o = s.nodes in
    let p = pointer_field (type_at shape (old.ty x)) f (old.ty z) field in
    let own : (y : ℕ) → z ≡ y → (y < old.count) × IsNewest old (newest old y) × ((j : ℕ) → old.later y ≡ Some j → old.first j ≡ t) × (old.made x ≡ true) × (old.made y ≡ true) = λ y e. subst (λ (y : ℕ). (y < old.count) × IsNewest old (newest old y) × ((j : ℕ) → old.later y ≡ Some j → old.first j ≡ t) × (old.made x ≡ true) × (old.made y ≡ true)) e (zlast.there, subst (IsNewest old) (sym (ap (λ j. onward j z) zlast.last)) zlast, (λ j h. absurd (let none : None ≡ Some j = sym zlast.last ∙ h in cc)), there.made, zthere.made) in (
      line_after shape t old new l o x f (Target z) k s field (matched_point shape t old new l o x f (Target z) k s last z u refl zlast below d.free d.put d.entry) (λ y e. own y (one_target z y e)),
      stay shape t old new l o x f (Target z) k s,
      pointer_here shape t old new l o x f (Target z) k s (Some (old.name z)) there p.0 p.1 refl,
      load_after shape t old new l o x f (Target z) k s last (each_point shape t old new l o x f (Target z) k s last z u refl zlast below d.free d.put d.entry),
    )

pub redirect_law : RedirectLaw
redirect_law shape old new x f t y z k l last d =
    let s = d.set in
    let o = s.nodes in
    let begun : old.first x ≤ t = l.first x last.there in
    let covers : Covers old x t = record { there = last.there; begun = begun; still = ap (λ (j : Option ℕ). ends_by old.first j t) last.last } in
    let y_in = l.newest x f y last d.held in
    let next = l.chained.next y z y_in.0 d.copied in
    let z_is : newest old y ≡ z = ap (λ j. onward j y) d.copied in
    let zlast : IsNewest old z = subst (IsNewest old) z_is y_in.1 in
    let own : newest old z ≡ z = ap (λ j. onward j z) zlast.last in
    let kin = l.chained.same z y next.0 y_in.0 next.1 in
    let live = l.lives x f t y (omega arith) covers d.held in
    let kind : HasKind (type_at shape (old.ty x)) old.ty f (Target y) = subst (HasKind (type_at shape (old.ty x)) old.ty f) d.held (l.kinds x f t (omega arith) covers) in
    let from : (q : ℕ) → Target z ≡ Target q → (p : ℕ) × (old.holds x f t ≡ Target p) × (newest old p ≡ newest old q) × (old.ty p ≡ old.ty q) = λ q e. let same : z ≡ q = one_target z q e in (y, d.held, z_is ∙ sym own ∙ ap (newest old) same, sym kin.1 ∙ ap old.ty same) in
    let to : (p : ℕ) → old.holds x f t ≡ Target p → (q : ℕ) × (Target z ≡ Target q) × (newest old q ≡ newest old p) = λ p e. let same : Target y ≡ Target p = sym d.held ∙ e in let is : y ≡ p = one_target y p same in (z, refl, own ∙ sym z_is ∙ ap (newest old) is) in
    let fine : (q : ℕ) → Target z ≡ Target q → newest old q ≡ q = λ q e. let same : z ≡ q = one_target z q e in subst (λ (q : ℕ). newest old q ≡ q) same own in
    let goes : (q : ℕ) → Target z ≡ Target q → (q < old.count) × IsNewest old (newest old q) × ((j : ℕ) → old.later q ≡ Some j → old.first j ≡ t) × (old.made x ≡ true) × (old.made q ≡ true) = λ q e. let same : z ≡ q = one_target z q e in subst (λ (q : ℕ). (q < old.count) × IsNewest old (newest old q) × ((j : ℕ) → old.later q ≡ Some j → old.first j ≡ t) × (old.made x ≡ true) × (old.made q ≡ true)) same (next.0, subst (IsNewest old) (sym own) zlast, (λ j h. absurd (let none : None ≡ Some j = sym zlast.last ∙ h in cc)), live.0, kin.2 ∙ live.1) in
    let each = each_kept shape t old new l o x f (Target z) k s last d.entry from to fine in
    let slot = l.matched.found x f y last d.held in
    let entered : old.entry z slot.0 ≡ Some (x, f) = ap (λ w. old.entry w slot.0) (sym z_is) ∙ slot.2 in
    let limit : (type_at shape (old.ty z)).limit ≡ (type_at shape (old.ty y)).limit = ap (λ (v : TypeNo). (type_at shape v).limit) kin.1 in
    let was : if_stale old t z (old.entry z slot.0) ≡ 1 = ap (if_stale old t z) entered ∙ ap (if_other z) d.held ∙ ap (λ b. cond b 0 1) (false_from_ne_true (eqb y z) (λ e. let q : y ≡ z = eqb-true y z e in let fe : old.first y ≡ old.first z = ap old.first q in omega (arith, next.2, fe))) in
    let now : if_stale new t z (new.entry z slot.0) ≡ 0 = ap (if_stale new t z) (d.entry z slot.0 ∙ entered) ∙ ap (if_other z) s.here ∙ other-none z (Target z) (λ q e. one_target q z (sym e)) in
    let falls : suc (stale shape new t) ≤ stale shape old t = stale_falls shape t old new l o x f (Target z) k s last each z slot.0 zlast (omega (arith, slot.1, limit)) (omega (arith, was, now)) in
    let rises : potential new ≤ potential old + k = potential_after shape t old new l o x f (Target z) k s last in (
      line_after shape t old new l o x f (Target z) k s (kind ∙ ap (λ (v : TypeNo). Some (Pointer v)) (sym kin.1)) (matched_kept shape t old new l o x f (Target z) k s last d.entry from to) goes,
      stay shape t old new l o x f (Target z) k s,
      nothing_here shape t old new l o x f (Target z) k s (ap number (sym d.held)) (ap Some kin.0 ∙ ap (denoted old.name) (sym d.held)),
      (omega (arith, falls, rises, o.count, s.most)),
      rises,
      falls,
    )
