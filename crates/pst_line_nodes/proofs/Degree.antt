-- The in-degree of a record in the heap at the newest stamp is the number of entries in its newest node.
use Rattle.std.proofs.Common.{◌≡◌, ◌≢◌, ℕ, ◌+◌, ◌-◌, ◌<◌, Bool, true, false, not, cond, List, length, Option, Some, None, refl, sym, ap, ◌∙◌, subst, ⊎_elim, arith, eqb, get_or}
use Rattle.std.specs.Prelude.{is_some}
use Rattle.std.specs.Option.{option_map}
use Rattle.std.proofs.lemmas.Bool.{cases_eq, cases_Bool, eq-eqb, eqb-true, ne_eqb, false≢true, false_from_ne_true}
use Rattle.std.specs.FinMap.{get}
use Rattle.pst_base.proofs.Below.{all_counted, count_le, counted_all, get_or-listed, length-listed, sum_below-one, sum_below-same, sum_below-split, sum_below-swap, sum_below-zero}
use Rattle.pst_base.proofs.Showing.{held_by-sum, shown_degree, sum_listed}
use Rattle.pst_base.specs.Below.{listed, one_if, sum_below}
use Rattle.pst_base.specs.declared.names.TypeNo.{TypeNo}
use Rattle.pst_base.specs.declared.names.Kind.TheVariants.{Pointer}
use Rattle.pst_base.specs.declared.shape.TypeShape.{TypeShape}
use Rattle.pst_base.specs.Shape.{type_at, element_count, field_kind}
use Rattle.pst_base.specs.Name.{same_name}
use Rattle.pst_base.specs.Heap.{Rec, holds, holding, held_by, in_degree, in_field, pointer_at, limit_in, limit_from, IsFull}
use Rattle.pst_base.proofs.NameLemmas.{same_name-true, same_name-same}
use Rattle.pst_line_nodes.specs.declared.content.Content.{Content}
use Rattle.pst_line_nodes.specs.declared.content.Content.TheVariants.{Number, Null, Target as TargetOf}
use Rattle.pst_line_nodes.specs.Contents.{Target}
use Rattle.pst_line_nodes.specs.Line.{Line, showing, IsIn, IsNewest, is_in, IsLine, HasKind, heap_at, record_at, denoted, number, newest}
use Rattle.pst_line_nodes.specs.Changes.{is_entry}
use Rattle.pst_line_nodes.specs.Full.{is_other_entry, FullLaw, OpenLaw}
use Rattle.pst_line_nodes.proofs.HeapLaws.{is_in-true, true-is_in, unique_name, apart, heap_has}
use Rattle.pst_line_nodes.proofs.Same.{pointer_field, no_target}
use Rattle.pst_line_nodes.proofs.Copy.{covers_last, last_covers, onward_same}
use Rattle.pst_line_nodes.proofs.Writes.{is_entry-true, is_entry-same}

-- ---- fields that lead to a node, and the entries of its slots, match one to one

module _ (nodes : ℕ) (width : ℕ → ℕ) (slots : ℕ) (leads : ℕ → ℕ → Bool) (entry : ℕ → Option (ℕ × ℕ))
    (found : (x f : ℕ) → leads x f ≡ true → (s : ℕ) × (s < slots) × (entry s ≡ Some (x, f)))
    (back : (s x f : ℕ) → entry s ≡ Some (x, f) → (leads x f ≡ true) × (x < nodes) × (f < width x))
    (one : (s u x f : ℕ) → entry s ≡ Some (x, f) → entry u ≡ Some (x, f) → s ≡ u) where
  not_from : (x f s : ℕ) → (entry s ≡ Some (x, f) → ⊥) → one_if (is_entry x f (entry s)) ≡ 0
  not_from x f s h = ap one_if (elim (entry s) as (λ (o : Option (ℕ × ℕ)). entry s ≡ o → is_entry x f o ≡ false) [
    | None ↦ λ e. refl
    | Some j ↦ λ e. false_from_ne_true (is_entry x f (Some j)) (λ t. h (e ∙ ap Some (is_entry-true x f j t)))
  ] refl)

  from_one : (x f s : ℕ) → entry s ≡ Some (x, f) → one_if (is_entry x f (entry s)) ≡ 1
  from_one x f s e = ap one_if (ap (is_entry x f) e ∙ is_entry-same x f)

  by_field : (x f : ℕ) → sum_below slots (λ s. one_if (is_entry x f (entry s))) ≡ one_if (leads x f)
  by_field x f =
      ⊎_elim
      (λ (e : leads x f ≡ true).
      let t = found x f e in
      sum_below-one slots (λ s. one_if (is_entry x f (entry s))) t.0 t.1 (from_one x f t.0 t.2) (λ j l ne. not_from x f j (λ q. ne (one j t.0 x f q t.2))) ∙ ap one_if (sym e))
      (λ (e : leads x f ≡ false).
      sum_below-zero slots (λ s. one_if (is_entry x f (entry s))) (λ j l. not_from x f j (λ q. false≢true (sym e ∙ (back j x f q).0))) ∙ ap one_if (sym e))
      (cases_Bool (leads x f))

  by_slot : (s : ℕ) → sum_below nodes (λ x. sum_below (width x) (λ f. one_if (is_entry x f (entry s)))) ≡ one_if (is_some (entry s))
  by_slot s = elim (entry s) as (λ (o : Option (ℕ × ℕ)). entry s ≡ o → sum_below nodes (λ x. sum_below (width x) (λ f. one_if (is_entry x f (entry s)))) ≡ one_if (is_some o)) [
    | None ↦ λ e. sum_below-zero nodes (λ x. sum_below (width x) (λ f. one_if (is_entry x f (entry s)))) (λ x l. sum_below-zero (width x) (λ f. one_if (is_entry x f (entry s))) (λ f l. ap (λ o. one_if (is_entry x f o)) e))
    | Some j ↦ λ e.
        let p = back s j.0 j.1 e in
        sum_below-one nodes (λ x. sum_below (width x) (λ f. one_if (is_entry x f (entry s)))) j.0 p.1
        (sum_below-one (width j.0) (λ f. one_if (is_entry j.0 f (entry s))) j.1 p.2 (from_one j.0 j.1 s e)
        (λ f l ne. not_from j.0 f s (λ q. ne (let same : Some j ≡ Some (j.0, f) = sym e ∙ q in let pair : j ≡ (j.0, f) = cc in sym (ap (λ (p : ℕ × ℕ). p.1) pair)))))
        (λ x l ne. sum_below-zero (width x) (λ f. one_if (is_entry x f (entry s))) (λ f l. not_from x f s (λ q. ne (let same : Some j ≡ Some (x, f) = sym e ∙ q in let pair : j ≡ (x, f) = cc in sym (ap (λ (p : ℕ × ℕ). p.0) pair)))))
  ] refl

  pub degree : sum_below nodes (λ x. sum_below (width x) (λ f. one_if (leads x f))) ≡ sum_below slots (λ s. one_if (is_some (entry s)))
  degree =
      sum_below-same nodes (λ x. sum_below (width x) (λ f. one_if (leads x f))) (λ x. sum_below slots (λ s. sum_below (width x) (λ f. one_if (is_entry x f (entry s)))))
      (λ x l. sum_below-same (width x) (λ f. one_if (leads x f)) (λ f. sum_below slots (λ s. one_if (is_entry x f (entry s)))) (λ f l. sym (by_field x f))
      ∙ sum_below-swap (width x) slots (λ f s. one_if (is_entry x f (entry s))))
      ∙ sum_below-swap nodes slots (λ x s. sum_below (width x) (λ f. one_if (is_entry x f (entry s))))
      ∙ sum_below-same slots (λ s. sum_below nodes (λ x. sum_below (width x) (λ f. one_if (is_entry x f (entry s))))) (λ s. one_if (is_some (entry s))) (λ s l. by_slot s)

-- ---- by nodes

-- whether a content stands for the newest node y
abbrev pub leads_to : Line → ℕ → Content → Bool
leads_to w y (Number k) = false
leads_to w y Null = false
leads_to w y (TargetOf z) = eqb (newest w z.0) y

leads_true : (w : Line) (y : ℕ) (c : Content) → leads_to w y c ≡ true → (q : ℕ) × (c ≡ Target q) × (newest w q ≡ y)
leads_true w y (Number k) e = absurd (cc)
leads_true w y Null e = absurd (cc)
leads_true w y (TargetOf z) e = (z.0, refl, eqb-true (newest w z.0) y e)

module _ (shape : List TypeShape) (t : ℕ) (w : Line) (l : IsLine shape t w) (y : ℕ) (h : IsIn w y t) where
  abbrev width : ℕ → ℕ
  width i = element_count (type_at shape (w.ty i))

  abbrev leads : ℕ → ℕ → Bool
  leads x f = cond (is_in w x t) (leads_to w y (w.holds x f t)) false

  abbrev limit : ℕ
  limit = (type_at shape (w.ty y)).limit

  y_last : IsNewest w y
  y_last = covers_last shape t w y l h.covers

  -- the newest node of what is held is in
  target_in : (i g z : ℕ) → IsIn w i t → w.holds i g t ≡ Target z → IsIn w (newest w z) t × (w.name (newest w z) ≡ w.name z) × (w.ty (newest w z) ≡ w.ty z)
  target_in i g z b e =
      let v = l.newest i g z (covers_last shape t w i l b.covers) e in
      let o = onward_same w z l.chained v.0 in
      let s = l.chained.same (newest w z) z o.0 v.0 o.1 in
      (record { covers = last_covers shape t w (newest w z) l v.1; made = s.2 ∙ (l.lives i g t z (omega arith) b.covers e).1 }, s.0, s.1)

  pub holding_is : (c : Content) → ((z : ℕ) → c ≡ Target z → IsIn w (newest w z) t × (w.name (newest w z) ≡ w.name z) × (w.ty (newest w z) ≡ w.ty z)) → holding (w.name y) (denoted w.name c) ≡ one_if (leads_to w y c)
  holding_is (Number k) g = refl
  holding_is Null g = refl
  holding_is (TargetOf z) g =
      let v = g z.0 refl in
      ⊎_elim
      (λ (e : newest w z.0 ≡ y).
      let on : same_name (w.name z.0) (w.name y) ≡ true = ap (λ k. same_name k (w.name y)) (sym v.1 ∙ ap w.name e) ∙ same_name-same (w.name y) in
      rw (eq-eqb (newest w z.0) y e, on) refl)
      (λ (e : newest w z.0 ≡ y → ⊥).
      let off : same_name (w.name z.0) (w.name y) ≡ false = false_from_ne_true (same_name (w.name z.0) (w.name y)) (λ s. e (unique_name w (newest w z.0) y t l.chained v.0 h (v.1 ∙ same_name-true (w.name z.0) (w.name y) s))) in
      rw (ne_eqb (newest w z.0) y e, off) refl)
      (cases_eq (newest w z.0) y)

  not_led : (i g : ℕ) → IsIn w i t → g < (type_at shape (w.ty i)).values → one_if (leads_to w y (w.holds i g t)) ≡ 0
  not_led i g b s = led (w.holds i g t) (l.kinds i g t (omega arith) b.covers)
    where
      led : (c : Content) → HasKind (type_at shape (w.ty i)) w.ty g c → one_if (leads_to w y c) ≡ 0
      led (Number k) m = refl
      led Null m = refl
      led (TargetOf z) m = absurd (no_target (type_at shape (w.ty i)) w.ty g z.0 m s)

  node_part : (i : ℕ) → cond (is_in w i t) (held_by (w.name y) (record_at shape w i t)) 0 ≡ sum_below (width i) (λ f. one_if (leads i f))
  node_part i = ⊎_elim
      (λ (b : is_in w i t ≡ true).
      let m = is_in-true w i t b in
      let sums : held_by (w.name y) (record_at shape w i t) ≡ sum_below (length (type_at shape (w.ty i)).targets) (λ k. one_if (leads_to w y (w.holds i ((type_at shape (w.ty i)).values + k) t))) =
      held_by-sum (w.name y) (listed (length (type_at shape (w.ty i)).targets) (λ k. denoted w.name (w.holds i ((type_at shape (w.ty i)).values + k) t)))
      ∙ sum_listed (w.name y) (length (type_at shape (w.ty i)).targets) (λ k. denoted w.name (w.holds i ((type_at shape (w.ty i)).values + k) t))
      ∙ sum_below-same (length (type_at shape (w.ty i)).targets) (λ k. holding (w.name y) (denoted w.name (w.holds i ((type_at shape (w.ty i)).values + k) t))) (λ k. one_if (leads_to w y (w.holds i ((type_at shape (w.ty i)).values + k) t)))
      (λ k p. holding_is (w.holds i ((type_at shape (w.ty i)).values + k) t) (λ z s. target_in i ((type_at shape (w.ty i)).values + k) z m s)) in
      let none : sum_below (type_at shape (w.ty i)).values (λ f. one_if (leads_to w y (w.holds i f t))) ≡ 0 = sum_below-zero (type_at shape (w.ty i)).values (λ f. one_if (leads_to w y (w.holds i f t))) (λ g s. not_led i g m s) in
      rw b (omega (arith, sums, none, sum_below-split (type_at shape (w.ty i)).values (length (type_at shape (w.ty i)).targets) (λ f. one_if (leads_to w y (w.holds i f t))))))
      (λ (b : is_in w i t ≡ false). rw b (sym (sum_below-zero (width i) (λ f. 0) (λ f s. refl))))
      (cases_Bool (is_in w i t))

  found : (x f : ℕ) → leads x f ≡ true → (s : ℕ) × (s < limit) × (w.entry y s ≡ Some (x, f))
  found x f e = ⊎_elim
      (λ (b : is_in w x t ≡ true).
      let c = is_in-true w x t b in
      let v = leads_true w y (w.holds x f t) (sym (ap (λ k. cond k (leads_to w y (w.holds x f t)) false) b) ∙ e) in
      let s = l.matched.found x f v.0 (covers_last shape t w x l c.covers) v.1 in
      let g = target_in x f v.0 c v.1 in
      let same : (type_at shape (w.ty v.0)).limit ≡ (type_at shape (w.ty y)).limit = ap (λ (u : TypeNo). (type_at shape u).limit) (sym g.2 ∙ ap w.ty v.2) in
      (s.0, omega (arith, s.1, same), ap (λ k. w.entry k s.0) (sym v.2) ∙ s.2))
      (λ (b : is_in w x t ≡ false). absurd (false≢true (sym (ap (λ k. cond k (leads_to w y (w.holds x f t)) false) b) ∙ e)))
      (cases_Bool (is_in w x t))

  back : (s x f : ℕ) → w.entry y s ≡ Some (x, f) → (leads x f ≡ true) × (x < w.count) × (f < width x)
  back s x f e =
      let v = l.matched.back y s x f y_last e in
      let c = last_covers shape t w x l v.0 in
      let m = (l.lives x f t v.1.0 (omega arith) c v.1.1).0 in
      let in' : is_in w x t ≡ true = true-is_in w x t (record { covers = c; made = m }) in (
        ap (λ k. cond k (leads_to w y (w.holds x f t)) false) in' ∙ ap (leads_to w y) v.1.1 ∙ eq-eqb (newest w v.1.0) y v.1.2,
        v.0.there,
        (pointer_field (type_at shape (w.ty x)) f (w.ty v.1.0) (subst (HasKind (type_at shape (w.ty x)) w.ty f) v.1.1 (l.kinds x f t (omega arith) c))).1,
      )

  -- the in-degree is the number of slots that have an entry
  pub degree_is : in_degree (heap_at shape w t) (w.name y) ≡ sum_below limit (λ s. one_if (is_some (w.entry y s)))
  degree_is =
      shown_degree (showing shape w t) (apart shape w t l.chained) (w.name y)
      ∙ sum_below-same w.count (λ i. cond (is_in w i t) (held_by (w.name y) (record_at shape w i t)) 0) (λ i. sum_below (width i) (λ f. one_if (leads i f))) (λ i b. node_part i)
      ∙ degree w.count width limit leads (w.entry y) found back (λ s u x f a b. l.matched.one y s u x f y_last a b)

-- ---- full

-- an entry that is not of this field is of another one
some_other : (x f : ℕ) (e : Option (ℕ × ℕ)) → is_some e ≡ true → (e ≡ Some (x, f) → ⊥) → is_other_entry x f e ≡ true
some_other x f None e ne = absurd (cc)
some_other x f (Some j) e ne = ap not (false_from_ne_true (is_entry x f (Some j)) (λ p. ne (ap Some (is_entry-true x f j p))))

other_some : (x f : ℕ) (e : Option (ℕ × ℕ)) → is_other_entry x f e ≡ true → is_some e ≡ true
other_some x f None e = absurd (cc)
other_some x f (Some j) e = refl

not_other : (x f : ℕ) → is_other_entry x f (Some (x, f)) ≡ false
not_other x f = ap not (is_entry-same x f)

module _ (shape : List TypeShape) (t : ℕ) (w : Line) (x f y : ℕ) (l : IsLine shape t w) (hx : IsIn w x t) (hy : IsIn w y t) (k : field_kind (type_at shape (w.ty x)) f ≡ Some (Pointer (w.ty y))) where
  -- what the field itself counts
  own : in_field (w.name y) f (get (heap_at shape w t) (w.name x)) ≡ one_if (leads_to w y (w.holds x f t))
  own =
      let p = pointer_field (type_at shape (w.ty x)) f (w.ty y) k in
      let len : length (record_at shape w x t).values ≡ (type_at shape (w.ty x)).values = length-listed (type_at shape (w.ty x)).values (λ g. number (w.holds x g t)) in
      let at : (type_at shape (w.ty x)).values + (f - (type_at shape (w.ty x)).values) ≡ f = omega (arith, p.0) in
      let ptr : pointer_at (record_at shape w x t) f ≡ denoted w.name (w.holds x f t) =
      ap (λ (m : ℕ). get_or (record_at shape w x t).pointers (f - m) None) len
      ∙ get_or-listed (length (type_at shape (w.ty x)).targets) (λ k. denoted w.name (w.holds x ((type_at shape (w.ty x)).values + k) t)) (f - (type_at shape (w.ty x)).values) None (omega (arith, p.0, p.1))
      ∙ ap (λ (g : ℕ). denoted w.name (w.holds x g t)) at in
      ap (in_field (w.name y) f) (heap_has shape w t l.chained x hx) ∙ ap (holding (w.name y)) ptr
      ∙ holding_is shape t w l y hy (w.holds x f t) (λ z e. target_in shape t w l y hy x f z hx e)

  limit_is : limit_in shape (heap_at shape w t) (w.name y) ≡ (type_at shape (w.ty y)).limit
  limit_is = ap (λ (o : Option Rec). limit_from shape (option_map (λ (r : Rec). r.ty) o)) (heap_has shape w t l.chained y hy)

  not_own : leads_to w y (w.holds x f t) ≡ false → (u : ℕ) → w.entry y u ≢ Some (x, f)
  not_own off u e =
      let v = l.matched.back y u x f (covers_last shape t w y l hy.covers) e in
      false≢true (sym off ∙ ap (leads_to w y) v.1.1 ∙ eq-eqb (newest w v.1.0) y v.1.2)

  full_slots : IsFull shape (heap_at shape w t) (w.name x) f (Some (w.name y)) → (u : ℕ) → u < (type_at shape (w.ty y)).limit → is_other_entry x f (w.entry y u) ≡ true
  full_slots full u b = ⊎_elim
      (λ (e : leads_to w y (w.holds x f t) ≡ true).
      let one : one_if (leads_to w y (w.holds x f t)) ≡ 1 = ap one_if e in
      absurd (omega (arith, full, own, one, degree_is shape t w l y hy, limit_is, count_le (λ u. is_some (w.entry y u)) (type_at shape (w.ty y)).limit)))
      (λ (e : leads_to w y (w.holds x f t) ≡ false).
      let none : one_if (leads_to w y (w.holds x f t)) ≡ 0 = ap one_if e in
      let all : sum_below (type_at shape (w.ty y)).limit (λ u. one_if (is_some (w.entry y u))) ≡ (type_at shape (w.ty y)).limit = omega (arith, full, own, none, degree_is shape t w l y hy, limit_is) in
      some_other x f (w.entry y u) (counted_all (λ u. is_some (w.entry y u)) (type_at shape (w.ty y)).limit all u b) (not_own e u))
      (cases_Bool (leads_to w y (w.holds x f t)))

  slots_full : ((u : ℕ) → u < (type_at shape (w.ty y)).limit → is_other_entry x f (w.entry y u) ≡ true) → IsFull shape (heap_at shape w t) (w.name x) f (Some (w.name y))
  slots_full h =
      let all : sum_below (type_at shape (w.ty y)).limit (λ u. one_if (is_some (w.entry y u))) ≡ (type_at shape (w.ty y)).limit = all_counted (λ u. is_some (w.entry y u)) (type_at shape (w.ty y)).limit (λ u b. other_some x f (w.entry y u) (h u b)) in
      ⊎_elim
      (λ (e : leads_to w y (w.holds x f t) ≡ true).
      let o = found shape t w l y hy x f (ap (λ k. cond k (leads_to w y (w.holds x f t)) false) (true-is_in w x t hx) ∙ e) in
      absurd (false≢true (sym (not_other x f) ∙ ap (is_other_entry x f) (sym o.2) ∙ h o.0 o.1)))
      (λ (e : leads_to w y (w.holds x f t) ≡ false).
      let none : one_if (leads_to w y (w.holds x f t)) ≡ 0 = ap one_if e in
      omega (arith, all, own, none, degree_is shape t w l y hy, limit_is))
      (cases_Bool (leads_to w y (w.holds x f t)))

pub full_law : FullLaw
full_law shape t w x f y l hx hy k = (full_slots shape t w x f y l hx hy k, slots_full shape t w x f y l hx hy k)

pub open_law : OpenLaw
open_law x f None e = refl
open_law x f (Some j) e = elim (is_entry x f (Some j)) as (λ b. not b ≡ false → cond b None (Some j) ≡ None) [ true ↦ λ h. refl | false ↦ λ h. absurd (false≢true (sym h)) ] e
