use Rattle.std.proofs.Common.{◌≡◌, ◌≢◌, ℕ, ◌+◌, ◌-◌, ◌<◌, ◌≤◌, Bool, true, false, ◌&&◌, eqb, ◌↔◌, refl, sym, ap, ◌∙◌, ◌⊎◌, inl, inr, ⊎_elim, arith}
use Rattle.std.proofs.lemmas.Bool.{cases_Bool, eq-eqb, eqb-true, and_parts, false≢true, false_from_ne_true}
use Rattle.pst_base.proofs.Below.{all_counted, count_le, counted_all, sum_below-one, sum_below-same, sum_below-split, sum_below-swap, sum_below-zero}
use Rattle.pst_base.specs.Below.{one_if, sum_below}
use Rattle.pst_rows.specs.declared.content.Content.{Content}
use Rattle.pst_rows.specs.declared.content.Content.TheVariants.{Number, Null, Free, Target as TargetOf, From as FromOf}
use Rattle.pst_mirror.specs.Contents.{Target, From}
use Rattle.pst_mirror.specs.Mirror.{Chart, IsMirrored}
use Rattle.pst_mirror.specs.Degree.{leads_to, is_entry, in_degree, entries, AreWithin, is_other_entry, in_degree_apart, HasEntriesIn, DegreeLaw, LimitLaw, FullLaw, FullApartLaw}
use Rattle.pst_mirror.proofs.MirrorLemmas.{from_node, from_field}

-- whether a content is this very entry
abbrev pub is_from : ℕ → ℕ → Content → Bool
is_from x f (Number n) = false
is_from x f Null = false
is_from x f (TargetOf z) = false
is_from x f Free = false
is_from x f (FromOf z g) = eqb z.0 x && eqb g.0 f

is_from_true : (x f : ℕ) (c : Content) → is_from x f c ≡ true → c ≡ From x f
is_from_true x f (Number n) e = cc
is_from_true x f Null e = cc
is_from_true x f (TargetOf z) e = cc
is_from_true x f Free e = cc
is_from_true x f (FromOf znode gslot) e = let z : ℕ = znode.0 in let g : ℕ = gslot.0 in let p : (eqb z x ≡ true) × (eqb g f ≡ true) =
    and_parts (eqb z x) (eqb g f) e in ap (λ (k : ℕ). From k g) (eqb-true z x p.0) ∙ ap (From x) (eqb-true g f p.1)

from_is : (x f : ℕ) (c : Content) → c ≡ From x f → is_from x f c ≡ true
from_is x f c e = rw e (rw (eq-eqb x x refl, eq-eqb f f refl) refl)

leads_true : (y : ℕ) (c : Content) → leads_to y c ≡ true → c ≡ Target y
leads_true y (Number n) e = cc
leads_true y Null e = cc
leads_true y (TargetOf znode) e = let z : ℕ = znode.0 in ap Target (eqb-true z y e)
leads_true y Free e = cc
leads_true y (FromOf z f) e = cc

entry_parts : (c : Content) → (is_entry c ≡ false) ⊎ ((x : ℕ) × (f : ℕ) × (c ≡ From x f))
entry_parts (Number n) = inl refl
entry_parts Null = inl refl
entry_parts (TargetOf z) = inl refl
entry_parts Free = inl refl
entry_parts (FromOf z f) = inr (z.0, f.0, refl)

module _ (w : Chart) (nodes : ℕ) (width : ℕ → ℕ) (y slots n : ℕ) (mir : IsMirrored w) (in' : AreWithin w nodes width y slots n) where
  not_from : (x f s : ℕ) → (w.holds y s n ≡ From x f → ⊥) → one_if (is_from x f (w.holds y s n)) ≡ 0
  not_from x f s h = let e : is_from x f (w.holds y s n) ≡ false = false_from_ne_true (is_from x f (w.holds y s n)) (λ q. h (is_from_true x f (w.holds y s n) q)) in rw e refl

  is_from_one : (x f s : ℕ) → w.holds y s n ≡ From x f → one_if (is_from x f (w.holds y s n)) ≡ 1
  is_from_one x f s e = rw (from_is x f (w.holds y s n) e) refl

  -- the slots that have the entry of a field: one where the field leads to y
  by_field : (x f : ℕ) → sum_below slots (λ s. one_if (is_from x f (w.holds y s n))) ≡ one_if (leads_to y (w.holds x f n))
  by_field x f =
      ⊎_elim
      (λ (e : leads_to y (w.holds x f n) ≡ true).
      let t : (s : ℕ) × (w.holds y s n ≡ From x f) = mir.found x f n y (leads_true y (w.holds x f n) e) in
      rw e (sum_below-one slots (λ s. one_if (is_from x f (w.holds y s n))) t.0 (in'.slot t.0 x f t.1) (is_from_one x f t.0 t.1)
      (λ j l ne. not_from x f j (λ q. ne (mir.one y j t.0 n x f q t.1)))))
      (λ (e : leads_to y (w.holds x f n) ≡ false).
      rw e (sum_below-zero slots (λ s. one_if (is_from x f (w.holds y s n))) (λ j l. not_from x f j (λ q. false≢true (sym e ∙ ((rw (mir.back y j n x f q) (eq-eqb y y refl))))))))
      (cases_Bool (leads_to y (w.holds x f n)))

  -- the fields whose entry a slot has: one where it has an entry
  by_slot : (s : ℕ) → sum_below nodes (λ x. sum_below (width x) (λ f. one_if (is_from x f (w.holds y s n)))) ≡ one_if (is_entry (w.holds y s n))
  by_slot s =
      ⊎_elim
      (λ (e : is_entry (w.holds y s n) ≡ false).
      rw e (sum_below-zero nodes (λ x. sum_below (width x) (λ f. one_if (is_from x f (w.holds y s n))))
      (λ x l. sum_below-zero (width x) (λ f. one_if (is_from x f (w.holds y s n))) (λ f l. not_from x f s (λ q. false≢true (sym e ∙ (rw q refl)))))))
      (λ (v : (x : ℕ) × (f : ℕ) × (w.holds y s n ≡ From x f)).
      let p : w.holds v.0 v.1 n ≡ Target y = mir.back y s n v.0 v.1 v.2 in
      let yes : is_entry (w.holds y s n) ≡ true = rw v.2 refl in
      rw yes (sum_below-one nodes (λ x. sum_below (width x) (λ f. one_if (is_from x f (w.holds y s n)))) v.0 (in'.node v.0 v.1 p)
      (sum_below-one (width v.0) (λ f. one_if (is_from v.0 f (w.holds y s n))) v.1 (in'.field v.0 v.1 p) (is_from_one v.0 v.1 s v.2)
      (λ j l ne. not_from v.0 j s (λ q. ne (sym (from_field v.0 v.0 v.1 j (sym v.2 ∙ q))))))
      (λ x l ne. sum_below-zero (width x) (λ f. one_if (is_from x f (w.holds y s n))) (λ f l. not_from x f s (λ q. ne (sym (from_node v.0 x v.1 f (sym v.2 ∙ q))))))))
      (entry_parts (w.holds y s n))

  degree : in_degree w nodes width y n ≡ entries w slots y n
  degree =
      sum_below-same nodes (λ x. sum_below (width x) (λ f. one_if (leads_to y (w.holds x f n)))) (λ x. sum_below slots (λ s. sum_below (width x) (λ f. one_if (is_from x f (w.holds y s n)))))
      (λ x l. sum_below-same (width x) (λ f. one_if (leads_to y (w.holds x f n))) (λ f. sum_below slots (λ s. one_if (is_from x f (w.holds y s n)))) (λ f l. sym (by_field x f))
      ∙ sum_below-swap (width x) slots (λ f s. one_if (is_from x f (w.holds y s n))))
      ∙ sum_below-swap nodes slots (λ x s. sum_below (width x) (λ f. one_if (is_from x f (w.holds y s n))))
      ∙ sum_below-same slots (λ s. sum_below nodes (λ x. sum_below (width x) (λ f. one_if (is_from x f (w.holds y s n))))) (λ s. one_if (is_entry (w.holds y s n))) (λ s l. by_slot s)

pub degree_law : DegreeLaw
degree_law = degree

-- ---- entries of other fields

pub other_from : (x f z g : ℕ) → (z ≡ x → g ≡ f → ⊥) → is_other_entry x f (From z g) ≡ true
other_from x f z g off = let none : eqb z x && eqb g f ≡ false =
    false_from_ne_true (eqb z x && eqb g f) (λ e. let p : (eqb z x ≡ true) × (eqb g f ≡ true) = and_parts (eqb z x) (eqb g f) e in
    off (eqb-true z x p.0) (eqb-true g f p.1)) in rw none refl

pub not_other : (x f : ℕ) → is_other_entry x f (From x f) ≡ false
not_other x f = rw (eq-eqb x x refl, eq-eqb f f refl) refl

pub other_entry : (x f : ℕ) (c : Content) → is_other_entry x f c ≡ true → is_entry c ≡ true
other_entry x f (Number n) e = e
other_entry x f Null e = e
other_entry x f (TargetOf y) e = e
other_entry x f Free e = e
other_entry x f (FromOf z g) e = refl

pub entry_other : (x f : ℕ) (c : Content) → is_entry c ≡ true → c ≢ From x f → is_other_entry x f c ≡ true
entry_other x f (Number n) e ne = e
entry_other x f Null e ne = e
entry_other x f (TargetOf y) e ne = e
entry_other x f Free e ne = e
entry_other x f (FromOf znode gslot) e ne = let z : ℕ = znode.0 in let g : ℕ = gslot.0 in other_from x f z g (λ p q. ne (ap (λ k. From k g) p ∙ ap (From x) q))

module _ (w : Chart) (nodes : ℕ) (width : ℕ → ℕ) (y first limit n : ℕ) (mir : IsMirrored w) (inv : HasEntriesIn w nodes width y first limit n) where
  no_entry : (s : ℕ) → s < first → one_if (is_entry (w.holds y s n)) ≡ 0
  no_entry s l =
      elim (entry_parts (w.holds y s n)) [
        | inl e ↦ ap one_if e
        | inr t ↦ absurd (omega (arith, inv.behind s t.0 t.1 t.2))
      ]

  -- the in-degree is the number of inverse slots that hold an entry
  pub degree_is : in_degree w nodes width y n ≡ sum_below limit (λ u. one_if (is_entry (w.holds y (first + u) n)))
  degree_is =
      degree w nodes width y (first + limit) n mir inv.within
      ∙ omega (arith, sum_below-split first limit (λ s. one_if (is_entry (w.holds y s n))), sum_below-zero first (λ s. one_if (is_entry (w.holds y s n))) no_entry)

  abbrev slot : ℕ → Content
  slot u = w.holds y (first + u) n

  few : in_degree w nodes width y n ≤ limit
  few = rw degree_is (count_le (λ u. is_entry (slot u)) limit)

  full : (in_degree w nodes width y n ≡ limit) ↔ ((u : ℕ) → u < limit → is_entry (slot u) ≡ true)
  full = (
    λ e. counted_all (λ u. is_entry (slot u)) limit (sym degree_is ∙ e),
    λ h. degree_is ∙ all_counted (λ u. is_entry (slot u)) limit h,
  )

  -- the slot of a field's own entry
  own_slot : (x f : ℕ) → w.holds x f n ≡ Target y → (u : ℕ) × (u < limit) × (slot u ≡ From x f)
  own_slot x f e =
      let s : (s : ℕ) × (w.holds y s n ≡ From x f) = mir.found x f n y e in
      let low : first ≤ s.0 = inv.behind s.0 x f s.1 in
      let high : s.0 < first + limit = inv.within.slot s.0 x f s.1 in
      let at : first + (s.0 - first) ≡ s.0 = omega arith in
      (s.0 - first, omega arith, ap (λ (g : ℕ). w.holds y g n) at ∙ s.1)

  apart_others : (x f : ℕ) → in_degree_apart w nodes width x f y n ≡ limit → (u : ℕ) → u < limit → is_other_entry x f (slot u) ≡ true
  apart_others x f h u l = ⊎_elim
      (λ (e : leads_to y (w.holds x f n) ≡ true).
      let one : one_if (leads_to y (w.holds x f n)) ≡ 1 = ap one_if e in
      let own : (u : ℕ) × (u < limit) × (slot u ≡ From x f) = own_slot x f (leads_true y (w.holds x f n) e) in
      absurd (omega (arith, h, one, few, own.1)))
      (λ (e : leads_to y (w.holds x f n) ≡ false).
      let none : one_if (leads_to y (w.holds x f n)) ≡ 0 = ap one_if e in
      let all : in_degree w nodes width y n ≡ limit = omega (arith, h, none) in
      entry_other x f (slot u) (full.0 all u l)
      (λ q. false≢true (sym e ∙ ap (leads_to y) (mir.back y (first + u) n x f q) ∙ eq-eqb y y refl)))
      (cases_Bool (leads_to y (w.holds x f n)))

  others_apart : (x f : ℕ) → ((u : ℕ) → u < limit → is_other_entry x f (slot u) ≡ true) → in_degree_apart w nodes width x f y n ≡ limit
  others_apart x f h = ⊎_elim
      (λ (e : leads_to y (w.holds x f n) ≡ true).
      let own : (u : ℕ) × (u < limit) × (slot u ≡ From x f) = own_slot x f (leads_true y (w.holds x f n) e) in
      absurd (false≢true (sym (not_other x f) ∙ ap (is_other_entry x f) (sym own.2) ∙ h own.0 own.1)))
      (λ (e : leads_to y (w.holds x f n) ≡ false).
      let none : one_if (leads_to y (w.holds x f n)) ≡ 0 = ap one_if e in
      omega (arith, full.1 (λ u l. other_entry x f (slot u) (h u l)), none))
      (cases_Bool (leads_to y (w.holds x f n)))

pub limit_law : LimitLaw
limit_law = few

pub full_law : FullLaw
full_law = full

pub full_apart_law : FullApartLaw
full_apart_law w nodes width x f y first limit n mir inv = (
  apart_others w nodes width y first limit n mir inv x f,
  others_apart w nodes width y first limit n mir inv x f,
)
