-- A full node is copied.
use Rattle.std.proofs.Common.{◌≡◌, ◌≢◌, ℕ, ◌+◌, ◌<◌, ◌≤◌, true, false, cond, Option, Some, None, List, length, pos, refl, sym, ap, ◌∙◌, subst, ◌⊎◌, inl, inr, ⊎_elim, arith, leb, eqb}
use Rattle.std.proofs.lemmas.Bool.{cases_eq, cases_lt, false≢true, eq-eqb, eqb-true, false_from_ne_true, le-leb, leb-true}
use Rattle.pst_base.proofs.Below.{sum_below-falls, sum_below-le, sum_below-none, sum_below-ones}
use Rattle.pst_base.specs.Below.{sum_below}
use Rattle.pst_base.specs.declared.names.TypeNo.{TypeNo}
use Rattle.pst_base.specs.declared.names.Kind.TheVariants.{Pointer}
use Rattle.pst_base.specs.declared.shape.TypeShape.{TypeShape}
use Rattle.pst_base.specs.Shape.{type_at}
use Rattle.pst_line_nodes.specs.declared.content.Content.{Content}
use Rattle.pst_line_nodes.specs.declared.content.Content.TheVariants.{Number, Null, Target as TargetOf}
use Rattle.pst_line_nodes.specs.Contents.{Target}
use Rattle.pst_line_nodes.specs.Line.{Line, Covers, IsNewest, AreChained, IsLine, AreMatched, HasKind, is_over, ends_by, newest, onward, if_newest, if_other, if_stale, stale_at, stale, potential, load, most, denoted, number, heap_at, record_at}
use Rattle.pst_line_nodes.specs.Changes.{IsCopied, redirected, moved, VersionsStay, CopyLaw, QuietLaw, WalkLaw}
use Rattle.pst_line_nodes.proofs.Contents.{one_target}
use Rattle.pst_line_nodes.proofs.HeapLaws.{same_heaps, over_grows}
use Rattle.pst_line_nodes.proofs.RecordLaws.{record_of-same, denoted-names, kind-types}

-- ---- newest nodes

-- a node that covers the newest stamp is a newest one
pub covers_last : (shape : List TypeShape) (t : ℕ) (w : Line) (i : ℕ) → IsLine shape t w → Covers w i t → IsNewest w i
covers_last shape t w i l h = elim (w.later i) as (λ (j : Option ℕ). w.later i ≡ j → IsNewest w i) [
  | None ↦ λ e. record { there = h.there; last = e }
  | Some j ↦ λ e.
      let next = l.chained.next i j h.there e in
      let over : is_over w i t ≡ true = ap (λ j. ends_by w.first j t) e ∙ le-leb (w.first j) t (l.first j next.0) in
      absurd (false≢true (sym h.still ∙ over))
] refl

pub last_covers : (shape : List TypeShape) (t : ℕ) (w : Line) (i : ℕ) → IsLine shape t w → IsNewest w i → Covers w i t
last_covers shape t w i l h = record { there = h.there; begun = l.first i h.there; still = ap (λ (j : Option ℕ). ends_by w.first j t) h.last }

-- what a node that covers a stamp holds is there
pub held_there : (shape : List TypeShape) (t : ℕ) (w : Line) (i g n y : ℕ) → IsLine shape t w → n ≤ t → Covers w i n → w.holds i g n ≡ Target y → y < w.count
held_there shape t w i g n y l b h e = elim (cases_lt n t) [
  | inl early ↦ (l.segments i g n y early h e).there
  | inr late ↦ let same : n ≡ t = omega arith in (l.newest i g y (covers_last shape t w i l (subst (Covers w i) same h)) (ap (w.holds i g) (sym same) ∙ e)).0
]

-- the node after one that is there is of the same record
pub onward_same : (w : Line) (y : ℕ) → AreChained w → y < w.count → (newest w y < w.count) × (w.home (newest w y) ≡ w.home y)
onward_same w y c m = elim (w.later y) as (λ (j : Option ℕ). w.later y ≡ j → (onward j y < w.count) × (w.home (onward j y) ≡ w.home y)) [
  | None ↦ λ e. (m, refl)
  | Some z ↦ λ e. let v = c.next y z m e in (v.0, v.1)
] refl

-- ---- moved entries

pub moved-some : (x z i g : ℕ) (e : Option (ℕ × ℕ)) → moved x z e ≡ Some (i, g) → (k : ℕ) × (e ≡ Some (k, g)) × (((k ≡ x) × (i ≡ z)) ⊎ ((k ≢ x) × (i ≡ k)))
moved-some x z i g None h = absurd (cc)
moved-some x z i g (Some e) h = ⊎_elim
    (λ (p : e.0 ≡ x).
    let is : moved x z (Some e) ≡ Some (z, e.1) = ap (λ b. cond b (Some (z, e.1)) (Some e)) (eq-eqb e.0 x p) in
    let some : Some (z, e.1) ≡ Some (i, g) = sym is ∙ h in
    let same : (z, e.1) ≡ (i, g) = cc in
    (e.0, ap (λ g. Some (e.0, g)) (ap (λ (p : ℕ × ℕ). p.1) same), inl (p, sym (ap (λ (p : ℕ × ℕ). p.0) same))))
    (λ (p : e.0 ≡ x → ⊥).
    let is : moved x z (Some e) ≡ Some e = ap (λ b. cond b (Some (z, e.1)) (Some e)) (false_from_ne_true (eqb e.0 x) (λ q. p (eqb-true e.0 x q))) in
    let some : Some e ≡ Some (i, g) = sym is ∙ h in
    let same : e ≡ (i, g) = cc in
    (e.0, ap (λ g. Some (e.0, g)) (ap (λ (p : ℕ × ℕ). p.1) same), inr (p, sym (ap (λ (p : ℕ × ℕ). p.0) same))))
    (cases_eq e.0 x)

pub moved-x : (x z g : ℕ) → moved x z (Some (x, g)) ≡ Some (z, g)
moved-x x z g = ap (λ b. cond b (Some (z, g)) (Some (x, g))) (eq-eqb x x refl)

pub moved-other : (x z i g : ℕ) → i ≢ x → moved x z (Some (i, g)) ≡ Some (i, g)
moved-other x z i g ne = ap (λ b. cond b (Some (z, g)) (Some (i, g))) (false_from_ne_true (eqb i x) (λ q. ne (eqb-true i x q)))

-- ---- redirected contents

pub redirected-x : (w : Line) (x z : ℕ) → redirected w x z (Target x) ≡ Target z
redirected-x w x z = ap (λ b. cond b (Target z) (Target (newest w x))) (eq-eqb x x refl)

pub redirected-other : (w : Line) (x z q : ℕ) → q ≢ x → redirected w x z (Target q) ≡ Target (newest w q)
redirected-other w x z q ne = ap (λ b. cond b (Target z) (Target (newest w q))) (false_from_ne_true (eqb q x) (λ h. ne (eqb-true q x h)))

pub redirected-target : (w : Line) (x z y : ℕ) (c : Content) → redirected w x z c ≡ Target y → ((c ≡ Target x) × (y ≡ z)) ⊎ ((q : ℕ) × (c ≡ Target q) × (q ≢ x) × (y ≡ newest w q))
redirected-target w x z y (Number n) e = absurd (cc)
redirected-target w x z y Null e = absurd (cc)
redirected-target w x z y (TargetOf q) e = ⊎_elim
    (λ (p : q.0 ≡ x). inl (ap Target p, let a : Target z ≡ Target y = sym (redirected-x w x z) ∙ ap (λ k. redirected w x z (Target k)) (sym p) ∙ e in sym (one_target z y a)))
    (λ (p : q.0 ≡ x → ⊥). inr (q.0, refl, p, let a : Target (newest w q.0) ≡ Target y = sym (redirected-other w x z q.0 p) ∙ e in sym (one_target (newest w q.0) y a)))
    (cases_eq q.0 x)

if_other-le : (y : ℕ) (c : Content) → if_other y c ≤ 1
if_other-le y (Number n) = omega arith
if_other-le y Null = omega arith
if_other-le y (TargetOf q) = elim (eqb q.0 y) as (λ b. cond b 0 1 ≤ 1) [ true ↦ omega arith | false ↦ omega arith ]

pub if_stale-le : (w : Line) (t y : ℕ) (e : Option (ℕ × ℕ)) → if_stale w t y e ≤ 1
if_stale-le w t y None = omega arith
if_stale-le w t y (Some e) = if_other-le y (w.holds e.0 e.1 t)

ends_by-some : (f g : ℕ → ℕ) (o : Option ℕ) (n : ℕ) → ((j : ℕ) → o ≡ Some j → f j ≡ g j) → ends_by f o n ≡ ends_by g o n
ends_by-some f g None n h = refl
ends_by-some f g (Some j) n h = rw (h j refl) refl

module _ (shape : List TypeShape) (old new : Line) (x t : ℕ) (l : IsLine shape t old) (d : IsCopied old new x t) where
  abbrev z : ℕ
  z = old.count

  xin : x < z
  xin = d.newest.there

  node_cases : (i : ℕ) → i < new.count → (i ≡ z) ⊎ (i < z)
  node_cases i m = ⊎_elim (λ (p : i < old.count). inr p) (λ (p : old.count ≤ i). inl (omega (arith, d.count))) (cases_lt i old.count)

  apart_z : (i : ℕ) → i < z → i ≢ z
  apart_z i m s = absurd (omega arith)

  up : (i : ℕ) → i < z → i < new.count
  up i m = omega (arith, d.count)

  z_there : z < new.count
  z_there = omega (arith, d.count)

  -- ---- which stamps nodes cover

  over_other : (i n : ℕ) → i < z → i ≢ x → is_over new i n ≡ is_over old i n
  over_other i n m ne = ap (λ j. ends_by new.first j n) (d.later i m ne) ∙ ends_by-some new.first old.first (old.later i) n (λ j e. d.first j (l.chained.next i j m e).0)

  over_x : (n : ℕ) → is_over new x n ≡ leb t n
  over_x n = ap (λ j. ends_by new.first j n) d.later_x ∙ ap (λ f. leb f n) d.first_z

  over_z : (n : ℕ) → is_over new z n ≡ false
  over_z n = ap (λ j. ends_by new.first j n) d.later_z

  old_x : (n : ℕ) → is_over old x n ≡ false
  old_x n = ap (λ j. ends_by old.first j n) d.newest.last

  covers_new : (i n : ℕ) → Covers old i n → (i ≡ x → n < t) → Covers new i n
  covers_new i n h early = record {
    there = up i h.there;
    begun = omega (arith, d.first i h.there, h.begun);
    still = ⊎_elim
        (λ (p : i ≡ x). ap (λ i. is_over new i n) p ∙ over_x n ∙ false_from_ne_true (leb t n) (λ e. let a = leb-true t n e in let b = early p in omega arith))
        (λ (p : i ≡ x → ⊥). over_other i n h.there p ∙ h.still)
        (cases_eq i x);
  }

  covers_old : (i n : ℕ) → i < z → Covers new i n → Covers old i n
  covers_old i n m h = record {
    there = m;
    begun = omega (arith, d.first i m, h.begun);
    still = ⊎_elim
        (λ (p : i ≡ x). ap (λ i. is_over old i n) p ∙ old_x n)
        (λ (p : i ≡ x → ⊥). sym (over_other i n m p) ∙ h.still)
        (cases_eq i x);
  }

  covers_z : (n : ℕ) → t ≤ n → Covers new z n
  covers_z n m = record { there = z_there; begun = omega (arith, d.first_z); still = over_z n }

  z_late : (i n : ℕ) → i ≡ z → Covers new i n → t ≤ n
  z_late i n p h = let f : new.first i ≡ t = ap new.first p ∙ d.first_z in omega (arith, h.begun)

  -- ---- the node of which a node is, or is the copy

  pub record Origin (i : ℕ) : Type 0 where
    pub from : ℕ
    pub there : from < z
    pub home : new.home i ≡ old.home from
    pub name : new.name i ≡ old.name from
    pub ty : new.ty i ≡ old.ty from
    pub made : new.made i ≡ old.made from

  origin : (i : ℕ) → i < new.count → Origin i
  origin i m = elim (node_cases i m) [
    | inl p ↦ record { from = x; there = xin; home = ap new.home p ∙ d.home_z; name = ap new.name p ∙ d.name_z; ty = ap new.ty p ∙ d.ty_z; made = ap new.made p ∙ d.made_z }
    | inr p ↦ record { from = i; there = p; home = d.home i p; name = d.name i p; ty = d.ty i p; made = d.made i p }
  ]

  -- a node that is not x, of its record, was over when x began
  apart_x : (j : ℕ) → j < z → j ≢ x → old.home j ≡ old.home x → is_over new j (new.first z) ≡ true
  apart_x j m ne e =
      over_other j (new.first z) m ne ∙
      ⊎_elim
      (λ (o : is_over old j (old.first x) ≡ true). over_grows old.first (old.later j) (old.first x) (new.first z) (omega (arith, d.before, d.first_z)) o)
      (λ (o : is_over old x (old.first j) ≡ true). absurd (false≢true (sym (old_x (old.first j)) ∙ o)))
      (l.chained.apart j x m xin ne e)

  over_next : (i j : ℕ) → i < z → j < z → is_over old i (old.first j) ≡ true → is_over new i (new.first j) ≡ true
  over_next i j m k o = ⊎_elim
      (λ (p : i ≡ x). absurd (false≢true (sym (old_x (old.first j)) ∙ ap (λ i. is_over old i (old.first j)) (sym p) ∙ o)))
      (λ (p : i ≡ x → ⊥). ap (is_over new i) (d.first j k) ∙ over_other i (old.first j) m p ∙ o)
      (cases_eq i x)

  over_z_for : (i j : ℕ) → i < z → j ≡ z → new.home i ≡ new.home j → is_over new i (new.first j) ≡ true
  over_z_for i j m p e = ap (λ j. is_over new i (new.first j)) p ∙ ⊎_elim
      (λ (s : i ≡ x). ap (λ i. is_over new i (new.first z)) s ∙ over_x (new.first z) ∙ le-leb t (new.first z) (omega (arith, d.first_z)))
      (λ (s : i ≡ x → ⊥). apart_x i m s (sym (d.home i m) ∙ e ∙ ap new.home p ∙ d.home_z))
      (cases_eq i x)

  copied_chained : AreChained new
  copied_chained = record {
    next = λ i j m s. elim (node_cases i m) [
      | inl p ↦ absurd (let none : None ≡ Some j = sym d.later_z ∙ ap new.later (sym p) ∙ s in cc)
      | inr p ↦ ⊎_elim
          (λ (q : i ≡ x).
          let is : Some z ≡ Some j = sym d.later_x ∙ ap new.later (sym q) ∙ s in
          let same : z ≡ j = cc in
          let fi : new.first i ≡ old.first x = ap new.first q ∙ d.first x xin in
          let fj : new.first j ≡ t = ap new.first (sym same) ∙ d.first_z in
          (omega (arith, same, z_there), ap new.home (sym same) ∙ d.home_z ∙ sym (d.home x xin) ∙ ap new.home (sym q), omega (arith, fi, fj, d.before)))
          (λ (q : i ≡ x → ⊥).
          let v = l.chained.next i j p (sym (d.later i p q) ∙ s) in
          (up j v.0, d.home j v.0 ∙ v.1 ∙ sym (d.home i p), omega (arith, v.2, d.first i p, d.first j v.0)))
          (cases_eq i x)
    ];
    apart = λ i j m k ne e. elim (node_cases i m) [
      | inl p ↦ elim (node_cases j k) [
        | inl q ↦ absurd (ne (p ∙ sym q))
        | inr q ↦ inr (over_z_for j i q p (sym e))
      ]
      | inr p ↦ elim (node_cases j k) [
        | inl q ↦ inl (over_z_for i j p q e)
        | inr q ↦ elim (l.chained.apart i j p q ne (sym (d.home i p) ∙ e ∙ d.home j q)) [
          | inl o ↦ inl (over_next i j p q o)
          | inr o ↦ inr (over_next j i q p o)
        ]
      ]
    ];
    same = λ i j m k e. let a = origin i m in let b = origin j k in let v = l.chained.same a.from b.from a.there b.there (sym a.home ∙ e ∙ b.home) in
        (a.name ∙ v.0 ∙ sym b.name, a.ty ∙ v.1 ∙ sym b.ty, a.made ∙ v.2 ∙ sym b.made);
    named = λ i j m k u v e. let a = origin i m in let b = origin j k in
        a.home ∙ l.chained.named a.from b.from a.there b.there (sym a.made ∙ u) (sym b.made ∙ v) (sym a.name ∙ e ∙ b.name) ∙ sym b.home;
  }

  -- ---- what is held

  -- a pointer to x is no pointer to another node that was copied to x
  onto_x : (i g q : ℕ) → IsNewest old i → old.holds i g t ≡ Target q → newest old q ≡ x → q ≡ x
  onto_x i g q n e is =
      let v = l.newest i g q n e in
      elim (old.later q) as (λ (j : Option ℕ). old.later q ≡ j → onward j q ≡ x → q ≡ x) [
        | None ↦ λ h p. p
        | Some k ↦ λ h p. absurd (let f : old.first k ≡ t = v.2 k h in let fx : old.first k ≡ old.first x = ap old.first p in omega (arith, d.before))
      ] refl is

  newest_z : newest new z ≡ z
  newest_z = ap (λ j. onward j z) d.later_z

  newest_x : newest new x ≡ z
  newest_x = ap (λ j. onward j x) d.later_x

  newest_other : (q : ℕ) → q < z → q ≢ x → newest new q ≡ newest old q
  newest_other q m ne = ap (λ j. onward j q) (d.later q m ne)

  last_z : IsNewest new z
  last_z = record { there = z_there; last = d.later_z }

  last_new : (i : ℕ) → IsNewest old i → i ≢ x → IsNewest new i
  last_new i n ne = record { there = up i n.there; last = d.later i n.there ne ∙ n.last }

  last_old : (i : ℕ) → i < z → IsNewest new i → IsNewest old i × (i ≢ x)
  last_old i m n =
      let ne : i ≢ x = λ p. let some : None ≡ Some z = sym n.last ∙ ap new.later p ∙ d.later_x in cc in
      (record { there = m; last = sym (d.later i m ne) ∙ n.last }, ne)

  own : (y : ℕ) → IsNewest new y → newest new y ≡ y
  own y n = ap (λ j. onward j y) n.last

  -- where the newest node of what is held is another than x
  newest_held : (i g q : ℕ) → IsNewest old i → old.holds i g t ≡ Target q → q ≢ x → IsNewest new (newest old q)
  newest_held i g q n e ne = last_new (newest old q) (l.newest i g q n e).1 (λ p. ne (onto_x i g q n e p))

  x_covers : Covers old x t
  x_covers = last_covers shape t old x l d.newest

  -- ---- the heaps

  names : (i g n : ℕ) → n ≤ t → Covers old i n → denoted new.name (old.holds i g n) ≡ denoted old.name (old.holds i g n)
  names i g n m h = denoted-names old.name new.name (old.holds i g n) (λ y e. d.name y (held_there shape t old i g n y l m h e))

  other_record : (i n : ℕ) → n ≤ t → Covers old i n → record_at shape new i n ≡ record_at shape old i n
  other_record i n m h = record_of-same shape (old.ty i) (new.ty i) old.name new.name (λ g. old.holds i g n) (λ g. new.holds i g n) (d.ty i h.there)
      (λ g b. ap number (d.holds i g n h.there))
      (λ g b. ap (denoted new.name) (d.holds i g n h.there) ∙ names i g n m h)

  copy_number : (c : Content) → number (redirected old x z c) ≡ number c
  copy_number (Number n) = refl
  copy_number Null = refl
  copy_number (TargetOf q) = elim (eqb q.0 x) as (λ b. number (cond b (Target z) (Target (newest old q.0))) ≡ pos 0) [ true ↦ refl | false ↦ refl ]

  copy_name : (c : Content) → ((q : ℕ) → c ≡ Target q → q < z) → denoted new.name (redirected old x z c) ≡ denoted old.name c
  copy_name (Number n) h = refl
  copy_name Null h = refl
  copy_name (TargetOf q) h = ⊎_elim
      (λ (p : q.0 ≡ x). ap (λ k. denoted new.name (redirected old x z (Target k))) p ∙ ap (denoted new.name) (redirected-x old x z) ∙ ap Some (d.name_z ∙ ap old.name (sym p)))
      (λ (p : q.0 ≡ x → ⊥). let v = onward_same old q.0 l.chained (h q.0 refl) in
      ap (denoted new.name) (redirected-other old x z q.0 p) ∙ ap Some (d.name (newest old q.0) v.0 ∙ (l.chained.same (newest old q.0) q.0 v.0 (h q.0 refl) v.1).0))
      (cases_eq q.0 x)

  copy_record : record_at shape new z t ≡ record_at shape old x t
  copy_record = record_of-same shape (old.ty x) (new.ty z) old.name new.name (λ g. old.holds x g t) (λ g. new.holds z g t) d.ty_z
      (λ g b. ap number (d.holds_z g t) ∙ copy_number (old.holds x g t))
      (λ g b. ap (denoted new.name) (d.holds_z g t) ∙ copy_name (old.holds x g t) (λ q e. held_there shape t old x g t q l (omega arith) x_covers e))

  pub copied_elsewhere : (n : ℕ) → n < t → heap_at shape new n ≡ heap_at shape old n
  copied_elsewhere n early = same_heaps shape old new n n l.chained copied_chained
      (λ i h. (i, record { covers = covers_new i n h.covers (λ p. early); made = d.made i h.covers.there ∙ h.made }, d.name i h.covers.there, other_record i n (omega arith) h.covers))
      (λ j h. elim (node_cases j h.covers.there) [
        | inl p ↦ absurd (let a = z_late j n p h.covers in omega arith)
        | inr p ↦ (j, record { covers = covers_old j n p h.covers; made = sym (d.made j p) ∙ h.made }, sym (d.name j p))
      ])

  pub copied_here : heap_at shape new t ≡ heap_at shape old t
  copied_here = same_heaps shape old new t t l.chained copied_chained
      (λ i h. ⊎_elim
      (λ (p : i ≡ x). (z, record { covers = covers_z t (omega arith); made = d.made_z ∙ ap old.made (sym p) ∙ h.made }, d.name_z ∙ ap old.name (sym p), copy_record ∙ ap (λ i. record_at shape old i t) (sym p)))
      (λ (p : i ≡ x → ⊥). (i, record { covers = covers_new i t h.covers (λ q. absurd (p q)); made = d.made i h.covers.there ∙ h.made }, d.name i h.covers.there, other_record i t (omega arith) h.covers))
      (cases_eq i x))
      (λ j h. elim (node_cases j h.covers.there) [
        | inl p ↦ (x, record { covers = x_covers; made = sym d.made_z ∙ ap new.made (sym p) ∙ h.made }, sym d.name_z ∙ ap new.name (sym p))
        | inr p ↦ (j, record { covers = covers_old j t p h.covers; made = sym (d.made j p) ∙ h.made }, sym (d.name j p))
      ])

  pub copied_stay : VersionsStay shape t old new
  copied_stay = record {
    heaps = copied_elsewhere;
    live = λ i n m h. (record { there = up i h.there; made = d.made i h.there ∙ h.made; begun = omega (arith, d.first i h.there, h.begun) }, d.name i h.there);
  }

  -- ---- the rules

  -- what a newest node holds now: what it held, or what x held, redirected
  pub record Held (i g y : ℕ) : Type 0 where
    pub was : ℕ
    pub slot_of : ℕ
    pub last : IsNewest old slot_of
    pub held : old.holds slot_of g t ≡ Target was
    pub whose : ((slot_of ≡ x) × (i ≡ z)) ⊎ ((slot_of ≢ x) × (i ≡ slot_of))
    pub goes : ((was ≡ x) × (newest new y ≡ z)) ⊎ ((was ≢ x) × (newest new y ≡ newest old was))
    pub there : y < new.count
    pub type : new.ty y ≡ old.ty was
    pub made : new.made y ≡ old.made was
    pub fresh : (j : ℕ) → new.later y ≡ Some j → new.first j ≡ t

  none_later : (y j : ℕ) → IsNewest new y → new.later y ≡ Some j → new.first j ≡ t
  none_later y j n e = absurd (let none : None ≡ Some j = sym n.last ∙ e in cc)

  held_now : (i g y : ℕ) → IsNewest new i → new.holds i g t ≡ Target y → Held i g y
  held_now i g y n e = elim (node_cases i n.there) [
    | inl p ↦ elim (redirected-target old x z y (old.holds x g t) (sym (d.holds_z g t) ∙ ap (λ i. new.holds i g t) (sym p) ∙ e)) [
      | inl r ↦
          let yz = r.1 in
          let ylast : IsNewest new y = subst (IsNewest new) (sym yz) last_z in
          record {
            was = x;
            slot_of = x;
            last = d.newest;
            held = r.0;
            whose = inl (refl, p);
            goes = inl (refl, own y ylast ∙ yz);
            there = ylast.there;
            type = ap new.ty yz ∙ d.ty_z;
            made = ap new.made yz ∙ d.made_z;
            fresh = λ j h. none_later y j ylast h;
          }
      | inr r ↦
          let v = l.newest x g r.0 d.newest r.1 in
          let o = onward_same old r.0 l.chained v.0 in
          let s = l.chained.same (newest old r.0) r.0 o.0 v.0 o.1 in
          let ylast : IsNewest new y = subst (IsNewest new) (sym r.3) (newest_held x g r.0 d.newest r.1 r.2) in
          record {
            was = r.0;
            slot_of = x;
            last = d.newest;
            held = r.1;
            whose = inl (refl, p);
            goes = inr (r.2, own y ylast ∙ r.3);
            there = ylast.there;
            type = ap new.ty r.3 ∙ d.ty (newest old r.0) o.0 ∙ s.1;
            made = ap new.made r.3 ∙ d.made (newest old r.0) o.0 ∙ s.2;
            fresh = λ j h. none_later y j ylast h;
          }
    ]
    | inr p ↦
        let b = last_old i p n in
        let e' : old.holds i g t ≡ Target y = sym (d.holds i g t p) ∙ e in
        let v = l.newest i g y b.0 e' in
        ⊎_elim
        (λ (q : y ≡ x). record {
          was = y;
          slot_of = i;
          last = b.0;
          held = e';
          whose = inr (b.1, refl);
          goes = inl (q, ap (newest new) q ∙ newest_x);
          there = up y v.0;
          type = d.ty y v.0;
          made = d.made y v.0;
          fresh = λ j h. let some : Some z ≡ Some j = sym d.later_x ∙ ap new.later (sym q) ∙ h in let is : z ≡ j = cc in ap new.first (sym is) ∙ d.first_z;
        })
        (λ (q : y ≡ x → ⊥). record {
          was = y;
          slot_of = i;
          last = b.0;
          held = e';
          whose = inr (b.1, refl);
          goes = inr (q, newest_other y v.0 q);
          there = up y v.0;
          type = d.ty y v.0;
          made = d.made y v.0;
          fresh = λ j h. let h' : old.later y ≡ Some j = sym (d.later y v.0 q) ∙ h in let k = l.chained.next y j v.0 h' in d.first j k.0 ∙ v.2 j h';
        })
        (cases_eq y x)
  ]

  held_newest : (i g y : ℕ) (h : Held i g y) → IsNewest new (newest new y)
  held_newest i g y h = elim h.goes [
    | inl r ↦ subst (IsNewest new) (sym r.1) last_z
    | inr r ↦ subst (IsNewest new) (sym r.1) (newest_held h.slot_of g h.was h.last h.held r.0)
  ]

  -- the field of an entry, once it is moved
  entry_of : (i k g : ℕ) (e : Option (ℕ × ℕ)) → ((k ≡ x) × (i ≡ z)) ⊎ ((k ≢ x) × (i ≡ k)) → e ≡ Some (k, g) → moved x z e ≡ Some (i, g)
  entry_of i k g e w h = ap (moved x z) h ∙ elim w [
    | inl p ↦ ap (λ k. moved x z (Some (k, g))) p.0 ∙ moved-x x z g ∙ ap (λ i. Some (i, g)) (sym p.1)
    | inr p ↦ moved-other x z k g p.0 ∙ ap (λ i. Some (i, g)) (sym p.1)
  ]

  -- what a field that an entry stands for holds now
  back_last : (i k : ℕ) → IsNewest old k → ((k ≡ x) × (i ≡ z)) ⊎ ((k ≢ x) × (i ≡ k)) → IsNewest new i
  back_last i k n w = elim w [
    | inl p ↦ subst (IsNewest new) (sym p.1) last_z
    | inr p ↦ subst (IsNewest new) (sym p.1) (last_new k n p.0)
  ]

  back_held : (i k g q y y' : ℕ) → IsNewest old k → ((k ≡ x) × (i ≡ z)) ⊎ ((k ≢ x) × (i ≡ k)) → old.holds k g t ≡ Target q → ((q ≡ x) × (y' ≡ z)) ⊎ ((q ≢ x) × (newest old q ≡ y) × (y' ≡ y))
      → (r : ℕ) × (new.holds i g t ≡ Target r) × (newest new r ≡ y')
  back_held i k g q y y' n w e goes = elim w [
    | inl p ↦
        let is : new.holds i g t ≡ redirected old x z (Target q) = ap (λ i. new.holds i g t) p.1 ∙ d.holds_z g t ∙ ap (λ k. redirected old x z (old.holds k g t)) (sym p.0) ∙ ap (redirected old x z) e in
        elim goes [
          | inl r ↦ (z, is ∙ ap (λ q. redirected old x z (Target q)) r.0 ∙ redirected-x old x z, newest_z ∙ sym r.1)
          | inr r ↦ (newest old q, is ∙ redirected-other old x z q r.0, own (newest old q) (newest_held k g q n e r.0) ∙ r.1 ∙ sym r.2)
        ]
    | inr p ↦
        let is : new.holds i g t ≡ Target q = ap (λ i. new.holds i g t) p.1 ∙ d.holds k g t n.there ∙ e in
        elim goes [
          | inl r ↦ (q, is, ap (newest new) r.0 ∙ newest_x ∙ sym r.1)
          | inr r ↦ (q, is, newest_other q (l.newest k g q n e).0 r.0 ∙ r.1 ∙ sym r.2)
        ]
  ]

  -- where the entry of a newest node came from
  pub record Entered (y s i g : ℕ) : Type 0 where
    pub node : ℕ
    pub last : IsNewest old node
    pub from : ℕ
    pub was : old.entry node s ≡ Some (from, g)
    pub whose : ((from ≡ x) × (i ≡ z)) ⊎ ((from ≢ x) × (i ≡ from))
    pub copy : ((node ≡ x) × (y ≡ z)) ⊎ ((node ≢ x) × (y ≡ node))

  entered : (y s i g : ℕ) → IsNewest new y → new.entry y s ≡ Some (i, g) → Entered y s i g
  entered y s i g n e = elim (node_cases y n.there) [
    | inl p ↦ let w = moved-some x z i g (old.entry x s) (sym (d.entry_z s) ∙ ap (λ y. new.entry y s) (sym p) ∙ e) in
        record { node = x; last = d.newest; from = w.0; was = w.1; whose = w.2; copy = inl (refl, p) }
    | inr p ↦ let b = last_old y p n in let w = moved-some x z i g (old.entry y s) (sym (d.entry y s p b.1) ∙ e) in
        record { node = y; last = b.0; from = w.0; was = w.1; whose = w.2; copy = inr (b.1, refl) }
  ]

  copied_matched : AreMatched shape t new
  copied_matched = record {
    found = λ i g y n e.
        let h = held_now i g y n e in
        let w = l.matched.found h.slot_of g h.was h.last h.held in
        let limit : (type_at shape (new.ty y)).limit ≡ (type_at shape (old.ty h.was)).limit = ap (λ (v : TypeNo). (type_at shape v).limit) h.type in
        let there : new.entry (newest new y) w.0 ≡ moved x z (old.entry (newest old h.was) w.0) = elim h.goes [
          | inl r ↦ ap (λ y. new.entry y w.0) r.1 ∙ d.entry_z w.0 ∙ ap (λ q. moved x z (old.entry q w.0)) (sym (ap (newest old) r.0 ∙ ap (λ j. onward j x) d.newest.last))
          | inr r ↦ let v = l.newest h.slot_of g h.was h.last h.held in
              ap (λ y. new.entry y w.0) r.1 ∙ d.entry (newest old h.was) w.0 v.1.there (λ p. r.0 (onto_x h.slot_of g h.was h.last h.held p))
        ] in
        (w.0, omega (arith, w.1, limit), there ∙ entry_of i h.slot_of g (old.entry (newest old h.was) w.0) h.whose w.2);
    back = λ y s i g n e.
        let h = entered y s i g n e in
        let w = l.matched.back h.node s h.from g h.last h.was in
        let goes : ((w.1.0 ≡ x) × (y ≡ z)) ⊎ ((w.1.0 ≢ x) × (newest old w.1.0 ≡ y) × (y ≡ y)) = elim h.copy [
          | inl p ↦ inl (onto_x h.from g w.1.0 w.0 w.1.1 (w.1.2 ∙ p.0), p.1)
          | inr p ↦ inr (λ q. p.0 (sym w.1.2 ∙ ap (newest old) q ∙ ap (λ j. onward j x) d.newest.last), w.1.2 ∙ sym p.1, refl)
        ] in
        (back_last i h.from w.0 h.whose, back_held i h.from g w.1.0 y y w.0 h.whose w.1.1 goes);
    one = λ y s u i g n a b.
        let h = entered y s i g n a in
        let k = entered y u i g n b in
        let w = l.matched.back h.node s h.from g h.last h.was in
        let v = l.matched.back k.node u k.from g k.last k.was in
        let from : h.from ≡ k.from = elim h.whose [
          | inl p ↦ elim k.whose [ inl q ↦ p.0 ∙ sym q.0 | inr q ↦ absurd (apart_z k.from v.0.there (sym q.1 ∙ p.1)) ]
          | inr p ↦ elim k.whose [ inl q ↦ absurd (apart_z h.from w.0.there (sym p.1 ∙ q.1)) | inr q ↦ sym p.1 ∙ q.1 ]
        ] in
        let node : h.node ≡ k.node = elim h.copy [
          | inl p ↦ elim k.copy [ inl q ↦ p.0 ∙ sym q.0 | inr q ↦ absurd (apart_z k.node k.last.there (sym q.1 ∙ p.1)) ]
          | inr p ↦ elim k.copy [ inl q ↦ absurd (apart_z h.node h.last.there (sym p.1 ∙ q.1)) | inr q ↦ sym p.1 ∙ q.1 ]
        ] in
        l.matched.one h.node s u h.from g h.last h.was (ap (λ m. old.entry m u) node ∙ k.was ∙ ap (λ m. Some (m, g)) (sym from));
  }

  copied_line : IsLine shape t new
  copied_line = record {
    chained = copied_chained;
    known = λ i m. let o = origin i m in subst (λ (u : TypeNo). u.0 < length shape) (sym o.ty) (l.known o.from o.there);
    first = λ i m. elim (node_cases i m) [
      | inl p ↦ let f : new.first i ≡ t = ap new.first p ∙ d.first_z in omega arith
      | inr p ↦ omega (arith, l.first i p, d.first i p)
    ];
    flat = λ i g n m b. elim (node_cases i m) [
      | inl p ↦ ap (λ i. new.holds i g n) p ∙ d.holds_z g n ∙ sym (d.holds_z g t) ∙ ap (λ i. new.holds i g t) (sym p)
      | inr p ↦ d.holds i g n p ∙ l.flat i g n p b ∙ sym (d.holds i g t p)
    ];
    kinds = λ i g n b h. elim (node_cases i h.there) [
      | inl p ↦
          let held : new.holds i g n ≡ redirected old x z (old.holds x g t) = ap (λ i. new.holds i g n) p ∙ d.holds_z g n in
          subst (HasKind (type_at shape (new.ty i)) new.ty g) (sym held) (subst (λ (u : TypeNo). HasKind (type_at shape u) new.ty g (redirected old x z (old.holds x g t))) (sym (ap new.ty p ∙ d.ty_z)) (copy_kind g (old.holds x g t) (λ q e. held_there shape t old x g t q l (omega arith) x_covers e) (l.kinds x g t (omega arith) x_covers)))
      | inr p ↦
          let c = covers_old i n p h in
          subst (HasKind (type_at shape (new.ty i)) new.ty g) (sym (d.holds i g n p)) (kind-types (type_at shape (old.ty i)) (type_at shape (new.ty i)) old.ty new.ty g (old.holds i g n) (ap (type_at shape) (d.ty i p)) (λ y q. d.ty y (held_there shape t old i g n y l b c q)) (l.kinds i g n b c))
    ];
    segments = λ i g n y early h e. elim (node_cases i h.there) [
      | inl p ↦ absurd (let a = z_late i n p h in omega arith)
      | inr p ↦ covers_new y n (l.segments i g n y early (covers_old i n p h) (sym (d.holds i g n p) ∙ e)) (λ q. early)
    ];
    newest = λ i g y n e. let h = held_now i g y n e in (h.there, held_newest i g y h, h.fresh);
    lives = λ i g n y b h e. elim (node_cases i h.there) [
      | inl p ↦
          let n' : IsNewest new i = subst (IsNewest new) (sym p) last_z in
          let k = held_now i g y n' (ap (λ i. new.holds i g t) p ∙ d.holds_z g t ∙ sym (d.holds_z g n) ∙ ap (λ i. new.holds i g n) (sym p) ∙ e) in
          let v = l.lives k.slot_of g t k.was (omega arith) (last_covers shape t old k.slot_of l k.last) k.held in
          (elim k.whose [ inl w ↦ ap new.made p ∙ d.made_z ∙ ap old.made (sym w.0) ∙ v.0 | inr w ↦ absurd (apart_z k.slot_of k.last.there (sym w.1 ∙ p)) ], k.made ∙ v.1)
      | inr p ↦
          let c = covers_old i n p h in
          let e' : old.holds i g n ≡ Target y = sym (d.holds i g n p) ∙ e in
          let v = l.lives i g n y b c e' in
          (d.made i p ∙ v.0, d.made y (held_there shape t old i g n y l b c e') ∙ v.1)
    ];
    matched = copied_matched;
    root = let r = l.root in (up 0 r.0, d.home 0 r.0 ∙ r.1, d.first 0 r.0 ∙ r.2, d.name 0 r.0 ∙ r.3, d.ty 0 r.0 ∙ r.4, d.made 0 r.0 ∙ r.5);
    one_root = λ i m a b. let o = origin i m in o.home ∙ l.one_root o.from o.there (sym o.made ∙ a) (sym o.ty ∙ b);
  }
    where
      copy_kind : (g : ℕ) (c : Content) → ((q : ℕ) → c ≡ Target q → q < z) → HasKind (type_at shape (old.ty x)) old.ty g c → HasKind (type_at shape (old.ty x)) new.ty g (redirected old x z c)
      copy_kind g (Number n) h k = k
      copy_kind g Null h k = k
      copy_kind g (TargetOf q) h k = ⊎_elim
          (λ (p : q.0 ≡ x). subst (HasKind (type_at shape (old.ty x)) new.ty g) (sym (ap (λ k. redirected old x z (Target k)) p ∙ redirected-x old x z)) (k ∙ ap (λ (v : TypeNo). Some (Pointer v)) (ap old.ty p ∙ sym d.ty_z)))
          (λ (p : q.0 ≡ x → ⊥). let v = onward_same old q.0 l.chained (h q.0 refl) in
          subst (HasKind (type_at shape (old.ty x)) new.ty g) (sym (redirected-other old x z q.0 p)) (k ∙ ap (λ (v : TypeNo). Some (Pointer v)) (sym (d.ty (newest old q.0) v.0 ∙ (l.chained.same (newest old q.0) q.0 v.0 (h q.0 refl) v.1).1))))
          (cases_eq q.0 x)

  -- ---- the load

  module _ (full : most (type_at shape (old.ty x)) ≤ old.stamped x) where
    potential_falls : potential new + most (type_at shape (old.ty x)) ≤ potential old
    potential_falls =
        let count : potential new ≡ sum_below z (λ i. if_newest (new.later i) (new.stamped i)) + if_newest (new.later z) (new.stamped z) = ap (λ n. sum_below n (λ i. if_newest (new.later i) (new.stamped i))) d.count in
        let at_z : if_newest (new.later z) (new.stamped z) ≡ 0 = ap (λ j. if_newest j (new.stamped z)) d.later_z ∙ d.stamped_z in
        let at_x : if_newest (new.later x) (new.stamped x) ≡ 0 = ap (λ j. if_newest j (new.stamped x)) d.later_x in
        let was_x : if_newest (old.later x) (old.stamped x) ≡ old.stamped x = ap (λ j. if_newest j (old.stamped x)) d.newest.last in
        let falls = sum_below-falls z (λ i. if_newest (new.later i) (new.stamped i)) (λ i. if_newest (old.later i) (old.stamped i)) x (old.stamped x) xin (omega (arith, at_x, was_x))
        (λ i m ne. let a : if_newest (new.later i) (new.stamped i) ≡ if_newest (old.later i) (old.stamped i) = ap (λ j. if_newest j (new.stamped i)) (d.later i m ne) ∙ ap (if_newest (old.later i)) (d.stamped i m) in omega (arith, a)) in
        omega (arith, count, at_z, falls, full)

    -- an entry of another node is as stale as it was
    each_entry : (y s : ℕ) → IsNewest old y → y ≢ x → if_stale new t y (new.entry y s) ≤ if_stale old t y (old.entry y s)
    each_entry y s n ne = elim (old.entry y s) as (λ (j : Option (ℕ × ℕ)). old.entry y s ≡ j → if_stale new t y (new.entry y s) ≤ if_stale old t y j) [
      | None ↦ λ h. let a : if_stale new t y (new.entry y s) ≡ 0 = ap (if_stale new t y) (d.entry y s n.there ne ∙ ap (moved x z) h) in omega (arith, a)
      | Some j ↦ λ h.
          let w = l.matched.back y s j.0 j.1 n h in
          let a : if_stale new t y (new.entry y s) ≡ if_stale new t y (moved x z (Some j)) = ap (if_stale new t y) (d.entry y s n.there ne ∙ ap (moved x z) h) in
          ⊎_elim
          (λ (p : j.0 ≡ x).
          let away : w.1.0 ≢ x = λ q. ne (sym w.1.2 ∙ ap (newest old) q ∙ ap (λ j. onward j x) d.newest.last) in
          let held : new.holds z j.1 t ≡ Target y = d.holds_z j.1 t ∙ ap (λ k. redirected old x z (old.holds k j.1 t)) (sym p) ∙ ap (redirected old x z) w.1.1 ∙ redirected-other old x z w.1.0 away ∙ ap Target w.1.2 in
          let b : if_stale new t y (moved x z (Some j)) ≡ 0 = ap (λ k. if_stale new t y (moved x z (Some (k, j.1)))) p ∙ ap (if_stale new t y) (moved-x x z j.1) ∙ ap (if_other y) held ∙ ap (λ b. cond b 0 1) (eq-eqb y y refl) in
          omega (arith, a, b))
          (λ (p : j.0 ≡ x → ⊥).
          let b : if_stale new t y (moved x z (Some j)) ≡ if_stale old t y (Some j) = ap (if_stale new t y) (moved-other x z j.0 j.1 p) ∙ ap (if_other y) (d.holds j.0 j.1 t w.0.there) in
          omega (arith, a, b))
          (cases_eq j.0 x)
    ] refl

    each_node : (y : ℕ) → y < z → if_newest (new.later y) (stale_at shape new t y) ≤ if_newest (old.later y) (stale_at shape old t y)
    each_node y m = ⊎_elim
        (λ (p : y ≡ x). let a : if_newest (new.later y) (stale_at shape new t y) ≡ 0 = ap (λ j. if_newest j (stale_at shape new t y)) (ap new.later p ∙ d.later_x) in omega (arith, a))
        (λ (p : y ≡ x → ⊥). elim (old.later y) as (λ (j : Option ℕ). old.later y ≡ j → if_newest (new.later y) (stale_at shape new t y) ≤ if_newest j (stale_at shape old t y)) [
          | None ↦ λ e.
              let a : if_newest (new.later y) (stale_at shape new t y) ≡ stale_at shape new t y = ap (λ j. if_newest j (stale_at shape new t y)) (d.later y m p ∙ e) in
              let same : stale_at shape new t y ≡ sum_below (type_at shape (old.ty y)).limit (λ s. if_stale new t y (new.entry y s)) = ap (λ (v : TypeNo). sum_below (type_at shape v).limit (λ s. if_stale new t y (new.entry y s))) (d.ty y m) in
              let less = sum_below-le (type_at shape (old.ty y)).limit (λ s. if_stale new t y (new.entry y s)) (λ s. if_stale old t y (old.entry y s)) (λ s b. each_entry y s (record { there = m; last = e }) p) in
              omega (arith, a, same, less)
          | Some j ↦ λ e. let a : if_newest (new.later y) (stale_at shape new t y) ≡ 0 = ap (λ j. if_newest j (stale_at shape new t y)) (d.later y m p ∙ e) in omega (arith, a)
        ] refl)
        (cases_eq y x)

    stale_rises : stale shape new t ≤ stale shape old t + (type_at shape (old.ty x)).limit
    stale_rises =
        let count : stale shape new t ≡ sum_below z (λ y. if_newest (new.later y) (stale_at shape new t y)) + if_newest (new.later z) (stale_at shape new t z) = ap (λ n. sum_below n (λ y. if_newest (new.later y) (stale_at shape new t y))) d.count in
        let less = sum_below-le z (λ y. if_newest (new.later y) (stale_at shape new t y)) (λ y. if_newest (old.later y) (stale_at shape old t y)) each_node in
        let at_z : if_newest (new.later z) (stale_at shape new t z) ≡ stale_at shape new t z = ap (λ j. if_newest j (stale_at shape new t z)) d.later_z in
        let same : stale_at shape new t z ≡ sum_below (type_at shape (old.ty x)).limit (λ s. if_stale new t z (new.entry z s)) = ap (λ (v : TypeNo). sum_below (type_at shape v).limit (λ s. if_stale new t z (new.entry z s))) d.ty_z in
        let ones = sum_below-ones (type_at shape (old.ty x)).limit (λ s. if_stale new t z (new.entry z s)) (λ s b. if_stale-le new t z (new.entry z s)) in
        omega (arith, count, less, at_z, same, ones)

    load_falls : load shape new t ≤ load shape old t
    load_falls = omega (arith, d.count, potential_falls, stale_rises)

pub copy_law : CopyLaw
copy_law shape old new x t l d full =
    (copied_line shape old new x t l d, copied_stay shape old new x t l d, copied_here shape old new x t l d, load_falls shape old new x t l d full, potential_falls shape old new x t l d full, stale_rises shape old new x t l d full)

-- ---- no pointer is stale

module _ (shape : List TypeShape) (t : ℕ) (w : Line) (l : IsLine shape t w) (none : stale shape w t ≡ 0) where
  quiet : (i g y : ℕ) → IsNewest w i → w.holds i g t ≡ Target y → w.later y ≡ None
  quiet i g y n e = elim (w.later y) as (λ (j : Option ℕ). w.later y ≡ j → j ≡ None) [
    | None ↦ λ h. refl
    | Some z ↦ λ h. absurd (
        let v = l.newest i g y n e in
        let k = l.chained.next y z v.0 h in
        let is : newest w y ≡ z = ap (λ j. onward j y) h in
        let zlast : IsNewest w z = subst (IsNewest w) is v.1 in
        let slot = l.matched.found i g y n e in
        let limit : (type_at shape (w.ty z)).limit ≡ (type_at shape (w.ty y)).limit = ap (λ (v : TypeNo). (type_at shape v).limit) (l.chained.same z y k.0 v.0 k.1).1 in
        let in_z : if_newest (w.later z) (stale_at shape w t z) ≡ 0 = sum_below-none w.count (λ y. if_newest (w.later y) (stale_at shape w t y)) none z k.0 in
        let at_z : stale_at shape w t z ≡ 0 = sym (ap (λ j. if_newest j (stale_at shape w t z)) zlast.last) ∙ in_z in
        let at_s : if_stale w t z (w.entry z slot.0) ≡ 0 = sum_below-none (type_at shape (w.ty z)).limit (λ s. if_stale w t z (w.entry z s)) at_z slot.0 (omega (arith, slot.1, limit)) in
        let one : if_stale w t z (w.entry z slot.0) ≡ 1 = ap (if_stale w t z) (ap (λ q. w.entry q slot.0) (sym is) ∙ slot.2) ∙ ap (if_other z) e ∙ ap (λ b. cond b 0 1) (false_from_ne_true (eqb y z) (λ q. let same : y ≡ z = eqb-true y z q in let f : w.first y ≡ w.first z = ap w.first same in omega (arith, k.2, f))) in
        omega (arith, at_s, one))
  ] refl

  inside : (i g n y : ℕ) → n ≤ t → Covers w i n → w.holds i g n ≡ Target y → Covers w y n
  inside i g n y b h e = elim (cases_lt n t) [
    | inl early ↦ l.segments i g n y early h e
    | inr late ↦
        let same : n ≡ t = omega arith in
        let last = covers_last shape t w i l (subst (Covers w i) same h) in
        let e' : w.holds i g t ≡ Target y = ap (w.holds i g) (sym same) ∙ e in
        subst (Covers w y) (sym same) (last_covers shape t w y l (record { there = (l.newest i g y last e').0; last = quiet i g y last e' }))
  ]

pub quiet_law : QuietLaw
quiet_law shape t w l none = (record { none = quiet shape t w l none }, record { inside = inside shape t w l none })

pub walk_law : WalkLaw
walk_law shape t w i j n l h e b =
    let v = l.chained.next i j h.there e in
    (record { there = v.0; made = (l.chained.same j i v.0 h.there v.1).2 ∙ h.made; begun = b }, v.1, v.2)
