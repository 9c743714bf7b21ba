-- Changes of what nodes hold.
use Rattle.std.proofs.Common.{◌≡◌, ℕ, ◌+◌, ◌-◌, ◌<◌, ◌≤◌, true, false, cond, Option, Some, None, List, length, ℤ, refl, sym, ap, ◌∙◌, subst, ◌⊎◌, inl, inr, ⊎_elim, arith}
use Rattle.std.proofs.lemmas.Bool.{cases_eq, cases_lt}
use Rattle.std.proofs.Math.ListN.{set}
use Rattle.std.specs.Prelude.{slice_get, nat_lt}
use Rattle.std.specs.Option.{option_map}
use Rattle.std.specs.FinMap.{insert}
use Rattle.std.proofs.lemmas.Option.{slice_get_within}
use borrow.Author.Tests.{ltb-false}
use Rattle.pst_base.proofs.Below.{length-listed, listed-same, listed-set}
use Rattle.pst_base.specs.declared.names.TypeNo.{TypeNo}
use Rattle.pst_base.specs.declared.names.Name.{Name}
use Rattle.pst_base.specs.declared.names.Kind.TheVariants.{Int, Pointer}
use Rattle.pst_base.specs.declared.shape.TypeShape.{TypeShape}
use Rattle.pst_base.specs.Shape.{type_at, element_count, field_kind}
use Rattle.pst_base.specs.Heap.{Rec, with_value, with_pointer, value_set, pointer_set}
use Rattle.pst_base.proofs.Degrees.{with_value-at, with_pointer-at}
use Rattle.pst_line_nodes.specs.declared.content.Content.{Content}
use Rattle.pst_line_nodes.specs.declared.content.Content.TheVariants.{Number}
use Rattle.pst_line_nodes.specs.Contents.{Target}
use Rattle.pst_line_nodes.specs.Line.{Line, Covers, IsIn, IsNewest, IsLive, AreChained, IsLine, AreMatched, HasKind, is_over, ends_by, onward, newest, heap_at, record_at, record_of, denoted, number}
use Rattle.pst_line_nodes.specs.Changes.{HasSameNodes, IsSet, VersionsStay}
use Rattle.pst_line_nodes.proofs.HeapLaws.{same_heaps, same_at, put_heap, heap_has}
use Rattle.pst_line_nodes.proofs.RecordLaws.{record_of-same, denoted-names, kind-types}

pub same_field : (i g x f : ℕ) → ((i ≡ x) × (g ≡ f)) ⊎ (i ≡ x → g ≡ f → ⊥)
same_field i g x f = ⊎_elim
    (λ (p : i ≡ x). ⊎_elim (λ (q : g ≡ f). inl (p, q)) (λ (q : g ≡ f → ⊥). inr (λ a b. q b)) (cases_eq g f))
    (λ (p : i ≡ x → ⊥). inr (λ a b. p a))
    (cases_eq i x)

-- a pointer field is behind the values
pub pointer_field : (t : TypeShape) (g : ℕ) (u : TypeNo) → field_kind t g ≡ Some (Pointer u) → (t.values ≤ g) × (g < element_count t)
pointer_field t g u e = elim (nat_lt g t.values) as (λ b. nat_lt g t.values ≡ b → cond b (Some Int) (option_map Pointer (slice_get t.targets (g - t.values))) ≡ Some (Pointer u) → (t.values ≤ g) × (g < element_count t)) [
  | true ↦ λ x h. absurd (cc)
  | false ↦ λ x h. let low : t.values ≤ g = ltb-false g t.values x in
      elim (slice_get t.targets (g - t.values)) as (λ (o : Option TypeNo). slice_get t.targets (g - t.values) ≡ o → option_map Pointer o ≡ Some (Pointer u) → (t.values ≤ g) × (g < element_count t)) [
        | None ↦ λ y k. absurd (cc)
        | Some v ↦ λ y k. let w : g - t.values < length t.targets = slice_get_within t.targets (g - t.values) v y in (low, omega arith)
      ] refl h
] refl e

-- a value field holds no pointer
pub no_target : (t : TypeShape) (ty : ℕ → TypeNo) (g y : ℕ) → HasKind t ty g (Target y) → g < t.values → ⊥
no_target t ty g y k l = let p = pointer_field t g (ty y) k in omega (arith, p.0)

pub ends_by-same : (f g : ℕ → ℕ) (o : Option ℕ) (n : ℕ) → ((i : ℕ) → f i ≡ g i) → ends_by f o n ≡ ends_by g o n
ends_by-same f g None n h = refl
ends_by-same f g (Some j) n h = rw (h j) refl

module _ (shape : List TypeShape) (t : ℕ) (old new : Line) (l : IsLine shape t old) (o : HasSameNodes old new) where
  pub over : (i n : ℕ) → is_over new i n ≡ is_over old i n
  over i n = ap (λ j. ends_by new.first j n) (o.later i) ∙ ends_by-same new.first old.first (old.later i) n o.first

  pub covers_new : (i n : ℕ) → Covers old i n → Covers new i n
  covers_new i n h = record { there = omega (arith, o.count, h.there); begun = omega (arith, o.first i, h.begun); still = over i n ∙ h.still }

  pub covers_old : (i n : ℕ) → Covers new i n → Covers old i n
  covers_old i n h = record { there = omega (arith, o.count, h.there); begun = omega (arith, o.first i, h.begun); still = sym (over i n) ∙ h.still }

  pub in_new : (i n : ℕ) → IsIn old i n → IsIn new i n
  in_new i n h = record { covers = covers_new i n h.covers; made = o.made i ∙ h.made }

  pub in_old : (i n : ℕ) → IsIn new i n → IsIn old i n
  in_old i n h = record { covers = covers_old i n h.covers; made = sym (o.made i) ∙ h.made }

  pub last_new : (i : ℕ) → IsNewest old i → IsNewest new i
  last_new i h = record { there = omega (arith, o.count, h.there); last = o.later i ∙ h.last }

  pub last_old : (i : ℕ) → IsNewest new i → IsNewest old i
  last_old i h = record { there = omega (arith, o.count, h.there); last = sym (o.later i) ∙ h.last }

  pub newest_same : (y : ℕ) → newest new y ≡ newest old y
  newest_same y = ap (λ j. onward j y) (o.later y)

  was : (i : ℕ) → i < new.count → i < old.count
  was i h = omega (arith, o.count)

  pub same_chained : AreChained new
  same_chained = record {
    next = λ i j h s.
        let v = l.chained.next i j (was i h) (sym (o.later i) ∙ s) in
        (omega (arith, v.0, o.count), o.home j ∙ v.1 ∙ sym (o.home i), omega (arith, v.2, o.first i, o.first j));
    apart = λ i j h g ne n. elim (l.chained.apart i j (was i h) (was j g) ne (sym (o.home i) ∙ n ∙ o.home j)) [
      | inl v ↦ inl (ap (is_over new i) (o.first j) ∙ over i (old.first j) ∙ v)
      | inr v ↦ inr (ap (is_over new j) (o.first i) ∙ over j (old.first i) ∙ v)
    ];
    same = λ i j h g n. let v = l.chained.same i j (was i h) (was j g) (sym (o.home i) ∙ n ∙ o.home j) in
        (o.name i ∙ v.0 ∙ sym (o.name j), o.ty i ∙ v.1 ∙ sym (o.ty j), o.made i ∙ v.2 ∙ sym (o.made j));
    named = λ i j h g a b n. o.home i ∙ l.chained.named i j (was i h) (was j g) (sym (o.made i) ∙ a) (sym (o.made j) ∙ b) (sym (o.name i) ∙ n ∙ o.name j) ∙ sym (o.home j);
  }

  pub same_live : (i n : ℕ) → IsLive old i n → IsLive new i n × (new.name i ≡ old.name i)
  same_live i n h = (record { there = omega (arith, o.count, h.there); made = o.made i ∙ h.made; begun = omega (arith, o.first i, h.begun) }, o.name i)

  module _ (x f : ℕ) (c : Content) (k : ℕ) (s : IsSet old new x f t c k) where
    pub off : (i g n : ℕ) → (i ≡ x → g ≡ f → (old.first x ≤ n) × (n < t)) → new.holds i g n ≡ old.holds i g n
    off i g n h = elim (same_field i g x f) [
      | inl p ↦ let b = h p.0 p.1 in ap (λ i. new.holds i g n) p.0 ∙ ap (λ g. new.holds x g n) p.1 ∙ s.early n b.0 b.1 ∙ ap (λ g. old.holds x g n) (sym p.1) ∙ ap (λ i. old.holds i g n) (sym p.0)
      | inr ne ↦ s.others i g n ne
    ]

    pub on : (i g n : ℕ) → i ≡ x → g ≡ f → t ≤ n → new.holds i g n ≡ c
    on i g n p q late = ap (λ i. new.holds i g n) p ∙ ap (λ g. new.holds x g n) q ∙ s.late n late

    other_record : (i n : ℕ) → (i ≡ x → (old.first x ≤ n) × (n < t)) → record_at shape new i n ≡ record_at shape old i n
    other_record i n h = record_of-same shape (old.ty i) (new.ty i) old.name new.name (λ g. old.holds i g n) (λ g. new.holds i g n) (o.ty i)
        (λ g m. ap number (off i g n (λ p q. h p)))
        (λ g m. ap (denoted new.name) (off i g n (λ p q. h p)) ∙ denoted-names old.name new.name (old.holds i g n) (λ y q. o.name y))

    pub elsewhere : (n : ℕ) → n < t → heap_at shape new n ≡ heap_at shape old n
    elsewhere n early = same_heaps shape old new n n l.chained same_chained
        (λ i h. (i, in_new i n h, o.name i, other_record i n (λ p. (let f : old.first i ≡ old.first x = ap old.first p in omega (arith, h.covers.begun, f), early))))
        (λ j h. (j, in_old j n h, sym (o.name j)))

    pub stay : VersionsStay shape t old new
    stay = record { heaps = elsewhere; live = λ i n m h. same_live i n h }

    pub here : IsIn old x t → heap_at shape new t ≡ insert (heap_at shape old t) (old.name x) (record_at shape new x t)
    here h =
        put_heap shape new t x (heap_at shape old t) same_chained (in_new x t h)
        (λ q ne. same_at shape old new t t q l.chained same_chained
        (λ i m is. (i, in_new i t m, o.name i ∙ is, other_record i t (λ p. absurd (ne (sym is ∙ sym (o.name i) ∙ ap new.name p)))))
        (λ j m is. (j, in_old j t m, sym (o.name j) ∙ is)))
        ∙ ap (λ q. insert (heap_at shape old t) q (record_at shape new x t)) (o.name x)

    -- a number is written
    pub number_here : (v : ℤ) → IsIn old x t → f < (type_at shape (old.ty x)).values → c ≡ Number v
        → heap_at shape new t ≡ with_value (heap_at shape old t) (old.name x) f v
    number_here v h m is =
        let rec : record_at shape new x t ≡ value_set (record_at shape old x t) f v =
        ap (λ (u : TypeNo). record_of shape u new.name (λ g. new.holds x g t)) (o.ty x) ∙
        (λ i. record {
          ty = old.ty x;
          values = listed-set (type_at shape (old.ty x)).values (λ g. number (old.holds x g t)) (λ g. number (new.holds x g t)) f v m (ap number (s.here ∙ is)) (λ j b ne. ap number (off x j t (λ p q. absurd (ne q)))) i;
          pointers = listed-same (length (type_at shape (old.ty x)).targets) (λ k. denoted new.name (new.holds x ((type_at shape (old.ty x)).values + k) t)) (λ k. denoted old.name (old.holds x ((type_at shape (old.ty x)).values + k) t))
              (λ k b. ap (denoted new.name) (off x ((type_at shape (old.ty x)).values + k) t (λ p q. absurd (omega (arith, q, m)))) ∙ denoted-names old.name new.name (old.holds x ((type_at shape (old.ty x)).values + k) t) (λ y q. o.name y)) i;
        }) in
        here h ∙ ap (λ (r : Rec). insert (heap_at shape old t) (old.name x) r) rec ∙ sym (with_value-at (heap_at shape old t) (old.name x) f v (record_at shape old x t) (heap_has shape old t l.chained x h))

    -- a pointer is written
    pub pointer_here : (p : Option Name) → IsIn old x t → (type_at shape (old.ty x)).values ≤ f → f < element_count (type_at shape (old.ty x)) → denoted old.name c ≡ p
        → heap_at shape new t ≡ with_pointer (heap_at shape old t) (old.name x) f p
    pointer_here p h low high den =
        let at : (type_at shape (old.ty x)).values + (f - (type_at shape (old.ty x)).values) ≡ f = omega arith in
        let len : length (record_at shape old x t).values ≡ (type_at shape (old.ty x)).values = length-listed (type_at shape (old.ty x)).values (λ g. number (old.holds x g t)) in
        let now : denoted new.name (new.holds x ((type_at shape (old.ty x)).values + (f - (type_at shape (old.ty x)).values)) t) ≡ p =
        ap (λ g. denoted new.name (new.holds x g t)) at ∙ ap (denoted new.name) s.here ∙ denoted-names old.name new.name c (λ y q. o.name y) ∙ den in
        let rec : record_at shape new x t ≡ record (record_at shape old x t) { pointers = set (record_at shape old x t).pointers (f - (type_at shape (old.ty x)).values) p } =
        ap (λ (u : TypeNo). record_of shape u new.name (λ g. new.holds x g t)) (o.ty x) ∙
        (λ i. record {
          ty = old.ty x;
          values = listed-same (type_at shape (old.ty x)).values (λ g. number (new.holds x g t)) (λ g. number (old.holds x g t)) (λ g m. ap number (off x g t (λ p q. absurd (omega (arith, q))))) i;
          pointers = listed-set (length (type_at shape (old.ty x)).targets) (λ k. denoted old.name (old.holds x ((type_at shape (old.ty x)).values + k) t)) (λ k. denoted new.name (new.holds x ((type_at shape (old.ty x)).values + k) t)) (f - (type_at shape (old.ty x)).values) p (omega arith) now
              (λ j m ne. ap (denoted new.name) (off x ((type_at shape (old.ty x)).values + j) t (λ p q. absurd (ne (omega (arith, q))))) ∙ denoted-names old.name new.name (old.holds x ((type_at shape (old.ty x)).values + j) t) (λ y q. o.name y)) i;
        }) in
        let same : record (record_at shape old x t) { pointers = set (record_at shape old x t).pointers (f - (type_at shape (old.ty x)).values) p } ≡ pointer_set (record_at shape old x t) f p =
        ap (λ (m : ℕ). record (record_at shape old x t) { pointers = set (record_at shape old x t).pointers (f - m) p }) (sym len) in
        here h ∙ ap (λ (r : Rec). insert (heap_at shape old t) (old.name x) r) (rec ∙ same) ∙ sym (with_pointer-at (heap_at shape old t) (old.name x) f p (record_at shape old x t) (heap_has shape old t l.chained x h))

    -- the same record is held
    pub nothing_here : number c ≡ number (old.holds x f t) → denoted old.name c ≡ denoted old.name (old.holds x f t) → heap_at shape new t ≡ heap_at shape old t
    nothing_here num den = same_heaps shape old new t t l.chained same_chained
        (λ i h. (
          i,
          in_new i t h,
          o.name i,
          record_of-same shape (old.ty i) (new.ty i) old.name new.name (λ g. old.holds i g t) (λ g. new.holds i g t) (o.ty i)
              (λ g m. elim (same_field i g x f) [
                | inl p ↦ ap number (on i g t p.0 p.1 (omega arith)) ∙ num ∙ ap (λ g. number (old.holds x g t)) (sym p.1) ∙ ap (λ i. number (old.holds i g t)) (sym p.0)
                | inr ne ↦ ap number (off i g t (λ p q. absurd (ne p q)))
              ])
              (λ g m. elim (same_field i g x f) [
                | inl p ↦ ap (denoted new.name) (on i g t p.0 p.1 (omega arith)) ∙ denoted-names old.name new.name c (λ y q. o.name y) ∙ den ∙ ap (λ g. denoted old.name (old.holds x g t)) (sym p.1) ∙ ap (λ i. denoted old.name (old.holds i g t)) (sym p.0)
                | inr ne ↦ ap (denoted new.name) (off i g t (λ p q. absurd (ne p q))) ∙ denoted-names old.name new.name (old.holds i g t) (λ y q. o.name y)
              ]),
        ))
        (λ j h. (j, in_old j t h, sym (o.name j)))

    -- all rules, once the new content is known to be of the right kind and its pointers are known to match
    pub line_after : HasKind (type_at shape (old.ty x)) old.ty f c → AreMatched shape t new → ((y : ℕ) → c ≡ Target y → (y < old.count) × IsNewest old (newest old y) × ((z : ℕ) → old.later y ≡ Some z → old.first z ≡ t) × (old.made x ≡ true) × (old.made y ≡ true)) → IsLine shape t new
    line_after kind matched goes = record {
      chained = same_chained;
      known = λ i h. subst (λ (u : TypeNo). u.0 < length shape) (sym (o.ty i)) (l.known i (was i h));
      first = λ i h. omega (arith, l.first i (was i h), o.first i);
      flat = λ i g n h b. elim (same_field i g x f) [
        | inl p ↦ on i g n p.0 p.1 b ∙ sym (on i g t p.0 p.1 (omega arith))
        | inr ne ↦ off i g n (λ p q. absurd (ne p q)) ∙ l.flat i g n (was i h) b ∙ sym (off i g t (λ p q. absurd (ne p q)))
      ];
      kinds = λ i g n b h. kind-types (type_at shape (old.ty i)) (type_at shape (new.ty i)) old.ty new.ty g (new.holds i g n) (ap (type_at shape) (o.ty i)) (λ y q. o.ty y) (kind_at i g n b (covers_old i n h));
      segments = λ i g n y early h q. covers_new y n (l.segments i g n y early (covers_old i n h) (sym (off i g n (λ a b. (let f : old.first i ≡ old.first x = ap old.first a in omega (arith, f, (covers_old i n h).begun), early))) ∙ q));
      newest = λ i g y h q.
          let v : (y < old.count) × IsNewest old (newest old y) × ((z : ℕ) → old.later y ≡ Some z → old.first z ≡ t) = elim (same_field i g x f) [
            | inl p ↦ let w = goes y (sym (on i g t p.0 p.1 (omega arith)) ∙ q) in (w.0, w.1, w.2)
            | inr ne ↦ l.newest i g y (last_old i h) (sym (off i g t (λ a b. absurd (ne a b))) ∙ q)
          ] in
          (omega (arith, v.0, o.count), subst (IsNewest new) (sym (newest_same y)) (last_new (newest old y) v.1), λ z e. o.first z ∙ v.2 z (sym (o.later y) ∙ e));
      lives = λ i g n y m h q.
          let v : (old.made i ≡ true) × (old.made y ≡ true) = elim (same_field i g x f) [
            | inl p ↦ elim (cases_lt n t) [
              | inl early ↦ l.lives i g n y m (covers_old i n h) (sym (off i g n (λ a b. (let f : old.first i ≡ old.first x = ap old.first a in omega (arith, f, (covers_old i n h).begun), early))) ∙ q)
              | inr late ↦ let w = goes y (sym (on i g n p.0 p.1 late) ∙ q) in (ap old.made p.0 ∙ w.3, w.4)
            ]
            | inr ne ↦ l.lives i g n y m (covers_old i n h) (sym (off i g n (λ a b. absurd (ne a b))) ∙ q)
          ] in
          (o.made i ∙ v.0, o.made y ∙ v.1);
      matched = matched;
      root = let r = l.root in (omega (arith, r.0, o.count), o.home 0 ∙ r.1, o.first 0 ∙ r.2, o.name 0 ∙ r.3, o.ty 0 ∙ r.4, o.made 0 ∙ r.5);
      one_root = λ i h m u. o.home i ∙ l.one_root i (was i h) (sym (o.made i) ∙ m) (sym (o.ty i) ∙ u);
    }
      where
        kind_at : (i g n : ℕ) → n ≤ t → Covers old i n → HasKind (type_at shape (old.ty i)) old.ty g (new.holds i g n)
        kind_at i g n b h = elim (same_field i g x f) [
          | inl p ↦ elim (cases_lt n t) [
            | inl early ↦ subst (HasKind (type_at shape (old.ty i)) old.ty g) (sym (off i g n (λ a b. (let f : old.first i ≡ old.first x = ap old.first a in omega (arith, f, h.begun), early)))) (l.kinds i g n b h)
            | inr late ↦ subst (HasKind (type_at shape (old.ty i)) old.ty g) (sym (on i g n p.0 p.1 late)) (subst (λ (i : ℕ). HasKind (type_at shape (old.ty i)) old.ty g c) (sym p.0) (subst (λ (g : ℕ). HasKind (type_at shape (old.ty x)) old.ty g c) (sym p.1) kind))
          ]
          | inr ne ↦ subst (HasKind (type_at shape (old.ty i)) old.ty g) (sym (off i g n (λ a b. absurd (ne a b)))) (l.kinds i g n b h)
        ]
