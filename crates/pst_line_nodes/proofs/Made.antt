-- A new record.
use Rattle.std.proofs.Common.{◌≡◌, ◌≢◌, ℕ, zero, suc, ◌+◌, ◌<◌, ◌≤◌, true, false, cond, Option, Some, None, List, ◌∷◌, length, pos, refl, sym, ap, ◌∙◌, subst, ◌⊎◌, inl, inr, ⊎_elim, arith, ltb}
use Rattle.std.proofs.lemmas.Bool.{cases_lt, lt-ltb, false_from_ne_true}
use borrow.Author.Tests.{ltb-true, ltb-false}
use Rattle.std.specs.Prelude.{replicate}
use Rattle.std.specs.FinMap.{insert}
use Rattle.pst_base.proofs.Below.{sum_below-same}
use Rattle.pst_base.specs.Below.{listed, sum_below}
use Rattle.pst_base.specs.declared.names.TypeNo.{TypeNo}
use Rattle.pst_base.specs.declared.names.Name.{Name}
use Rattle.pst_base.specs.declared.shape.TypeShape.{TypeShape}
use Rattle.pst_base.specs.Shape.{type_at, root_type}
use Rattle.pst_base.specs.Heap.{Rec, with_record, new_record}
use Rattle.pst_line_nodes.specs.declared.content.Content.TheVariants.{Number, Null}
use Rattle.pst_line_nodes.specs.Contents.{Target}
use Rattle.pst_line_nodes.specs.Line.{Line, Covers, IsIn, IsNewest, AreChained, IsLine, AreMatched, HasKind, is_over, ends_by, newest, onward, if_newest, if_other, if_stale, stale_at, stale, potential, load, denoted, number, heap_at, record_at, record_of}
use Rattle.pst_line_nodes.specs.Changes.{IsMade, default_content, VersionsStay, MadeLaw}
use Rattle.pst_line_nodes.proofs.HeapLaws.{same_heaps, same_at, put_heap}
use Rattle.pst_line_nodes.proofs.RecordLaws.{record_of-same, denoted-names, kind-types}
use Rattle.pst_line_nodes.proofs.Copy.{held_there}

pub listed-replicate : {A : Type 0} (n : ℕ) (f : ℕ → A) (v : A) → ((k : ℕ) → k < n → f k ≡ v) → listed n f ≡ replicate n v
listed-replicate zero f v h = refl
listed-replicate (suc n) f v h = λ i. h 0 (omega arith) i ∷ listed-replicate n (λ k. f (suc k)) v (λ k l. h (suc k) (omega arith)) i

pub default_value : (t : TypeShape) (g : ℕ) → g < t.values → default_content t g ≡ Number (pos 0)
default_value t g l = rw (lt-ltb g t.values l) refl

pub default_pointer : (t : TypeShape) (g : ℕ) → t.values ≤ g → default_content t g ≡ Null
default_pointer t g l = ap (λ b. cond b (Number (pos 0)) Null) (false_from_ne_true (ltb g t.values) (λ e. let m = ltb-true g t.values e in omega arith))

pub default_kind : (t : TypeShape) (ty : ℕ → TypeNo) (g : ℕ) → HasKind t ty g (default_content t g)
default_kind t ty g = elim (ltb g t.values) as (λ b. ltb g t.values ≡ b → HasKind t ty g (cond b (Number (pos 0)) Null)) [
  | true ↦ λ e. ltb-true g t.values e
  | false ↦ λ e. ltb-false g t.values e
] refl

pub default_plain : (t : TypeShape) (g y : ℕ) → default_content t g ≢ Target y
default_plain t g y e = elim (ltb g t.values) as (λ b. cond b (Number (pos 0)) Null ≡ Target y → ⊥) [ true ↦ λ h. cc | false ↦ λ h. cc ] e

ends_by-some : (f g : ℕ → ℕ) (o : Option ℕ) (n : ℕ) → ((j : ℕ) → o ≡ Some j → f j ≡ g j) → ends_by f o n ≡ ends_by g o n
ends_by-some f g None n h = refl
ends_by-some f g (Some j) n h = rw (h j refl) refl

module _ (shape : List TypeShape) (old new : Line) (q : Name) (u : TypeNo) (t : ℕ) (l : IsLine shape t old) (above : 0 < u.0) (below : u.0 < length shape) (fresh : (i : ℕ) → i < old.count → old.made i ≡ true → old.name i ≢ q)
    (homes : (i : ℕ) → i < old.count → old.home i < old.count) (d : IsMade shape old new q u t) where
  abbrev z : ℕ
  z = old.count

  node_cases : (i : ℕ) → i < new.count → (i ≡ z) ⊎ (i < z)
  node_cases i m = ⊎_elim (λ (p : i < old.count). inr p) (λ (p : old.count ≤ i). inl (omega (arith, d.count))) (cases_lt i old.count)

  up : (i : ℕ) → i < z → i < new.count
  up i m = omega (arith, d.count)

  z_there : z < new.count
  z_there = omega (arith, d.count)

  over : (i n : ℕ) → i < z → is_over new i n ≡ is_over old i n
  over i n m = ap (λ j. ends_by new.first j n) (d.later i m) ∙ ends_by-some new.first old.first (old.later i) n (λ j e. d.first j (l.chained.next i j m e).0)

  covers_new : (i n : ℕ) → Covers old i n → Covers new i n
  covers_new i n h = record { there = up i h.there; begun = omega (arith, d.first i h.there, h.begun); still = over i n h.there ∙ h.still }

  covers_old : (i n : ℕ) → i < z → Covers new i n → Covers old i n
  covers_old i n m h = record { there = m; begun = omega (arith, d.first i m, h.begun); still = sym (over i n m) ∙ h.still }

  in_new : (i n : ℕ) → IsIn old i n → IsIn new i n
  in_new i n h = record { covers = covers_new i n h.covers; made = d.made i h.covers.there ∙ h.made }

  in_old : (i n : ℕ) → i < z → IsIn new i n → IsIn old i n
  in_old i n m h = record { covers = covers_old i n m h.covers; made = sym (d.made i m) ∙ h.made }

  z_in : IsIn new z t
  z_in = record { covers = record { there = z_there; begun = omega (arith, d.first_z); still = ap (λ j. ends_by new.first j t) d.later_z }; made = d.made_z }

  z_late : (i n : ℕ) → i ≡ z → Covers new i n → t ≤ n
  z_late i n p h = let f : new.first i ≡ t = ap new.first p ∙ d.first_z in omega (arith, h.begun)

  -- no node of another record has the new one's home
  home_apart : (i j : ℕ) → i < z → j ≡ z → new.home i ≡ new.home j → ⊥
  home_apart i j m p e = let a : old.home i ≡ old.count = sym (d.home i m) ∙ e ∙ ap new.home p ∙ d.home_z in omega (arith, homes i m, a)

  made_chained : AreChained new
  made_chained = record {
    next = λ i j m s. elim (node_cases i m) [
      | inl p ↦ absurd (let none : None ≡ Some j = sym d.later_z ∙ ap new.later (sym p) ∙ s in cc)
      | inr p ↦ let v = l.chained.next i j p (sym (d.later i p) ∙ s) in
          (up j v.0, d.home j v.0 ∙ v.1 ∙ sym (d.home i p), omega (arith, v.2, d.first i p, d.first j v.0))
    ];
    apart = λ i j m k ne e. elim (node_cases i m) [
      | inl p ↦ elim (node_cases j k) [ inl r ↦ absurd (ne (p ∙ sym r)) | inr r ↦ absurd (home_apart j i r p (sym e)) ]
      | inr p ↦ elim (node_cases j k) [
        | inl r ↦ absurd (home_apart i j p r e)
        | inr r ↦ elim (l.chained.apart i j p r ne (sym (d.home i p) ∙ e ∙ d.home j r)) [
          | inl o ↦ inl (ap (is_over new i) (d.first j r) ∙ over i (old.first j) p ∙ o)
          | inr o ↦ inr (ap (is_over new j) (d.first i p) ∙ over j (old.first i) r ∙ o)
        ]
      ]
    ];
    same = λ i j m k e. elim (node_cases i m) [
      | inl p ↦ elim (node_cases j k) [ inl r ↦ (ap new.name (p ∙ sym r), ap new.ty (p ∙ sym r), ap new.made (p ∙ sym r)) | inr r ↦ absurd (home_apart j i r p (sym e)) ]
      | inr p ↦ elim (node_cases j k) [
        | inl r ↦ absurd (home_apart i j p r e)
        | inr r ↦ let v = l.chained.same i j p r (sym (d.home i p) ∙ e ∙ d.home j r) in (d.name i p ∙ v.0 ∙ sym (d.name j r), d.ty i p ∙ v.1 ∙ sym (d.ty j r), d.made i p ∙ v.2 ∙ sym (d.made j r))
      ]
    ];
    named = λ i j m k a b e. elim (node_cases i m) [
      | inl p ↦ elim (node_cases j k) [ inl r ↦ ap new.home (p ∙ sym r) | inr r ↦ absurd (fresh j r (sym (d.made j r) ∙ b) (sym (d.name j r) ∙ sym e ∙ ap new.name p ∙ d.name_z)) ]
      | inr p ↦ elim (node_cases j k) [
        | inl r ↦ absurd (fresh i p (sym (d.made i p) ∙ a) (sym (d.name i p) ∙ e ∙ ap new.name r ∙ d.name_z))
        | inr r ↦ d.home i p ∙ l.chained.named i j p r (sym (d.made i p) ∙ a) (sym (d.made j r) ∙ b) (sym (d.name i p) ∙ e ∙ d.name j r) ∙ sym (d.home j r)
      ]
    ];
  }

  -- ---- newest nodes

  last_new : (i : ℕ) → IsNewest old i → IsNewest new i
  last_new i n = record { there = up i n.there; last = d.later i n.there ∙ n.last }

  last_old : (i : ℕ) → i < z → IsNewest new i → IsNewest old i
  last_old i m n = record { there = m; last = sym (d.later i m) ∙ n.last }

  newest_same : (y : ℕ) → y < z → newest new y ≡ newest old y
  newest_same y m = ap (λ j. onward j y) (d.later y m)

  no_pointer : (i g n y : ℕ) → i ≡ z → new.holds i g n ≢ Target y
  no_pointer i g n y p e = default_plain (type_at shape u) g y (sym (d.holds_z g n) ∙ ap (λ i. new.holds i g n) (sym p) ∙ e)

  no_entry : (y s i g : ℕ) → y ≡ z → new.entry y s ≢ Some (i, g)
  no_entry y s i g p e = let none : new.entry y s ≡ None = ap (λ y. new.entry y s) p ∙ d.entry_z s in cc

  made_matched : AreMatched shape t new
  made_matched = record {
    found = λ i g y n e. elim (node_cases i n.there) [
      | inl p ↦ absurd (no_pointer i g t y p e)
      | inr p ↦
          let e' : old.holds i g t ≡ Target y = sym (d.holds i g t p) ∙ e in
          let b = last_old i p n in
          let v = l.newest i g y b e' in
          let w = l.matched.found i g y b e' in
          let limit : (type_at shape (new.ty y)).limit ≡ (type_at shape (old.ty y)).limit = ap (λ (v : TypeNo). (type_at shape v).limit) (d.ty y v.0) in
          (w.0, omega (arith, w.1, limit), ap (λ y. new.entry y w.0) (newest_same y v.0) ∙ d.entry (newest old y) w.0 v.1.there ∙ w.2)
    ];
    back = λ y s i g n e. elim (node_cases y n.there) [
      | inl p ↦ absurd (no_entry y s i g p e)
      | inr p ↦
          let w = l.matched.back y s i g (last_old y p n) (sym (d.entry y s p) ∙ e) in
          let v = l.newest i g w.1.0 w.0 w.1.1 in
          (last_new i w.0, (w.1.0, d.holds i g t w.0.there ∙ w.1.1, newest_same w.1.0 v.0 ∙ w.1.2))
    ];
    one = λ y s v i g n a b. elim (node_cases y n.there) [
      | inl p ↦ absurd (no_entry y s i g p a)
      | inr p ↦ l.matched.one y s v i g (last_old y p n) (sym (d.entry y s p) ∙ a) (sym (d.entry y v p) ∙ b)
    ];
  }

  made_line : IsLine shape t new
  made_line = record {
    chained = made_chained;
    known = λ i m. elim (node_cases i m) [
      | inl p ↦ subst (λ (v : TypeNo). v.0 < length shape) (sym (ap new.ty p ∙ d.ty_z)) below
      | inr p ↦ subst (λ (v : TypeNo). v.0 < length shape) (sym (d.ty i p)) (l.known i p)
    ];
    first = λ i m. elim (node_cases i m) [
      | inl p ↦ let f : new.first i ≡ t = ap new.first p ∙ d.first_z in omega arith
      | inr p ↦ omega (arith, l.first i p, d.first i p)
    ];
    flat = λ i g n m b. elim (node_cases i m) [
      | inl p ↦ ap (λ i. new.holds i g n) p ∙ d.holds_z g n ∙ sym (d.holds_z g t) ∙ ap (λ i. new.holds i g t) (sym p)
      | inr p ↦ d.holds i g n p ∙ l.flat i g n p b ∙ sym (d.holds i g t p)
    ];
    kinds = λ i g n b h. elim (node_cases i h.there) [
      | inl p ↦
          let held : new.holds i g n ≡ default_content (type_at shape u) g = ap (λ i. new.holds i g n) p ∙ d.holds_z g n in
          subst (HasKind (type_at shape (new.ty i)) new.ty g) (sym held) (subst (λ (v : TypeNo). HasKind (type_at shape v) new.ty g (default_content (type_at shape u) g)) (sym (ap new.ty p ∙ d.ty_z)) (default_kind (type_at shape u) new.ty g))
      | inr p ↦
          let c = covers_old i n p h in
          subst (HasKind (type_at shape (new.ty i)) new.ty g) (sym (d.holds i g n p)) (kind-types (type_at shape (old.ty i)) (type_at shape (new.ty i)) old.ty new.ty g (old.holds i g n) (ap (type_at shape) (d.ty i p)) (λ y r. d.ty y (held_there shape t old i g n y l b c r)) (l.kinds i g n b c))
    ];
    segments = λ i g n y early h e. elim (node_cases i h.there) [
      | inl p ↦ absurd (no_pointer i g n y p e)
      | inr p ↦ covers_new y n (l.segments i g n y early (covers_old i n p h) (sym (d.holds i g n p) ∙ e))
    ];
    newest = λ i g y n e. elim (node_cases i n.there) [
      | inl p ↦ absurd (no_pointer i g t y p e)
      | inr p ↦
          let v = l.newest i g y (last_old i p n) (sym (d.holds i g t p) ∙ e) in (
            up y v.0,
            subst (IsNewest new) (sym (newest_same y v.0)) (last_new (newest old y) v.1),
            λ j h. let h' : old.later y ≡ Some j = sym (d.later y v.0) ∙ h in let k = l.chained.next y j v.0 h' in d.first j k.0 ∙ v.2 j h',
          )
    ];
    lives = λ i g n y b h e. elim (node_cases i h.there) [
      | inl p ↦ absurd (no_pointer i g n y p e)
      | inr p ↦
          let c = covers_old i n p h in
          let e' : old.holds i g n ≡ Target y = sym (d.holds i g n p) ∙ e in
          let v = l.lives i g n y b c e' in
          (d.made i p ∙ v.0, d.made y (held_there shape t old i g n y l b c e') ∙ v.1)
    ];
    matched = made_matched;
    root = let r = l.root in (up 0 r.0, d.home 0 r.0 ∙ r.1, d.first 0 r.0 ∙ r.2, d.name 0 r.0 ∙ r.3, d.ty 0 r.0 ∙ r.4, d.made 0 r.0 ∙ r.5);
    one_root = λ i m a b. elim (node_cases i m) [
      | inl p ↦ absurd (let s : u ≡ root_type = sym d.ty_z ∙ ap new.ty (sym p) ∙ b in let k : u.0 ≡ 0 = ap (λ (v : TypeNo). v.0) s in omega arith)
      | inr p ↦ d.home i p ∙ l.one_root i p (sym (d.made i p) ∙ a) (sym (d.ty i p) ∙ b)
    ];
  }

  -- ---- the heaps

  old_record : (i n : ℕ) → n ≤ t → Covers old i n → record_at shape new i n ≡ record_at shape old i n
  old_record i n m h = record_of-same shape (old.ty i) (new.ty i) old.name new.name (λ g. old.holds i g n) (λ g. new.holds i g n) (d.ty i h.there)
      (λ g b. ap number (d.holds i g n h.there))
      (λ g b. ap (denoted new.name) (d.holds i g n h.there) ∙ denoted-names old.name new.name (old.holds i g n) (λ y e. d.name y (held_there shape t old i g n y l m h e)))

  z_record : record_at shape new z t ≡ new_record shape u
  z_record =
      ap (λ (v : TypeNo). record_of shape v new.name (λ g. new.holds z g t)) d.ty_z ∙
      (λ i. record {
        ty = u;
        values = listed-replicate (type_at shape u).values (λ g. number (new.holds z g t)) (pos 0) (λ g b. ap number (d.holds_z g t ∙ default_value (type_at shape u) g b)) i;
        pointers = listed-replicate (length (type_at shape u).targets) (λ k. denoted new.name (new.holds z ((type_at shape u).values + k) t)) None
            (λ k b. ap (denoted new.name) (d.holds_z ((type_at shape u).values + k) t ∙ default_pointer (type_at shape u) ((type_at shape u).values + k) (omega arith))) i;
      })

  made_here : heap_at shape new t ≡ with_record (heap_at shape old t) q (new_record shape u)
  made_here =
      put_heap shape new t z (heap_at shape old t) made_chained z_in
      (λ p ne. same_at shape old new t t p l.chained made_chained
      (λ i h is. (i, in_new i t h, d.name i h.covers.there ∙ is, old_record i t (omega arith) h.covers))
      (λ j h is. elim (node_cases j h.covers.there) [
        | inl r ↦ absurd (ne (sym is ∙ ap new.name r))
        | inr r ↦ (j, in_old j t r h, sym (d.name j r) ∙ is)
      ]))
      ∙ ap (λ (p : Name). insert (heap_at shape old t) p (record_at shape new z t)) d.name_z
      ∙ ap (λ (r : Rec). insert (heap_at shape old t) q r) z_record

  made_stay : VersionsStay shape t old new
  made_stay = record {
    heaps = λ n early. same_heaps shape old new n n l.chained made_chained
        (λ i h. (i, in_new i n h, d.name i h.covers.there, old_record i n (omega arith) h.covers))
        (λ j h. elim (node_cases j h.covers.there) [
          | inl p ↦ absurd (let a = z_late j n p h.covers in omega arith)
          | inr p ↦ (j, in_old j n p h, sym (d.name j p))
        ]);
    live = λ i n m h. (record { there = up i h.there; made = d.made i h.there ∙ h.made; begun = omega (arith, d.first i h.there, h.begun) }, d.name i h.there);
  }

  -- ---- the load

  made_potential : potential new ≡ potential old
  made_potential =
      let count : potential new ≡ sum_below z (λ i. if_newest (new.later i) (new.stamped i)) + if_newest (new.later z) (new.stamped z) = ap (λ n. sum_below n (λ i. if_newest (new.later i) (new.stamped i))) d.count in
      let at_z : if_newest (new.later z) (new.stamped z) ≡ 0 = ap (λ j. if_newest j (new.stamped z)) d.later_z ∙ d.stamped_z in
      let same = sum_below-same z (λ i. if_newest (new.later i) (new.stamped i)) (λ i. if_newest (old.later i) (old.stamped i)) (λ i m. ap (λ j. if_newest j (new.stamped i)) (d.later i m) ∙ ap (if_newest (old.later i)) (d.stamped i m)) in
      omega (arith, count, at_z, same)

  each_entry : (y s : ℕ) → IsNewest old y → if_stale new t y (new.entry y s) ≡ if_stale old t y (old.entry y s)
  each_entry y s n = elim (old.entry y s) as (λ (j : Option (ℕ × ℕ)). old.entry y s ≡ j → if_stale new t y (new.entry y s) ≡ if_stale old t y j) [
    | None ↦ λ h. ap (if_stale new t y) (d.entry y s n.there ∙ h)
    | Some j ↦ λ h. let w = l.matched.back y s j.0 j.1 n h in ap (if_stale new t y) (d.entry y s n.there ∙ h) ∙ ap (if_other y) (d.holds j.0 j.1 t w.0.there)
  ] refl

  each_node : (y : ℕ) → y < z → if_newest (new.later y) (stale_at shape new t y) ≡ if_newest (old.later y) (stale_at shape old t y)
  each_node y m = elim (old.later y) as (λ (j : Option ℕ). old.later y ≡ j → if_newest (new.later y) (stale_at shape new t y) ≡ if_newest j (stale_at shape old t y)) [
    | None ↦ λ e. ap (λ j. if_newest j (stale_at shape new t y)) (d.later y m ∙ e) ∙ ap (λ (v : TypeNo). sum_below (type_at shape v).limit (λ s. if_stale new t y (new.entry y s))) (d.ty y m)
        ∙ sum_below-same (type_at shape (old.ty y)).limit (λ s. if_stale new t y (new.entry y s)) (λ s. if_stale old t y (old.entry y s)) (λ s b. each_entry y s (record { there = m; last = e }))
    | Some j ↦ λ e. ap (λ j. if_newest j (stale_at shape new t y)) (d.later y m ∙ e)
  ] refl

  made_load : load shape new t ≡ suc (load shape old t)
  made_load =
      let count : stale shape new t ≡ sum_below z (λ y. if_newest (new.later y) (stale_at shape new t y)) + if_newest (new.later z) (stale_at shape new t z) = ap (λ n. sum_below n (λ y. if_newest (new.later y) (stale_at shape new t y))) d.count in
      let same = sum_below-same z (λ y. if_newest (new.later y) (stale_at shape new t y)) (λ y. if_newest (old.later y) (stale_at shape old t y)) each_node in
      let none : stale_at shape new t z ≡ 0 = sum_below-same (type_at shape (new.ty z)).limit (λ s. if_stale new t z (new.entry z s)) (λ s. 0) (λ s b. ap (if_stale new t z) (d.entry_z s)) ∙ nothing (type_at shape (new.ty z)).limit in
      let at_z : if_newest (new.later z) (stale_at shape new t z) ≡ 0 = ap (λ j. if_newest j (stale_at shape new t z)) d.later_z ∙ none in
      omega (arith, d.count, made_potential, count, same, at_z)
    where
      nothing : (n : ℕ) → sum_below n (λ s. 0) ≡ 0
      nothing zero = refl
      nothing (suc n) = omega (arith, nothing n)

pub made_law : MadeLaw
made_law shape old new q u t l above below fresh homes d =
    (made_line shape old new q u t l above below fresh homes d, made_stay shape old new q u t l above below fresh homes d, made_here shape old new q u t l above below fresh homes d, made_load shape old new q u t l above below fresh homes d)
