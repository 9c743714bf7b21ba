-- A fork is published.
use Rattle.std.proofs.Common.{◌≡◌, ◌≢◌, ℕ, zero, suc, ◌+◌, ◌<◌, true, false, List, [], ◌∷◌, length, Some, refl, sym, ap, ◌∙◌, subst, ◌⊎◌, inl, inr, ⊎_elim, arith}
use Rattle.std.proofs.Math.ListN.{set, length-set}
use Rattle.std.specs.Prelude.{slice_get, map}
use Rattle.std.proofs.lemmas.Bool.{cases_eq}
use Rattle.pst_base.specs.declared.names.VersionNo.{VersionNo}
use Rattle.pst_base.specs.declared.names.RunNo.{RunNo}
use Rattle.std.specs.Option.{option_map}
use Rattle.pst_versions.specs.declared.rows.VersionRow.{VersionRow}
use Rattle.pst_versions.specs.Rows.{first_row}
use Rattle.pst_versions.specs.State.{Published, published_in}
use Rattle.pst_store_meaning.specs.declared.place.Place.{Place}
use Rattle.pst_store_meaning.specs.declared.place.Fork.{Fork}
use Rattle.pst_store_meaning.specs.Store.{Stored, begin_of, end_of, IsForked, IsOpen, IsPlace, as_fork, state_of, AreNested, published_count, IsVersionFork, IsStore}
use Rattle.pst_store_meaning.specs.Steps.{published, PublishLaw}
use Rattle.pst_store_meaning.proofs.Places.{slice_get-push, slice_get-kept, slice_get-below, slice_get-mapped, length-push, count-le, count-set, same_fork}

slice_get-set_same : {A : Type 0} (xs : List A) (i : ℕ) (v : A) → i < length xs → slice_get (set xs i v) i ≡ Some v
slice_get-set_same [] i v l = absurd (omega arith)
slice_get-set_same (x ∷ xs) zero v l = refl
slice_get-set_same (x ∷ xs) (suc i) v l = slice_get-set_same xs i v (omega arith)

slice_get-set_other : {A : Type 0} (xs : List A) (i j : ℕ) (v : A) → j ≢ i → slice_get (set xs i v) j ≡ slice_get xs j
slice_get-set_other [] i j v ne = refl
slice_get-set_other (x ∷ xs) zero zero v ne = absurd (ne refl)
slice_get-set_other (x ∷ xs) zero (suc j) v ne = refl
slice_get-set_other (x ∷ xs) (suc i) zero v ne = refl
slice_get-set_other (x ∷ xs) (suc i) (suc j) v ne = slice_get-set_other xs i j v (λ e. ne (ap suc e))

rows-published : (forks : List Fork) (i : ℕ) (f : Fork) → slice_get forks i ≡ Some f → map as_fork (set forks i (record f { published = true })) ≡ published_in (map as_fork forks) i
rows-published [] i f e = absurd (cc)
rows-published (x ∷ xs) zero f e = (let same : f ≡ x = cc in ap (λ (f : Fork). record { place = f.place; from = f.from; published = true } ∷ map as_fork xs) same)
rows-published (x ∷ xs) (suc i) f e = ap (λ rows. as_fork x ∷ rows) (rows-published xs i f e)

origin_there : (rows : List (VersionRow Place)) (i : ℕ) (p : Place) → option_map (λ (row : VersionRow Place). row.place) (slice_get rows i) ≡ Some p → i < length rows
origin_there [] i p e = absurd (cc)
origin_there (x ∷ xs) zero p e = omega arith
origin_there (x ∷ xs) (suc i) p e = omega (arith, origin_there xs i p e)

found : (rows : List (VersionRow Place)) (i : ℕ) (p : Place) → option_map (λ (row : VersionRow Place). row.place) (slice_get rows i) ≡ Some p
    → (row : VersionRow Place) × (slice_get rows i ≡ Some row) × (row.place ≡ p)
found [] i p e = absurd (cc)
found (x ∷ xs) zero p e = (x, refl, cc)
found (x ∷ xs) (suc i) p e = found xs i p e

module _ (s : Stored) (parent : VersionNo) (run : RunNo) (at : Place) (k : ℕ) (f : Fork) (h : IsStore s)
    (origin : option_map (λ (row : VersionRow Place). row.place) (slice_get s.versions parent.0) ≡ Some f.from) (is : slice_get s.forks k ≡ Some f)
    (place : f.place ≡ at) (unpublished : f.published ≡ false) where
  abbrev u : Stored
  u = published s parent run at k f

  abbrev row : VersionRow Place
  row = record { parent = parent; run = run; place = at }

  there : parent.0 < length s.versions
  there = origin_there s.versions parent.0 f.from origin

  -- each fork that there was, and each that there is
  was : (j : ℕ) (g : Fork) → slice_get u.forks j ≡ Some g → ((j ≡ k) × (record f { published = true } ≡ g)) ⊎ ((j ≢ k) × (slice_get s.forks j ≡ Some g))
  was j g e = ⊎_elim
      (λ (q : j ≡ k).
      let here : slice_get u.forks j ≡ Some (record f { published = true }) = ap (slice_get u.forks) q
      ∙ slice_get-set_same s.forks k (record f { published = true }) (slice_get-below s.forks k f is) in
      inl (q, cc))
      (λ (q : j ≡ k → ⊥). inr (q, sym (slice_get-set_other s.forks k j (record f { published = true }) q) ∙ e))
      (cases_eq j k)

  -- the same fork, but for the mark
  pub record Same (j : ℕ) (g : Fork) : Type 0 where
    pub old : Fork
    pub stood : slice_get s.forks j ≡ Some old
    pub same_place : g.place ≡ old.place
    pub same_from : g.from ≡ old.from

  same : (j : ℕ) (g : Fork) → slice_get u.forks j ≡ Some g → Same j g
  same j g e = elim (was j g e) [
    | inl v ↦ record { old = f; stood = ap (slice_get s.forks) v.0 ∙ is; same_place = ap (λ (x : Fork). x.place) (sym v.1); same_from = ap (λ (x : Fork). x.from) (sym v.1) }
    | inr v ↦ record { old = g; stood = v.1; same_place = refl; same_from = refl }
  ]

  back : (p : Place) → IsPlace u p → IsPlace s p
  back p i = elim i [
    | inl e ↦ inl e
    | inr (inl g) ↦ let x = same g.index g.fork g.at in inr (inl (record { index = g.index; fork = x.old; at = x.stood; place = sym x.same_place ∙ g.place }))
    | inr (inr x) ↦ inr (inr x)
  ]

  abbrev shut : IsForked u.forks at
  shut = record { index = k; fork = record f { published = true }; at = slice_get-set_same s.forks k (record f { published = true }) (slice_get-below s.forks k f is); place = place }

  kept : (p : Place) → IsPlace s p → IsPlace u p
  kept p i = elim i [
    | inl e ↦ inl e
    | inr (inr x) ↦ inr (inr x)
    | inr (inl g) ↦ ⊎_elim
        (λ (q : g.index ≡ k).
        let e : f ≡ g.fork = (let x : slice_get s.forks k ≡ Some g.fork = ap (slice_get s.forks) (sym q) ∙ g.at in cc) in
        inr (inl (subst (λ (p : Place). IsForked u.forks p) (sym place ∙ ap (λ (x : Fork). x.place) e ∙ g.place) shut)))
        (λ (q : g.index ≡ k → ⊥). inr (inl (record { index = g.index; fork = g.fork; at = slice_get-set_other s.forks k g.index (record f { published = true }) q ∙ g.at; place = g.place })))
        (cases_eq g.index k)
  ]

  open_was : (p : Place) → IsOpen u.forks p → IsOpen s.forks p
  open_was p o = elim (was o.forked.index o.forked.fork o.forked.at) [
    | inl v ↦ absurd (let t : true ≡ false = ap (λ (x : Fork). x.published) v.1 ∙ o.unpublished in cc)
    | inr v ↦ record { forked = record { index = o.forked.index; fork = o.forked.fork; at = v.1; place = o.forked.place }; unpublished = o.unpublished }
  ]

  not_open : (p : Place) → p ≡ at → IsOpen u.forks p → ⊥
  not_open p e o = elim (was o.forked.index o.forked.fork o.forked.at) [
    | inl v ↦ absurd (let t : true ≡ false = ap (λ (x : Fork). x.published) v.1 ∙ o.unpublished in cc)
    | inr v ↦ v.0 (same_fork s h.nested o.forked.fork f o.forked.index k v.1 is (o.forked.place ∙ e ∙ sym place)).0
  ]

  still_open : (p : Place) → IsOpen s.forks p → (p ≡ at) ⊎ IsOpen u.forks p
  still_open p o = ⊎_elim
      (λ (q : o.forked.index ≡ k).
      let e : f ≡ o.forked.fork = (let x : slice_get s.forks k ≡ Some o.forked.fork = ap (slice_get s.forks) (sym q) ∙ o.forked.at in cc) in
      inl (sym o.forked.place ∙ ap (λ (x : Fork). x.place) (sym e) ∙ place))
      (λ (q : o.forked.index ≡ k → ⊥). inr (record {
        forked = record { index = o.forked.index; fork = o.forked.fork; at = slice_get-set_other s.forks k o.forked.index (record f { published = true }) q ∙ o.forked.at; place = o.forked.place };
        unpublished = o.unpublished;
      }))
      (cases_eq o.forked.index k)

  nested_u : AreNested u
  nested_u = record {
    first = h.nested.first;
    some = h.nested.some;
    last = h.nested.last;
    numbered = λ j g e. let x = same j g e in ap (λ (p : Place). p.number) x.same_place ∙ h.nested.numbered j x.old x.stood;
    from = λ j g e. let x = same j g e in kept g.from (subst (λ (p : Place). IsPlace s p) (sym x.same_from) (h.nested.from j x.old x.stood));
    inside = λ j g e.
        let x = same j g e in
        let v = h.nested.inside j x.old x.stood in
        let a : begin_of s g.from ≡ begin_of s x.old.from = ap (begin_of s) x.same_from in
        let b : begin_of s g.place ≡ begin_of s x.old.place = ap (begin_of s) x.same_place in
        let c : end_of s g.place ≡ end_of s x.old.place = ap (end_of s) x.same_place in
        let d : end_of s g.from ≡ end_of s x.old.from = ap (end_of s) x.same_from in
        (omega (arith, v), omega (arith, v), omega (arith, v));
    before = λ i j g e l a b q.
        let x = same i g a in
        let y = same j e b in
        let v = h.nested.before i j x.old y.old l x.stood y.stood (sym x.same_from ∙ q ∙ y.same_from) in
        let c : end_of s e.place ≡ end_of s y.old.place = ap (end_of s) y.same_place in
        let d : begin_of s g.place ≡ begin_of s x.old.place = ap (begin_of s) x.same_place in
        omega (arith, v);
    closed = λ j g e q. elim (was j g e) [
      | inl v ↦ absurd (let t : true ≡ false = ap (λ (x : Fork). x.published) v.1 ∙ q in cc)
      | inr v ↦ h.nested.closed j g v.1 q
    ];
    apart = λ i j g e a b q.
        let x = same i g a in
        let y = same j e b in
        h.nested.apart i j x.old y.old x.stood y.stood (sym (ap (begin_of s) x.same_place) ∙ q ∙ ap (begin_of s) y.same_place);
    relics = h.nested.relics;
    written = λ i j p g a e q. elim (was j g e) [
      | inl v ↦ absurd (let t : true ≡ false = ap (λ (x : Fork). x.published) v.1 ∙ q in cc)
      | inr v ↦ h.nested.written i j p g a v.1 q
    ];
  }

  -- the fork of each version that there was
  fork_kept : (r : VersionRow Place) → IsVersionFork s.forks s.versions r → IsVersionFork u.forks u.versions r
  fork_kept r x = record {
    index = x.index;
    fork = x.fork;
    at = slice_get-set_other s.forks k x.index (record f { published = true }) (λ q.
        let e : slice_get s.forks k ≡ Some x.fork = ap (slice_get s.forks) (sym q) ∙ x.at in
        let y : f ≡ x.fork = cc in
        let t : true ≡ false = sym x.published ∙ ap (λ (x : Fork). x.published) (sym y) ∙ unpublished in
        cc) ∙ x.at;
    place = x.place;
    published = x.published;
    parent = x.parent;
    parent_at = slice_get-kept s.versions row r.parent.0 x.parent x.parent_at;
    from = x.from;
  }

  -- and of the new one
  origin_row : (parent : VersionRow Place) × (slice_get s.versions (row.parent.0) ≡ Some parent) × (parent.place ≡ f.from)
  origin_row = found s.versions parent.0 f.from origin

  fork_new : IsVersionFork u.forks u.versions row
  fork_new = record {
    index = k;
    fork = record f { published = true };
    at = slice_get-set_same s.forks k (record f { published = true }) (slice_get-below s.forks k f is);
    place = place;
    published = refl;
    parent = origin_row.0;
    parent_at = slice_get-kept s.versions row parent.0 origin_row.0 origin_row.1;
    from = sym origin_row.2;
  }

  -- no version has the place yet
  new_there : (v : ℕ) (r : VersionRow Place) → slice_get s.versions v ≡ Some r → r.place ≡ at → ⊥
  new_there v r e q = h.versions.published v r e (record { forked = record { index = k; fork = f; at = is; place = place ∙ sym q }; unpublished = unpublished })

  counted : length u.versions ≡ published_count u.forks + 1
  counted = omega (arith, length-push s.versions row, h.versions.counted, count-set s.forks k f (record f { published = true }) is unpublished refl)

  store_u : IsStore u
  store_u = record {
    valid = h.valid;
    nested = nested_u;
    rows = h.rows;
    wide = h.wide;
    arena = h.arena;
    born = λ i l. let p = h.born i l in (p.0, kept p.0 p.1, p.2);
    versions = record {
      tree = record {
        some = omega (arith, length-push s.versions row);
        parents = λ v r e. elim (slice_get-push s.versions row (v + 1) r e) [
          | inl a ↦ h.versions.tree.parents v r a
          | inr b ↦ let p : r.parent.0 ≡ parent.0 = ap (λ (x : VersionRow Place). x.parent.0) (sym b.1) in omega (arith, b.0, there)
        ];
        few = omega (arith, counted, count-le u.forks, length-set s.forks k (record f { published = true }), h.versions.made, h.versions.calls);
      };
      root = slice_get-kept s.versions row 0 (first_row s.start) h.versions.root;
      forked = λ v r e. elim (slice_get-push s.versions row (suc v) r e) [
        | inl a ↦ fork_kept r (h.versions.forked v r a)
        | inr b ↦ subst (IsVersionFork u.forks u.versions) b.1 fork_new
      ];
      apart = λ v w a b x y q. elim (slice_get-push s.versions row v a x) [
        | inl i ↦ elim (slice_get-push s.versions row w b y) [
          | inl j ↦ h.versions.apart v w a b i j q
          | inr j ↦ absurd (new_there v a i (q ∙ ap (λ (x : VersionRow Place). x.place) (sym j.1)))
        ]
        | inr i ↦ elim (slice_get-push s.versions row w b y) [
          | inl j ↦ absurd (new_there w b j (sym q ∙ ap (λ (x : VersionRow Place). x.place) (sym i.1)))
          | inr j ↦ i.0 ∙ sym j.0
        ]
      ];
      placed = λ v r e. elim (slice_get-push s.versions row v r e) [
        | inl a ↦ kept r.place (h.versions.placed v r a)
        | inr b ↦ subst (λ (p : Place). IsPlace u p) (ap (λ (x : VersionRow Place). x.place) b.1) (inr (inl shut))
      ];
      published = λ v r e o. elim (slice_get-push s.versions row v r e) [
        | inl a ↦ h.versions.published v r a (open_was r.place o)
        | inr b ↦ not_open r.place (ap (λ (x : VersionRow Place). x.place) (sym b.1)) o
      ];
      counted = counted;
      made = omega (arith, length-set s.forks k (record f { published = true }), h.versions.made);
      calls = h.versions.calls;
    };
    rooted = record { some = h.rooted.some; name = h.rooted.name; begins = h.rooted.begins };
    bounded = h.bounded;
    few = h.few;
    spent = h.spent;
  }

  published_u : Published (state_of s) parent run at (record { 0 = length s.versions }) (state_of u)
  published_u = record {
    from = f.from;
    fork = record { index = k; row = slice_get-mapped as_fork s.forks k f is ∙ (λ i. Some (record { place = place i; from = f.from; published = unpublished i })) };
    origin = origin;
    grows = record { shape = refl; spent = refl; has = kept; live = λ p r l. (kept p l.0, l.1); name = λ p r l. refl };
    back = back;
    heaps = λ p i. refl;
    counts = refl;
    number = refl;
    versions = refl;
    forks = rows-published s.forks k f is;
    fork_calls = refl;
    closed = not_open at refl;
    kept = still_open;
    writes_back = open_was;
  }

pub publish_law : PublishLaw
publish_law s parent run at k f h origin is place unpublished = (store_u s parent run at k f h origin is place unpublished, published_u s parent run at k f h origin is place unpublished)
