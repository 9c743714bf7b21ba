-- A place that comes in, and a fork.
use Rattle.std.proofs.Common.{◌≡◌, ◌≢◌, ℕ, suc, ◌+◌, ◌*◌, ◌<◌, ◌≤◌, false, List, [], ◌∷◌, length, Some, refl, sym, ap, ◌∙◌, subst, ◌⊎◌, inl, inr, arith}
use Rattle.std.specs.Prelude.{slice_get}
use Rattle.std.proofs.lemmas.List.{map-append}
use Rattle.std.proofs.lemmas.List.Edits.{length-insert}
use Rattle.pst_versions.specs.declared.versioned.TheConstants.{MOST_FORKS}
use Rattle.pst_versions.specs.State.{Forked}
use Rattle.pst_order.specs.Places.{rank}
use Rattle.pst_mirror.specs.Charts.{AllRows}
use Rattle.pst_mirror.specs.Fork.{shift, back, IsInsertedAfter}
use Rattle.pst_mirror.proofs.ForkLemmas.{shift_cases, back_cases, rank_law, rows_insert_law}
use Rattle.pst_store_meaning.specs.declared.place.Place.{Place}
use Rattle.pst_store_meaning.specs.declared.place.Fork.{Fork}
use Rattle.pst_store_meaning.specs.Arena.{IsLive, IsArena, heap_at}
use Rattle.pst_store_meaning.specs.Changes.{IsInserted, InsertedKeeps}
use Rattle.pst_store_meaning.specs.Store.{Stored, arena, begin_of, end_of, IsForked, IsOpen, IsPlace, as_fork, state_of, AreNested, AreBorn, LivesOver, IsStore}
use Rattle.pst_store_meaning.specs.Steps.{IsNewPlace, forked, fork_counted, ForkLaw, ForkRefusedLaw, ForkBrokenLaw}
use Rattle.pst_store_meaning.proofs.Born.{lives_shifted}
use Rattle.pst_store_meaning.proofs.Inserted.{inserted_law}
use Rattle.pst_store_meaning.proofs.Concrete.{drawn, rows, rows_apart, arena_inserted}
use Rattle.pst_store_meaning.proofs.Places.{slice_get-push, slice_get-kept, slice_get-last, slice_get-below, length-push, rank_le, count-push, begins, in_list, same_place}

abbrev with_places : Stored → List ℕ → Stored
with_places s places = record s { places = places }

back_shift : (k n : ℕ) → back k (shift k n) ≡ n
back_shift k n = omega (arith, shift_cases k n, back_cases k (shift k n))

-- ---- one place comes in behind the begin of a published place

module _ (s : Stored) (from : Place) (z : ℕ) (places : List ℕ) (h : IsStore s) (has : IsPlace s from) (shut : IsOpen s.forks from → ⊥)
    (new : IsNewPlace s.places places from.begin.0 z) (fits : length places ≤ 2 * (s.calls + s.spent) + 2) where
  abbrev t : Stored
  t = with_places s places

  abbrev k : ℕ
  k = begin_of s from

  ins : IsInsertedAfter (rank s.places) (rank places) k z
  ins = subst (λ (qs : List ℕ). IsInsertedAfter (rank s.places) (rank qs) k z) (sym new.list) (rank_law s.places k z new.there new.fresh)

  more : length places ≡ suc (length s.places)
  more = ap length new.list ∙ length-insert s.places (suc k) z (omega (arith, new.there)) ∙ omega arith

  is_old : (p : ℕ) → rank s.places p < length s.places → rank places p ≡ shift k (rank s.places p)
  is_old p l = ins.old p (λ e. let same : rank s.places p ≡ rank s.places z = ap (rank s.places) e in absurd (omega (arith, new.fresh)))

  pub begin_t : (p : Place) → IsPlace s p → begin_of t p ≡ shift k (begin_of s p)
  begin_t p i = is_old p.begin.0 (in_list s h.nested p i)

  -- each place ends in the list
  ends_in : (p : Place) → IsPlace s p → end_of s p < length s.places
  ends_in p i = elim i [
    | inl e ↦ subst (λ (p : Place). end_of s p < length s.places) (sym e) (omega (arith, h.nested.last))
    | inr (inl f) ↦ subst (λ (p : Place). end_of s p < length s.places) f.place
        (let v = h.nested.inside f.index f.fork f.at in omega (arith, v, rank_le s.places f.fork.from.end.0))
    | inr (inr x) ↦ (let v = h.nested.relics x.index p x.at in omega (arith, v, h.nested.last))
  ]

  end_t : (p : Place) → IsPlace s p → end_of t p ≡ shift k (end_of s p)
  end_t p i = is_old p.end.0 (ends_in p i)

  below_end : k < end_of s s.start
  below_end = begins s h.nested from has

  end_start : end_of t s.start ≡ suc (end_of s s.start)
  end_start = omega (arith, end_t s.start (inl refl), shift_cases k (end_of s s.start), below_end)

  of_fork : (j : ℕ) (f : Fork) → slice_get s.forks j ≡ Some f → IsPlace s f.place
  of_fork j f at = inr (inl (record { index = j; fork = f; at = at; place = refl }))

  of_relic : (j : ℕ) (p : Place) → slice_get s.relics j ≡ Some p → IsPlace s p
  of_relic j p at = inr (inr (record { index = j; at = at }))

  nested_t : AreNested t
  nested_t = record {
    first = omega (arith, begin_t s.start (inl refl), h.nested.first, shift_cases k (begin_of s s.start));
    some = omega (arith, begin_t s.start (inl refl), end_start, h.nested.first, shift_cases k (begin_of s s.start));
    last = omega (arith, end_start, h.nested.last, more);
    numbered = h.nested.numbered;
    from = h.nested.from;
    inside = λ j f at.
        let v = h.nested.inside j f at in
        let p = of_fork j f at in
        let q = h.nested.from j f at in (
          omega (arith, v, begin_t f.from q, begin_t f.place p, shift_cases k (begin_of s f.from), shift_cases k (begin_of s f.place)),
          omega (arith, v, begin_t f.place p, end_t f.place p, shift_cases k (begin_of s f.place), shift_cases k (end_of s f.place)),
          omega (arith, v, end_t f.place p, end_t f.from q, shift_cases k (end_of s f.place), shift_cases k (end_of s f.from)),
        );
    before = λ i j f g l a b e.
        let v = h.nested.before i j f g l a b e in
        omega (arith, v, end_t g.place (of_fork j g b), begin_t f.place (of_fork i f a), shift_cases k (end_of s g.place), shift_cases k (begin_of s f.place));
    closed = λ j f at e.
        let p = of_fork j f at in
        let apart : begin_of s f.place ≢ k = (λ same.
        let o : IsOpen s.forks f.place = record { forked = record { index = j; fork = f; at = at; place = refl }; unpublished = e } in
        let place : from ≡ f.place = same_place s h.nested from f.place has o (sym same) in
        shut (subst (IsOpen s.forks) (sym place) o)) in
        omega (arith, h.nested.closed j f at e, begin_t f.place p, end_t f.place p, shift_cases k (begin_of s f.place), shift_cases k (end_of s f.place));
    apart = λ i j f g a b e. h.nested.apart i j f g a b (
        omega (arith, e, begin_t f.place (of_fork i f a), begin_t g.place (of_fork j g b), shift_cases k (begin_of s f.place), shift_cases k (begin_of s g.place)));
    relics = λ j p at.
        let v = h.nested.relics j p at in
        let i = of_relic j p at in (
          omega (arith, v, begin_t p i, end_t p i, shift_cases k (begin_of s p), shift_cases k (end_of s p)),
          omega (arith, v, end_t p i, end_t s.start (inl refl), shift_cases k (end_of s p), shift_cases k (end_of s s.start)),
        );
    written = λ i j p f a b u e. h.nested.written i j p f a b u (
        omega (arith, e, begin_t p (of_relic i p a), begin_t f.place (of_fork j f b), shift_cases k (begin_of s p), shift_cases k (begin_of s f.place)));
  }

  rows_t : AllRows (rank places) (length places) (rows s.nodes)
  rows_t = subst (λ (n : ℕ). AllRows (rank places) n (rows s.nodes)) (sym more)
      (rows_insert_law (rank s.places) (rank places) k z (length s.places) (rows s.nodes) ins (rows_apart s.places z new.fresh (rows s.nodes) h.rows) h.rows)

  inserted_t : IsInserted (arena s) (arena t) k
  inserted_t = arena_inserted (rank s.places) (rank places) k z ins s.nodes (rows_apart s.places z new.fresh (rows s.nodes) h.rows)

  pub keeps : InsertedKeeps s.shape (end_of s s.start) (arena s) (arena t) k
  keeps = inserted_law s.shape (end_of s s.start) (arena s) (arena t) k h.arena (drawn (rank s.places) (length s.places) s.nodes h.rows)
      (drawn (rank places) (length places) s.nodes rows_t) below_end inserted_t

  born_t : AreBorn t
  born_t i l =
      let p = h.born i l in (
        p.0,
        p.1,
        subst (λ (b : ℕ). LivesOver (arena t) i b (end_of t p.0)) (sym (begin_t p.0 p.1)) (subst (λ (e : ℕ). LivesOver (arena t) i (shift k (begin_of s p.0)) e) (sym (end_t p.0 p.1))
            (lives_shifted (arena s) (arena t) k i (begin_of s p.0) (end_of s p.0) inserted_t p.2)),
      )

  pub store_t : IsStore t
  store_t = record {
    valid = h.valid;
    nested = nested_t;
    rows = rows_t;
    wide = h.wide;
    arena = subst (λ (n : ℕ). IsArena s.shape n (arena t)) (sym end_start) keeps.arena;
    born = born_t;
    versions = record {
      tree = h.versions.tree;
      root = h.versions.root;
      forked = h.versions.forked;
      apart = h.versions.apart;
      placed = h.versions.placed;
      published = h.versions.published;
      counted = h.versions.counted;
      made = h.versions.made;
      calls = h.versions.calls;
    };
    rooted = record { some = h.rooted.some; name = h.rooted.name; begins = inserted_t.lo 0 h.rooted.some ∙ ap (shift k) h.rooted.begins ∙ omega (arith, shift_cases k 0) };
    bounded = h.bounded;
    few = fits;
    spent = h.spent;
  }

  pub heap_t : (p : Place) → IsPlace s p → heap_at s.shape (arena t) (begin_of t p) ≡ heap_at s.shape (arena s) (begin_of s p)
  heap_t p i = keeps.heaps (begin_of t p) ∙ ap (heap_at s.shape (arena s)) (ap (back k) (begin_t p i) ∙ back_shift k (begin_of s p))

  pub live_t : (p : Place) (i : ℕ) → IsPlace s p → IsLive (arena s) i (begin_of s p) → IsLive (arena t) i (begin_of t p)
  live_t p i q l = keeps.live i (begin_of t p) (subst (λ (n : ℕ). IsLive (arena s) i n) (sym (ap (back k) (begin_t p q) ∙ back_shift k (begin_of s p))) l)

  -- the new place is read as the one that it stands behind
  pub begin_z : rank places z ≡ suc k
  begin_z = ins.new

  pub heap_z : heap_at s.shape (arena t) (suc k) ≡ heap_at s.shape (arena s) k
  heap_z = keeps.heaps (suc k) ∙ ap (heap_at s.shape (arena s)) (let e : back k (suc k) ≡ k = omega (arith, back_cases k (suc k)) in e)

  pub live_z : (i : ℕ) → IsLive (arena s) i k → IsLive (arena t) i (suc k)
  live_z i l = keeps.live i (suc k) (subst (λ (n : ℕ). IsLive (arena s) i n) (let e : k ≡ back k (suc k) = omega (arith, back_cases k (suc k)) in e) l)

-- ---- a fork that was refused

-- the call is counted
module _ (s : Stored) (h : IsStore s) (calls : s.calls < MOST_FORKS) where
  counted_store : IsStore (record s { calls = s.calls + 1 })
  counted_store = record {
    valid = h.valid;
    nested = record {
      first = h.nested.first;
      some = h.nested.some;
      last = h.nested.last;
      numbered = h.nested.numbered;
      from = h.nested.from;
      inside =
          h.nested.inside;
      before = h.nested.before;
      closed = h.nested.closed;
      apart = h.nested.apart;
      relics = h.nested.relics;
      written = h.nested.written;
    };
    rows = h.rows;
    wide = h.wide;
    arena = h.arena;
    born = h.born;
    versions = record {
      tree = h.versions.tree;
      root = h.versions.root;
      forked = h.versions.forked;
      apart = h.versions.apart;
      placed = h.versions.placed;
      published = h.versions.published;
      counted = h.versions.counted;
      made = omega (arith, h.versions.made);
      calls = omega arith;
    };
    rooted = record { some = h.rooted.some; name = h.rooted.name; begins = h.rooted.begins };
    bounded = h.bounded;
    few = omega (arith, h.few);
    spent = h.spent;
  }

pub fork_refused_law : ForkRefusedLaw
fork_refused_law s h c = (
  counted_store s h c,
  record {
    grows = record { shape = refl; spent = refl; has = λ p i. i; live = λ p r l. l; name = λ p r l. refl };
    back = λ p i. i;
    writes = record { kept = λ p o. o; back = λ p o. o };
    heaps = λ p i. refl;
    counts = refl;
    versions = refl;
    forks = refl;
    fork_calls = refl;
  },
)

grown_by_one : (s : Stored) (from : Place) (z : ℕ) (places : List ℕ) → IsStore s → IsNewPlace s.places places from.begin.0 z → length places ≡ suc (length s.places)
grown_by_one s from z places h new = ap length new.list ∙ length-insert s.places (suc (begin_of s from)) z (omega (arith, new.there)) ∙ omega arith

pub fork_broken_law : ForkBrokenLaw
fork_broken_law s from z places h pub' c new =
    let fits : length places ≤ 2 * ((s.calls + 1) + s.spent) + 2 = omega (arith, grown_by_one s from z places h new, h.few) in
    let h0 = counted_store s h c in (
      store_t (fork_counted s s.places) from z places h0 pub'.has pub'.closed new fits,
      record {
        grows = record {
          shape = refl;
          spent = refl;
          has = λ p i. i;
          live =
              λ p r l. (l.0, live_t (fork_counted s s.places) from z places h0 pub'.has pub'.closed new fits p r.0 l.0 l.1);
          name = λ p r l. refl;
        };
        back = λ p i. i;
        writes = record { kept = λ p o. o; back = λ p o. o };
        heaps = λ p i. heap_t (fork_counted s s.places) from z places h0 pub'.has pub'.closed new fits p i;
        counts = refl;
        versions = refl;
        forks = refl;
        fork_calls = refl;
      },
    )

-- ---- a fork

module _ (s : Stored) (from place : Place) (mid places : List ℕ) (h : IsStore s) (has : IsPlace s from) (shut : IsOpen s.forks from → ⊥)
    (calls : s.calls < MOST_FORKS) (number : place.number ≡ length s.forks)
    (a : IsNewPlace s.places mid from.begin.0 place.end.0) (b : IsNewPlace mid places from.begin.0 place.begin.0) where
  abbrev s0 : Stored
  s0 = fork_counted s s.places

  h0 : IsStore s0
  h0 = counted_store s h calls

  abbrev t1 : Stored
  t1 = with_places s0 mid

  abbrev t2 : Stored
  t2 = with_places s0 places

  one_more : length mid ≡ suc (length s.places)
  one_more = grown_by_one s0 from place.end.0 mid h0 a

  fits1 : length mid ≤ 2 * ((s.calls + 1) + s.spent) + 2
  fits1 = omega (arith, one_more, h.few)

  abbrev u : Stored
  u = forked s from place places

  abbrev at0 : ℕ
  at0 = begin_of s from

  abbrev row : Fork
  row = record { place = place; from = from; published = false }

  h1 : IsStore t1
  h1 = store_t s0 from place.end.0 mid h0 has shut a fits1

  fits2 : length places ≤ 2 * ((s.calls + 1) + s.spent) + 2
  fits2 = omega (arith, grown_by_one t1 from place.begin.0 places h1 b, one_more, h.few)

  h2 : IsStore t2
  h2 = store_t t1 from place.begin.0 places h1 has shut b fits2

  k1 : begin_of t1 from ≡ at0
  k1 = begin_t s0 from place.end.0 mid h0 has shut a fits1 from has ∙ omega (arith, shift_cases at0 at0)

  -- where places stand now
  begin2 : (p : Place) → IsPlace s p → begin_of t2 p ≡ shift at0 (shift at0 (begin_of s p))
  begin2 p i = begin_t t1 from place.begin.0 places h1 has shut b fits2 p i ∙ ap (λ (n : ℕ). shift n (begin_of t1 p)) k1 ∙ ap (shift at0) (begin_t s0 from place.end.0 mid h0 has shut a fits1 p i)

  begin_new : begin_of t2 place ≡ suc at0
  begin_new = begin_z t1 from place.begin.0 places h1 has shut b fits2 ∙ ap suc k1

  end_new : end_of t2 place ≡ suc (suc at0)
  end_new =
      let e1 : rank mid place.end.0 ≡ suc at0 = begin_z s0 from place.end.0 mid h0 has shut a fits1 in
      let l : rank mid place.end.0 < length mid = omega (arith, e1, more s0 from place.end.0 mid h0 has shut a fits1, a.there) in
      is_old t1 from place.begin.0 places h1 has shut b fits2 place.end.0 l ∙ ap (λ (n : ℕ). shift n (rank mid place.end.0)) k1 ∙ ap (shift at0) e1 ∙ omega (arith, shift_cases at0 (suc at0))

  from_new : begin_of t2 from ≡ at0
  from_new = begin2 from has ∙ omega (arith, shift_cases at0 at0, shift_cases at0 (shift at0 at0))

  -- no place of the store begins where the new one does
  elsewhere : (p : Place) → IsPlace s p → begin_of t2 p ≢ suc at0
  elsewhere p i e = absurd (omega (arith, begin2 p i, shift_cases at0 (begin_of s p), shift_cases at0 (shift at0 (begin_of s p))))

  not_there : (p : Place) → IsPlace s p → p ≢ place
  not_there p i e = elsewhere p i (ap (begin_of t2) e ∙ begin_new)

  abbrev kept : (p : Place) → IsForked s.forks p → IsForked u.forks p
  kept p f = record { index = f.index; fork = f.fork; at = slice_get-kept s.forks row f.index f.fork f.at; place = f.place }

  place_kept : (p : Place) → IsPlace s p → IsPlace u p
  place_kept p i = elim i [ inl e ↦ inl e | inr (inl f) ↦ inr (inl (kept p f)) | inr (inr x) ↦ inr (inr x) ]

  abbrev made : IsForked u.forks place
  made = record { index = length s.forks; fork = row; at = slice_get-last s.forks row; place = refl }

  only : (p : Place) → IsPlace u p → (p ≡ place) ⊎ IsPlace s p
  only p i = elim i [
    | inl e ↦ inr (inl e)
    | inr (inr x) ↦ inr (inr (inr x))
    | inr (inl f) ↦ elim (slice_get-push s.forks row f.index f.fork f.at) [
      | inl v ↦ inr (inr (inl (record { index = f.index; fork = f.fork; at = v; place = f.place })))
      | inr v ↦ inl (sym f.place ∙ ap (λ (x : Fork). x.place) (sym v.1))
    ]
  ]

  open_kept : (p : Place) → IsOpen s.forks p → IsOpen u.forks p
  open_kept p o = record { forked = kept p o.forked; unpublished = o.unpublished }

  open_back : (p : Place) → IsOpen u.forks p → (p ≡ place) ⊎ IsOpen s.forks p
  open_back p o = elim (slice_get-push s.forks row o.forked.index o.forked.fork o.forked.at) [
    | inl v ↦ inr (record { forked = record { index = o.forked.index; fork = o.forked.fork; at = v; place = o.forked.place }; unpublished = o.unpublished })
    | inr v ↦ inl (sym o.forked.place ∙ ap (λ (x : Fork). x.place) (sym v.1))
  ]

  of_fork_s : (j : ℕ) (f : Fork) → slice_get s.forks j ≡ Some f → IsPlace s f.place
  of_fork_s j f at = inr (inl (record { index = j; fork = f; at = at; place = refl }))

  nested_u : AreNested u
  nested_u = record {
    first = h2.nested.first;
    some = h2.nested.some;
    last = h2.nested.last;
    numbered = λ j f at. elim (slice_get-push s.forks row j f at) [
      | inl v ↦ h.nested.numbered j f v
      | inr v ↦ ap (λ (x : Fork). x.place.number) (sym v.1) ∙ number ∙ sym v.0
    ];
    from = λ j f at. elim (slice_get-push s.forks row j f at) [
      | inl v ↦ place_kept f.from (h2.nested.from j f v)
      | inr v ↦ place_kept f.from (subst (λ (f : Fork). IsPlace s f.from) v.1 has)
    ];
    inside = λ j f at. elim (slice_get-push s.forks row j f at) [
      | inl v ↦ h2.nested.inside j f v
      | inr v ↦ subst (λ (f : Fork). (begin_of t2 f.from < begin_of t2 f.place) × (begin_of t2 f.place < end_of t2 f.place) × (end_of t2 f.place < end_of t2 f.from)) v.1 (
        omega (arith, begin_new, from_new),
        omega (arith, begin_new, end_new),
        (let i : end_of t2 place < end_of t2 from = end_late in i),
      )
    ];
    before = λ i j f g l x y e. elim (slice_get-push s.forks row j g y) [
      | inl w ↦ elim (slice_get-push s.forks row i f x) [
        | inl v ↦ h2.nested.before i j f g l v w e
        | inr v ↦ absurd (omega (arith, v.0, slice_get-below s.forks j g w))
      ]
      | inr w ↦ elim (slice_get-push s.forks row i f x) [
        | inl v ↦
            let same : f.from ≡ from = e ∙ ap (λ (x : Fork). x.from) (sym w.1) in
            let low : begin_of s from < begin_of s f.place = (let p = (h.nested.inside i f v).0 in let q : begin_of s f.from ≡ begin_of s from = ap (begin_of s) same in omega arith) in
            let g_end : end_of t2 g.place ≡ suc (suc at0) = ap (λ (x : Fork). end_of t2 x.place) (sym w.1) ∙ end_new in
            omega (arith, low, g_end, begin2 f.place (of_fork_s i f v), shift_cases at0 (begin_of s f.place), shift_cases at0 (shift at0 (begin_of s f.place)))
        | inr v ↦ absurd (omega (arith, v.0, w.0))
      ]
    ];
    closed = λ j f at e. elim (slice_get-push s.forks row j f at) [
      | inl v ↦ h2.nested.closed j f v e
      | inr v ↦ subst (λ (f : Fork). end_of t2 f.place ≡ suc (begin_of t2 f.place)) v.1 (omega (arith, begin_new, end_new))
    ];
    apart = λ i j f g x y e. elim (slice_get-push s.forks row i f x) [
      | inl v ↦ elim (slice_get-push s.forks row j g y) [
        | inl w ↦ h2.nested.apart i j f g v w e
        | inr w ↦ absurd (elsewhere f.place (of_fork_s i f v) (e ∙ ap (λ (x : Fork). begin_of t2 x.place) (sym w.1) ∙ begin_new))
      ]
      | inr v ↦ elim (slice_get-push s.forks row j g y) [
        | inl w ↦ absurd (elsewhere g.place (of_fork_s j g w) (sym e ∙ ap (λ (x : Fork). begin_of t2 x.place) (sym v.1) ∙ begin_new))
        | inr w ↦ v.0 ∙ sym w.0
      ]
    ];
    relics = h2.nested.relics;
    written = λ i j p f a b u e. elim (slice_get-push s.forks row j f b) [
      | inl v ↦ h2.nested.written i j p f a v u e
      | inr v ↦ elsewhere p (inr (inr (record { index = i; at = a }))) (e ∙ ap (λ (x : Fork). begin_of t2 x.place) (sym v.1) ∙ begin_new)
    ];
  }
    where
      -- the place that is forked ends behind the new one
      end_late : end_of t2 place < end_of t2 from
      end_late =
          let l : begin_of s from < end_of s from = (elim has [
            | inl e ↦ subst (λ (p : Place). begin_of s p < end_of s p) (sym e) h.nested.some
            | inr (inl f) ↦ subst (λ (p : Place). begin_of s p < end_of s p) f.place (h.nested.inside f.index f.fork f.at).1
            | inr (inr x) ↦ (h.nested.relics x.index from x.at).0
          ]) in
          omega (
            arith,
            end_new,
            l,
            end_t t1 from place.begin.0 places h1 has shut b fits2 from has,
            end_t s0 from place.end.0 mid h0 has shut a fits1 from has,
            k1,
            shift_cases (begin_of t1 from) (end_of t1 from),
            shift_cases at0 (end_of s from),
          )

  store_u : IsStore u
  store_u = record {
    valid = h.valid;
    nested = nested_u;
    rows = h2.rows;
    wide = h.wide;
    arena = h2.arena;
    born = λ i l. let p = h2.born i l in (p.0, place_kept p.0 p.1, p.2);
    versions = record {
      tree = h.versions.tree;
      root = h.versions.root;
      forked = λ v r is.
          let x = h.versions.forked v r is in
          record {
            index = x.index;
            fork = x.fork;
            at = slice_get-kept s.forks row x.index x.fork x.at;
            place = x.place;
            published =
                x.published;
            parent = x.parent;
            parent_at = x.parent_at;
            from = x.from;
          };
      apart = h.versions.apart;
      placed = λ v r is. place_kept r.place (h.versions.placed v r is);
      published = λ v r is o. elim (open_back r.place o) [
        | inl e ↦ not_there r.place (h.versions.placed v r is) e
        | inr p ↦ h.versions.published v r is p
      ];
      counted = h.versions.counted ∙ ap (λ n. n + 1) (sym (count-push s.forks row refl));
      made = omega (arith, h.versions.made, length-push s.forks row);
      calls = omega arith;
    };
    rooted = record { some = h2.rooted.some; name = h2.rooted.name; begins = h2.rooted.begins };
    bounded = h.bounded;
    few = fits2;
    spent = h.spent;
  }

  heap2 : (p : Place) → IsPlace s p → heap_at s.shape (arena t2) (begin_of t2 p) ≡ heap_at s.shape (arena s) (begin_of s p)
  heap2 p i = heap_t t1 from place.begin.0 places h1 has shut b fits2 p i ∙ heap_t s0 from place.end.0 mid h0 has shut a fits1 p i

  live2 : (p : Place) (i : ℕ) → IsPlace s p → IsLive (arena s) i (begin_of s p) → IsLive (arena t2) i (begin_of t2 p)
  live2 p i q l = live_t t1 from place.begin.0 places h1 has shut b fits2 p i q (live_t s0 from place.end.0 mid h0 has shut a fits1 p i q l)

  forked_u : Forked (state_of s) from place (state_of u)
  forked_u = record {
    grows = record { shape = refl; spent = refl; has = λ p i. place_kept p i; live = λ p r l. (place_kept p l.0, live2 p r.0 l.0 l.1); name = λ p r l. refl };
    fresh = λ i. not_there place i refl;
    has = inr (inl made);
    only = only;
    writable = record { forked = made; unpublished = refl };
    kept = open_kept;
    back = open_back;
    heap =
        ap (heap_at s.shape (arena t2)) (begin_z t1 from place.begin.0 places h1 has shut b fits2)
        ∙ heap_z t1 from place.begin.0 places h1 has shut b fits2
        ∙ heap_t s0 from place.end.0 mid h0 has shut a fits1 from has;
    heaps = heap2;
    live = λ r l. (
      inr (inl made),
      subst (λ (n : ℕ). IsLive (arena t2) r.0 n) (sym (begin_z t1 from place.begin.0 places h1 has shut b fits2))
          (live_z t1 from place.begin.0 places h1 has shut b fits2 r.0 (live_t s0 from place.end.0 mid h0 has shut a fits1 from r.0 has l.1)),
    );
    counts = refl;
    versions = refl;
    forks = map-append as_fork s.forks (row ∷ []);
    fork_calls = refl;
  }

pub fork_law : ForkLaw
fork_law s from place mid places h pub' c n a b = (store_u s from place mid places h pub'.has pub'.closed c n a b, forked_u s from place mid places h pub'.has pub'.closed c n a b)
