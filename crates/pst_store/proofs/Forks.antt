-- The steps of a fork and of a publication.
use Rattle.std.proofs.Common.{◌≡◌, ℕ, zero, suc, ◌+◌, ◌<◌, true, false, List, [], ◌∷◌, ◌++◌, length, Option, Some, None, get_or, refl, sym, ap, ◌∙◌, subst, inl, inr, arith}
use Rattle.std.proofs.Math.ListN.{set}
use Rattle.std.specs.Prelude.{slice_get, IfSome}
use Rattle.std.specs.Option.{option_map}
use Rattle.std.proofs.lemmas.Option.{slice_get-get_or}
use Rattle.pst_base.specs.declared.names.RunNo.{RunNo}
use Rattle.pst_base.specs.declared.names.VersionNo.{VersionNo}
use Rattle.pst_versions.specs.declared.rows.VersionRow.{VersionRow}
use Rattle.pst_versions.specs.declared.versioned.TheConstants.{MOST_FORKS}
use Rattle.pst_versions.specs.State.{ForkRow, IsPublished, Forked, ForkRefused, IsOpenFork, Published, Unchanged, WritesStay}
use Rattle.pst_versions.proofs.StateLemmas.{Keeps_refl, WritesStay_refl}
use Rattle.pst_order.specs.Places.{IsIn, IsInsertedAfter}
use Rattle.pst_order.proofs.RankLemmas.{ranks_law}
use Rattle.pst_store_meaning.specs.declared.place.Place.{Place}
use Rattle.pst_store_meaning.specs.declared.place.Fork.{Fork}
use Rattle.pst_store_meaning.specs.Store.{Stored, AreHeld, IsPlace, as_fork, state_of, IsStore}
use Rattle.pst_store_meaning.specs.Steps.{IsNewPlace, forked, published}
use Rattle.pst_store_meaning.proofs.Places.{in_list, slice_get-below, slice_get-map, count-le}
use Rattle.pst_store_meaning.proofs.Forking.{fork_law, fork_refused_law, fork_broken_law}
use Rattle.pst_store_meaning.proofs.Publishing.{publish_law}
use Rattle.pst_store_arena.specs.Calls.{arena_at}
use Rattle.pst_store.specs.Calls.{IsKept, IsOneInAtMost, IsPlaceIn}
use Rattle.pst_store.proofs.Held.{held_inserted}

new_place : (old new : List ℕ) (p z : ℕ) → IsIn old p → IsInsertedAfter old new p z → IsNewPlace old new p z
new_place old new p z i n = record { there = i.there; fresh = n.fresh; list = n.list }

-- a place is still there once another one came in
pub in_after : (old new : List ℕ) (p z : ℕ) → IsIn old p → IsInsertedAfter old new p z → IsIn new p
in_after old new p z i n = record { there = (ranks_law old new p z i.there n).stays p i.there }

pub after_few : (old new : List ℕ) (p z n : ℕ) → IsIn old p → IsInsertedAfter old new p z → length old + 1 < n → length new < n
after_few old new p z n i c l = omega (arith, l, (ranks_law old new p z i.there c).count)

-- the store with other places and forks, and the call counted
abbrev pub called : Stored → List ℕ → List Fork → Stored
called s places forks = record s { places = places; forks = forks; calls = s.calls + 1 }

module _ (s g : Stored) (from : Place) (e : s ≡ g) (k : IsKept s) (p : IsPublished (state_of g) from) (few : (state_of g).fork_calls < MOST_FORKS) where
  here : IsPublished (state_of s) from
  here = subst (λ (g : Stored). IsPublished (state_of g) from) (sym e) p

  below : s.calls < MOST_FORKS
  below = subst (λ (g : Stored). (state_of g).fork_calls < MOST_FORKS) (sym e) few

  pub fork_there : IsIn s.places from.begin.0
  fork_there = record { there = in_list s k.store.nested from here.has }

  -- there is room in the order for a second place after a first one
  pub fork_few : length s.places + 1 < 1073741824
  fork_few = omega (arith, k.store.few, k.store.spent, below)

  -- nothing came in
  pub refused_kept : (places : List ℕ) (forks : List Fork) → places ≡ s.places → forks ≡ s.forks → IsKept (called s places forks)
  refused_kept places forks a b = subst (λ (ps : List ℕ). IsKept (called s ps forks)) (sym a) (subst (λ (fs : List Fork). IsKept (called s s.places fs)) (sym b)
      (record { store = (fork_refused_law s k.store below).0; waiting = k.waiting; held = k.held; counted = k.counted }))

  pub refused_done : (places : List ℕ) (forks : List Fork) → places ≡ s.places → forks ≡ s.forks → ForkRefused (state_of g) (state_of (called s places forks))
  refused_done places forks a b = subst (λ (g : Stored). ForkRefused (state_of g) (state_of (called s places forks))) e
      (subst (λ (ps : List ℕ). ForkRefused (state_of s) (state_of (called s ps forks))) (sym a)
      (subst (λ (fs : List Fork). ForkRefused (state_of s) (state_of (called s s.places fs))) (sym b) (fork_refused_law s k.store below).1))

  module _ (mid : List ℕ) (z : ℕ) (c : IsInsertedAfter s.places mid from.begin.0 z) where
    a : IsNewPlace s.places mid from.begin.0 z
    a = new_place s.places mid from.begin.0 z fork_there c

    broken : IsStore (called s mid s.forks) × ForkRefused (state_of s) (state_of (called s mid s.forks))
    broken = fork_broken_law s from z mid k.store here below a

    mid_held : AreHeld (arena_at mid s.nodes) s.noted
    mid_held = held_inserted s.places mid s.nodes from.begin.0 z s.noted k.store.rows a k.held

    -- one place came in
    broken_kept : (forks : List Fork) → forks ≡ s.forks → IsKept (called s mid forks)
    broken_kept forks b = subst (λ (fs : List Fork). IsKept (called s mid fs)) (sym b) (record { store = broken.0; waiting = k.waiting; held = mid_held; counted = k.counted })

    broken_done : (forks : List Fork) → forks ≡ s.forks → ForkRefused (state_of g) (state_of (called s mid forks))
    broken_done forks b = subst (λ (g : Stored). ForkRefused (state_of g) (state_of (called s mid forks))) e
        (subst (λ (fs : List Fork). ForkRefused (state_of s) (state_of (called s mid fs))) (sym b) broken.1)

  pub stopped_kept : (places : List ℕ) (forks : List Fork) → IsOneInAtMost s.places places from.begin.0 → forks ≡ s.forks → IsKept (called s places forks)
  stopped_kept places forks i b = elim i [
    | inl e ↦ refused_kept places forks e b
    | inr z ↦ broken_kept places z.0 z.1 forks b
  ]

  pub stopped_done : (places : List ℕ) (forks : List Fork) → IsOneInAtMost s.places places from.begin.0 → forks ≡ s.forks → ForkRefused (state_of g) (state_of (called s places forks))
  stopped_done places forks i b = elim i [
    | inl e ↦ refused_done places forks e b
    | inr z ↦ broken_done places z.0 z.1 forks b
  ]

  module _ (places : List ℕ) (n : ℕ) (place : Place) (i : IsPlaceIn s.places places from.begin.0 n place) (count : n ≡ length s.forks) (forks forks' : List Fork) where
    abbrev row : Fork
    row = record { place = place; from = from; published = false }

    first : IsNewPlace s.places i.mid from.begin.0 place.end.0
    first = a i.mid place.end.0 i.end_in

    second : IsNewPlace i.mid places from.begin.0 place.begin.0
    second = new_place i.mid places from.begin.0 place.begin.0 (in_after s.places i.mid from.begin.0 place.end.0 fork_there i.end_in) i.begin_in

    both_held : AreHeld (arena_at places s.nodes) s.noted
    both_held = held_inserted i.mid places s.nodes from.begin.0 place.begin.0 s.noted (broken i.mid place.end.0 i.end_in).0.rows second (mid_held i.mid place.end.0 i.end_in)

    both : IsStore (forked s from place places) × Forked (state_of s) from place (state_of (forked s from place places))
    both = fork_law s from place i.mid places k.store here below (i.number ∙ count) first second

    pub forked_kept : forks' ≡ forks ++ row ∷ [] → forks ≡ s.forks → IsKept (called s places forks')
    forked_kept x w = subst (λ (fs : List Fork). IsKept (called s places fs)) (sym (x ∙ ap (λ fs. fs ++ row ∷ []) w))
        (record { store = both.0; waiting = k.waiting; held = both_held; counted = k.counted })

    pub forked_done : forks' ≡ forks ++ row ∷ [] → forks ≡ s.forks → Forked (state_of g) from place (state_of (called s places forks'))
    forked_done x w = subst (λ (g : Stored). Forked (state_of g) from place (state_of (called s places forks'))) e
        (subst (λ (fs : List Fork). Forked (state_of s) from place (state_of (called s places fs))) (sym (x ∙ ap (λ fs. fs ++ row ∷ []) w)) both.1)

-- ---- a publication

-- the fork that is published
pub record IsNext (s : Stored) (parent : VersionNo) (at : Place) : Type 0 where
  pub fork : Fork
  pub stands : slice_get s.forks at.number ≡ Some fork
  pub place : fork.place ≡ at
  pub open_still : fork.published ≡ false
  pub origin : option_map (λ (row : VersionRow Place). row.place) (slice_get s.versions parent.0) ≡ Some fork.from

module _ (s g : Stored) (parent : VersionNo) (run : RunNo) (at : Place) (e : s ≡ g) (k : IsKept s) (there : parent.0 < length (state_of g).versions)
    (is_fork : IfSome (slice_get (state_of g).versions parent.0) (λ row. IsOpenFork (state_of g) at row.place)) where
  pub publish_there : parent.0 < length s.versions
  publish_there = subst (λ (g : Stored). parent.0 < length (state_of g).versions) (sym e) there

  pub publish_few : length s.versions < 4294967295
  publish_few = omega (arith, k.store.versions.counted, count-le s.forks, k.store.versions.made, k.store.versions.calls)

  -- the row of the parent, at whose place the fork was made
  parent_row : (row : VersionRow Place) × (slice_get s.versions parent.0 ≡ Some row) × IsOpenFork (state_of s) at row.place
  parent_row =
      let f : IfSome (slice_get s.versions parent.0) (λ row. IsOpenFork (state_of s) at row.place) =
      subst (λ (g : Stored). IfSome (slice_get (state_of g).versions parent.0) (λ row. IsOpenFork (state_of g) at row.place)) (sym e) is_fork in
      elim (slice_get s.versions parent.0) as (λ (r : Option (VersionRow Place)). slice_get s.versions parent.0 ≡ r
      → IfSome r (λ row. IsOpenFork (state_of s) at row.place) → (row : VersionRow Place) × (slice_get s.versions parent.0 ≡ Some row)
      × IsOpenFork (state_of s) at row.place) [
        | None ↦ λ is h. absurd (none_late s.versions parent.0 is publish_there)
        | Some row ↦ λ is h. (row, is, h)
      ] refl f
    where
      none_late : {A : Type 0} (xs : List A) (i : ℕ) → slice_get xs i ≡ None → i < length xs → ⊥
      none_late [] i e l = absurd (omega arith)
      none_late (x ∷ xs) zero e l = absurd (cc)
      none_late (x ∷ xs) (suc i) e l = none_late xs i e (omega arith)

  pub next : IsNext s parent at
  next =
      let o = parent_row in
      let x = slice_get-map as_fork s.forks o.2.index _ o.2.row in
      let number : at.number ≡ o.2.index = ap (λ (row : ForkRow Place). row.place.number) (sym x.2) ∙ k.store.nested.numbered o.2.index x.0 x.1 in
      record {
        fork = x.0;
        stands = ap (slice_get s.forks) number ∙ x.1;
        place = ap (λ (row : ForkRow Place). row.place) x.2;
        open_still = ap (λ (row : ForkRow Place). row.published) x.2;
        origin = ap (option_map (λ (row : VersionRow Place). row.place)) o.1 ∙ ap (λ (row : ForkRow Place). Some row.from) (sym x.2);
      }

  -- the place is one of the store's
  pub publish_place : IsPlace g at
  publish_place = subst (λ (g : Stored). IsPlace g at) e (inr (inl (record { index = at.number; fork = next.fork; at = next.stands; place = next.place })))

  pub publish_index : at.number < length s.forks
  publish_index = slice_get-below s.forks at.number next.fork next.stands

  module _ (f : Fork) (versions : List (VersionRow Place)) (forks : List Fork) (read : f ≡ get_or s.forks at.number f)
      (more : versions ≡ s.versions ++ record { parent = parent; run = run; place = at } ∷ [])
      (marked : forks ≡ set s.forks at.number (record f { published = true })) where
    same : f ≡ next.fork
    same = (let a : slice_get s.forks at.number ≡ Some f = slice_get-get_or s.forks at.number f publish_index ∙ ap (λ (f : Fork). Some f) (sym read) in let b = next.stands in cc)

    stands_f : slice_get s.forks at.number ≡ Some f
    stands_f = next.stands ∙ ap (λ (f : Fork). Some f) (sym same)

    next_both : IsStore (published s parent run at at.number f) × Published (state_of s) parent run at (record { 0 = length s.versions }) (state_of (published s parent run at at.number f))
    next_both = publish_law s parent run at at.number f k.store (next.origin ∙ ap (λ (f : Fork). Some f.from) (sym same)) stands_f
        (ap (λ (f : Fork). f.place) same ∙ next.place) (ap (λ (f : Fork). f.published) same ∙ next.open_still)

    pub published_kept : IsKept (record s { versions = versions; forks = forks })
    published_kept = subst (λ (fs : List Fork). IsKept (record s { versions = versions; forks = fs })) (sym marked)
        (subst (λ (vs : List (VersionRow Place)). IsKept (record s { versions = vs; forks = set s.forks at.number (record f { published = true }) }))
        (sym more) (record { store = next_both.0; waiting = k.waiting; held = k.held; counted = k.counted }))

    pub published_done : (n : ℕ) → n ≡ length s.versions → Published (state_of g) parent run at (record { 0 = n }) (state_of (record s { versions = versions; forks = forks }))
    published_done n count = subst (λ (g : Stored). Published (state_of g) parent run at (record { 0 = n }) (state_of (record s { versions = versions; forks = forks }))) e
        (subst (λ (fs : List Fork). Published (state_of s) parent run at (record { 0 = n }) (state_of (record s { versions = versions; forks = fs }))) (sym marked)
        (subst (λ (vs : List (VersionRow Place)). Published (state_of s) parent run at (record { 0 = n })
        (state_of (record s { versions = vs; forks = set s.forks at.number (record f { published = true }) }))) (sym more)
        (subst (λ (n : ℕ). Published (state_of s) parent run at (record { 0 = n }) (state_of (published s parent run at at.number f))) (sym count) next_both.1)))

-- a publication that was refused
pub unpublished : (s g : Stored) (versions : List (VersionRow Place)) → s ≡ g → versions ≡ s.versions
    → Unchanged (state_of g) (state_of (record s { versions = versions })) × WritesStay (state_of g) (state_of (record s { versions = versions }))
unpublished s g versions e same = subst (λ (g : Stored). Unchanged (state_of g) (state_of (record s { versions = versions })) × WritesStay (state_of g) (state_of (record s { versions = versions }))) e
    (subst (λ (vs : List (VersionRow Place)). Unchanged (state_of s) (state_of (record s { versions = vs })) × WritesStay (state_of s) (state_of (record s { versions = vs }))) (sym same)
    (record { keeps = Keeps_refl (state_of s); heaps = λ p i. refl; counts = refl }, WritesStay_refl (state_of s)))
