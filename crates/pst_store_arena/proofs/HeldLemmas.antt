-- What the root index holds.
use Rattle.std.proofs.Common.{◌≡◌, ◌≢◌, ℕ, zero, suc, ◌+◌, ◌-◌, ◌<◌, ◌≤◌, List, [], ◌∷◌, length, get_or, Some, slice_get, refl, sym, ap, ◌∙◌, subst, ⊎_elim, ◌⊎◌, inl, inr, arith}
use Rattle.std.specs.List.{Contains}
use Rattle.std.proofs.lemmas.Bool.{cases_eq, cases_lt}
use Rattle.std.proofs.lemmas.Option.{none-some, same_Some}
use Rattle.std.proofs.lemmas.List.{length-map, get_or-map, get_or_default}
use Rattle.std.proofs.lemmas.List.Edits.{length-insert, get_or-insert_below, get_or-insert_at, get_or-insert_above}
use Rattle.pst_base.specs.declared.shape.TypeShape.{TypeShape}
use Rattle.pst_base.specs.Name.{root_name}
use Rattle.pst_order.specs.Places.{rank}
use Rattle.pst_mirror.specs.Lives.{AreChained as AreChainedLives}
use Rattle.pst_nodes.specs.declared.node.Node.{Node}
use Rattle.pst_nodes.specs.Arena.{lo_at, hi_at, AreRows, lives}
use Rattle.pst_nodes.proofs.NodeLemmas.{hi_in}
use Rattle.pst_roots.specs.Roots.{AreRoots, IsLastBefore, IsAddedRoot, begins_of}
use Rattle.pst_store_meaning.specs.Arena.{Arena, IsLive}
use Rattle.pst_store_meaning.specs.Store.{Node as Seen, Noted, arena_of, AreHeld, AreAllHeld}
use Rattle.pst_store_meaning.specs.Steps.{AreSplits, IsSplitStep}
use Rattle.pst_repair.specs.Seen.{seen}
use Rattle.pst_repair.proofs.SeenLemmas.{seen_lo}
use Rattle.pst_roots.specs.declared.roots.RootIndex.{RootIndex}
use Rattle.pst_store_arena.specs.Kept.{noted_of}
use Rattle.pst_store_arena.proofs.JointLemmas.{here, there, same_frame}

-- ---- an element of a list

pub get_is : (xs : List ℕ) (k d : ℕ) → k < length xs → slice_get xs k ≡ Some (get_or xs k d)
get_is [] k d l = absurd (omega arith)
get_is (x ∷ xs) zero d l = refl
get_is (x ∷ xs) (suc k) d l = get_is xs k d (omega arith)

pub get_there : (xs : List ℕ) (k i : ℕ) → slice_get xs k ≡ Some i → k < length xs
get_there [] k i e = absurd (none-some i e)
get_there (x ∷ xs) zero i e = omega arith
get_there (x ∷ xs) (suc k) i e = omega (arith, get_there xs k i e)

pub get_or_is : (xs : List ℕ) (k d i : ℕ) → slice_get xs k ≡ Some i → get_or xs k d ≡ i
get_or_is xs k d i e = same_Some (get_or xs k d) i (sym (get_is xs k d (get_there xs k i e)) ∙ e)

-- ---- other nodes, the same held

pub held_with : (w : Arena) (old new : Noted) → new.roots ≡ old.roots → new.seen ≡ old.seen → AreHeld w old → AreHeld w new
held_with w old new roots seen h =
    subst (λ (n : ℕ). AreHeld w (record { queue = new.queue; roots = new.roots; seen = n })) (sym seen)
    (subst (λ (xs : List ℕ). AreHeld w (record { queue = new.queue; roots = xs; seen = old.seen })) (sym roots)
    (record { first = h.first; there = h.there; all = h.all; rising = h.rising; seen = h.seen }))

-- the nodes that were there have their names, and begin where they did
pub record HasOld (old new : Arena) : Type 0 where
  pub count : old.count ≤ new.count
  pub name : (i : ℕ) → i < old.count → new.name i ≡ old.name i
  pub lo : (i : ℕ) → i < old.count → new.lo i ≡ old.lo i

pub held_on : (old new : Arena) (noted : Noted) → HasOld old new → AreHeld old noted → AreHeld new noted
held_on old new noted o h =
    let at : (k : ℕ) → k < length noted.roots → get_or noted.roots k 0 < old.count = λ k l.
    let t = h.there k (get_or noted.roots k 0) (get_is noted.roots k 0 l) in
    omega (arith, t.0, h.seen) in
    record {
      first = h.first;
      there = λ k i e. let t = h.there k i e in (t.0, o.name i (omega (arith, t.0, h.seen)) ∙ t.1);
      all = λ i l e. h.all i l (sym (o.name i (omega (arith, l, h.seen))) ∙ e);
      rising = λ j k l m.
          let a : j < length noted.roots = omega (arith, l, m) in
          omega (arith, o.lo (get_or noted.roots j 0) (at j a), o.lo (get_or noted.roots k 0) (at k m), h.rising j k l m);
      seen = omega (arith, h.seen, o.count);
    }

split_old : (types : List TypeShape) (qs : List ℕ) (old new : List Seen) → IsSplitStep types qs old new → HasOld (arena_of (rank qs) old) (arena_of (rank qs) new)
split_old types qs old new s = record { count = omega (arith, s.split.life.count); name = s.split.life.name; lo = s.split.life.lo }

old_on : (a b c : Arena) → HasOld a b → HasOld b c → HasOld a c
old_on a b c p q = record {
  count = omega (arith, p.count, q.count);
  name = λ i l. q.name i (omega (arith, l, p.count)) ∙ p.name i l;
  lo = λ i l. q.lo i (omega (arith, l, p.count)) ∙ p.lo i l;
}

pub splits_old : (types : List TypeShape) (qs : List ℕ) (k : ℕ) (old new : List Seen) → AreSplits types qs k old new → HasOld (arena_of (rank qs) old) (arena_of (rank qs) new)
splits_old types qs zero old new e = subst (λ (ns : List Seen). HasOld (arena_of (rank qs) old) (arena_of (rank qs) ns)) (sym e) (record { count = omega arith; name = λ i l. refl; lo = λ i l. refl })
splits_old types qs (suc k) old new e = old_on (arena_of (rank qs) old) (arena_of (rank qs) e.0) (arena_of (rank qs) new) (split_old types qs old e.0 e.1) (splits_old types qs k e.0 new e.2)

-- ---- the index

module _ (qs : List ℕ) (ns : List Node) (noted : Noted) (rows : AreRows qs ns) (h : AreHeld (arena_of (rank qs) (seen ns)) noted) (chained : AreChainedLives (lives qs ns)) where
  abbrev w : Arena
  w = arena_of (rank qs) (seen ns)

  abbrev held : List ℕ
  held = noted.roots

  held_at : (k : ℕ) → k < length held → (get_or held k 0 < noted.seen) × (w.name (get_or held k 0) ≡ root_name)
  held_at k l = h.there k (get_or held k 0) (get_is held k 0 l)

  held_there : (k : ℕ) → k < length held → get_or held k 0 < length ns
  held_there k l = here [] qs ns (get_or held k 0) (omega (arith, (held_at k l).0, h.seen))

  held_lo : (k : ℕ) → k < length held → w.lo (get_or held k 0) ≡ rank qs (lo_at ns (get_or held k 0))
  held_lo k l = seen_lo (rank qs) ns (get_or held k 0) (held_there k l)

  begin_is : (k : ℕ) → k < length held → get_or (begins_of ns held) k 0 ≡ lo_at ns (get_or held k 0)
  begin_is k l = get_or-map (lo_at ns) held k 0 0 l

  begin_rank : (k : ℕ) → k < length held → rank qs (get_or (begins_of ns held) k 0) ≡ w.lo (get_or held k 0)
  begin_rank k l = ap (rank qs) (begin_is k l) ∙ sym (held_lo k l)

  some_held : 0 < length held
  some_held = get_there held 0 0 h.first

  first_is : get_or held 0 0 ≡ 0
  first_is = get_or_is held 0 0 0 h.first

  -- where a node begins there is a place
  pub lo_in : (i : ℕ) → i < length ns → rank qs (lo_at ns i) < length qs
  lo_in i l = omega (arith, hi_in qs ns i l rows, chained.some i l)

  pub roots_are : (at : ℕ) → w.lo 0 ≤ rank qs at → AreRoots qs ns held at
  roots_are at first = record {
    some = some_held;
    there = held_there;
    rising = record {
      within = omega (arith, length-map held (lo_at ns));
      each = λ i l m. subst (λ (p : ℕ). rank qs p < length qs) (sym (begin_is i m)) (lo_in (get_or held i 0) (held_there i m));
      rising = λ i j l m n.
          let a : i < length held = omega (arith, m, n) in
          omega (arith, begin_rank i a, begin_rank j n, h.rising i j m n);
    };
    first = omega (arith, held_lo 0 some_held, ap w.lo first_is, first);
  }

  -- the last held node before a place is live there, where the first one is
  pub last_live : (at id : ℕ) → IsLive w 0 (rank qs at) → IsLastBefore qs ns held at id → IsLive w id (rank qs at) × (w.name id ≡ root_name)
  last_live at id live last =
      let t = held_at last.index last.within in
      let l : id < length ns = subst (λ (i : ℕ). i < length ns) last.held_there (held_there last.index last.within) in
      let e : w.name id ≡ root_name = subst (λ (i : ℕ). w.name i ≡ root_name) last.held_there t.1 in
      let first : w.name 0 ≡ root_name = subst (λ (i : ℕ). w.name i ≡ root_name) first_is (held_at 0 some_held).1 in (
        record {
          there = there [] qs ns id l;
          begun = subst (λ (p : ℕ). p ≤ rank qs at) (sym (seen_lo (rank qs) ns id l)) last.early;
          covering = (live.covering.0, live.covering.1, live.covering.2 ∙ first ∙ sym e);
        },
        e,
      )

  -- ---- one node more

  -- a node of another record
  pub not_root : w.name noted.seen ≢ root_name → noted.seen < w.count → AreHeld w (record { queue = noted.queue; roots = held; seen = suc noted.seen })
  not_root ne l = record {
    first = h.first;
    there = λ k i e. let t = h.there k i e in (omega (arith, t.0), t.1);
    all = λ i m e. ⊎_elim (λ (q : i < noted.seen). h.all i q e)
        (λ (q : noted.seen ≤ i). let same : i ≡ noted.seen = omega (arith, q, m) in absurd (ne (subst (λ (j : ℕ). w.name j ≡ root_name) same e)))
        (cases_lt i noted.seen);
    rising = h.rising;
    seen = omega (arith, l);
  }

  -- a node of the root record
  module _ (root : w.name noted.seen ≡ root_name) (l : noted.seen < w.count) (new : List ℕ) (added : IsAddedRoot qs ns held new noted.seen) where
    abbrev p : ℕ
    p = suc added.before.index

    fits : p ≤ length held
    fits = omega (arith, added.before.within)

    count : length new ≡ length held + 1
    count = ap (λ (xs : List ℕ). length xs) added.held ∙ length-insert held p noted.seen fits

    below : (k : ℕ) → k < p → get_or new k 0 ≡ get_or held k 0
    below k m = ap (λ (xs : List ℕ). get_or xs k 0) added.held ∙ get_or-insert_below held p noted.seen 0 k m fits

    at_p : get_or new p 0 ≡ noted.seen
    at_p = ap (λ (xs : List ℕ). get_or xs p 0) added.held ∙ get_or-insert_at held p noted.seen 0 fits

    above : (k : ℕ) → p ≤ k → get_or new (k + 1) 0 ≡ get_or held k 0
    above k m = ap (λ (xs : List ℕ). get_or xs (k + 1) 0) added.held ∙ get_or-insert_above held p noted.seen 0 k m fits

    id_there : noted.seen < length ns
    id_there = here [] qs ns noted.seen l

    -- where a held node stands now
    moved : (k : ℕ) → k < length held → (j : ℕ) × (j < length new) × (get_or new j 0 ≡ get_or held k 0)
    moved k m = ⊎_elim
        (λ (q : k < p). (k, omega (arith, count, m), below k q))
        (λ (q : p ≤ k). (k + 1, omega (arith, count, m), above k q))
        (cases_lt k p)

    -- what stands somewhere now
    stands : (k : ℕ) → k < length new → (get_or new k 0 ≡ noted.seen) ⊎ ((j : ℕ) × (j < length held) × (get_or new k 0 ≡ get_or held j 0))
    stands k m = ⊎_elim
        (λ (q : k < p). inr (k, omega (arith, q, fits), below k q))
        (λ (q : p ≤ k). ⊎_elim
        (λ (e : k ≡ p). inl (ap (λ (i : ℕ). get_or new i 0) e ∙ at_p))
        (λ (ne : k ≡ p → ⊥).
        let j : ℕ = k - 1 in
        let is : j + 1 ≡ k = omega (arith, q) in
        let b : p ≤ j = ⊎_elim (λ (u : p < k). omega (arith, u)) (λ (u : k ≤ p). absurd (ne (omega (arith, u, q)))) (cases_lt p k) in
        inr (j, omega (arith, m, count, is), ap (λ (i : ℕ). get_or new i 0) (sym is) ∙ above j b))
        (cases_eq k p))
        (cases_lt k p)

    -- it begins behind the one before it
    apart : w.lo (get_or held added.before.index 0) < w.lo noted.seen
    apart =
        let k : ℕ = added.before.index in
        let a : ℕ = get_or held k 0 in
        let q = held_at k added.before.within in
        let la : a < length ns = held_there k added.before.within in
        let early : rank qs (lo_at ns a) ≤ rank qs (lo_at ns noted.seen) = subst (λ (i : ℕ). rank qs (lo_at ns i) ≤ rank qs (lo_at ns noted.seen)) (sym added.before.held_there) added.before.early in
        let sa : rank qs (lo_at ns a) < rank qs (hi_at ns a) = chained.some a la in
        let sb : rank qs (lo_at ns noted.seen) < rank qs (hi_at ns noted.seen) = chained.some noted.seen id_there in
        let ne : a ≡ noted.seen → ⊥ = λ e. absurd (omega (arith, q.0, e)) in
        let strictly : rank qs (lo_at ns a) < rank qs (lo_at ns noted.seen) = ⊎_elim
        (λ (u : rank qs (hi_at ns a) ≤ rank qs (lo_at ns noted.seen)). omega (arith, u, sa))
        (λ (u : rank qs (hi_at ns noted.seen) ≤ rank qs (lo_at ns a)). absurd (omega (arith, u, sb, early)))
        (chained.apart a noted.seen la id_there ne (same_frame [] qs ns a noted.seen (q.1 ∙ sym root))) in
        omega (arith, seen_lo (rank qs) ns a la, seen_lo (rank qs) ns noted.seen id_there, strictly)

    -- and before the one behind it
    behind : (k : ℕ) → p ≤ k → k < length held → w.lo noted.seen < w.lo (get_or held k 0)
    behind k m n =
        let late : rank qs (lo_at ns noted.seen) < rank qs (lo_at ns (get_or held k 0)) = added.before.late k (omega (arith, m)) n in
        omega (arith, held_lo k n, seen_lo (rank qs) ns noted.seen id_there, late)

    up_to : (k : ℕ) → k < p → w.lo (get_or new k 0) < w.lo noted.seen
    up_to k m = ⊎_elim
        (λ (q : k < added.before.index). omega (arith, ap w.lo (below k m), h.rising k added.before.index q added.before.within, apart))
        (λ (q : added.before.index ≤ k). let e : k ≡ added.before.index = omega (arith, q, m) in omega (arith, ap w.lo (below k m), ap (λ (i : ℕ). w.lo (get_or held i 0)) e, apart))
        (cases_lt k added.before.index)

    from_on : (k : ℕ) → p < k → k < length new → w.lo noted.seen < w.lo (get_or new k 0)
    from_on k m n =
        let j : ℕ = k - 1 in
        let is : j + 1 ≡ k = omega (arith, m) in
        let e : get_or new k 0 ≡ get_or held j 0 = ap (λ (i : ℕ). get_or new i 0) (sym is) ∙ above j (omega (arith, m)) in
        omega (arith, ap w.lo e, behind j (omega (arith, m)) (omega (arith, n, count, is)))

    rises : (j k : ℕ) → j < k → k < length new → w.lo (get_or new j 0) < w.lo (get_or new k 0)
    rises j k m n = ⊎_elim
        (λ (q : k < p). omega (arith, ap w.lo (below j (omega (arith, m, q))), ap w.lo (below k q), h.rising j k m (omega (arith, q, fits))))
        (λ (q : p ≤ k). ⊎_elim
        (λ (e : k ≡ p). omega (arith, ap (λ (i : ℕ). w.lo (get_or new i 0)) e, ap w.lo at_p, up_to j (omega (arith, m, e))))
        (λ (ne : k ≡ p → ⊥).
        let b : p < k = ⊎_elim (λ (u : p < k). u) (λ (u : k ≤ p). absurd (ne (omega (arith, u, q)))) (cases_lt p k) in
        ⊎_elim
        (λ (u : j < p). omega (arith, up_to j u, from_on k b n))
        (λ (u : p ≤ j). ⊎_elim
        (λ (e : j ≡ p). omega (arith, ap (λ (i : ℕ). w.lo (get_or new i 0)) e, ap w.lo at_p, from_on k b n))
        (λ (nj : j ≡ p → ⊥).
        let c : p < j = ⊎_elim (λ (v : p < j). v) (λ (v : j ≤ p). absurd (nj (omega (arith, u, v)))) (cases_lt p j) in
        let a : ℕ = j - 1 in
        let d : ℕ = k - 1 in
        let ia : a + 1 ≡ j = omega (arith, c) in
        let id : d + 1 ≡ k = omega (arith, b) in
        let ea : get_or new j 0 ≡ get_or held a 0 = ap (λ (i : ℕ). get_or new i 0) (sym ia) ∙ above a (omega (arith, c)) in
        let ed : get_or new k 0 ≡ get_or held d 0 = ap (λ (i : ℕ). get_or new i 0) (sym id) ∙ above d (omega (arith, b)) in
        omega (arith, ap w.lo ea, ap w.lo ed, h.rising a d (omega (arith, m, ia, id)) (omega (arith, n, count, id))))
        (cases_eq j p))
        (cases_lt j p))
        (cases_eq k p))
        (cases_lt k p)

    there_now : (k i : ℕ) → slice_get new k ≡ Some i → (i < suc noted.seen) × (w.name i ≡ root_name)
    there_now k i e =
        let m : k < length new = get_there new k i e in
        let is : get_or new k 0 ≡ i = get_or_is new k 0 i e in
        ⊎_elim
        (λ (q : get_or new k 0 ≡ noted.seen). let same : noted.seen ≡ i = sym q ∙ is in (omega (arith, same), subst (λ (j : ℕ). w.name j ≡ root_name) same root))
        (λ (q : (j : ℕ) × (j < length held) × (get_or new k 0 ≡ get_or held j 0)).
        let same : get_or held q.0 0 ≡ i = sym q.2 ∙ is in
        let t = held_at q.0 q.1 in
        (omega (arith, t.0, same), subst (λ (j : ℕ). w.name j ≡ root_name) same t.1))
        (stands k m)

    all_now : (i : ℕ) → i < suc noted.seen → w.name i ≡ root_name → Contains new i
    all_now i m e = ⊎_elim
        (λ (q : i < noted.seen).
        let c : Contains held i = h.all i q e in
        let t = moved c.0 c.1 in
        (t.0, t.1, get_or_default new t.0 i 0 t.1 ∙ t.2 ∙ get_or_default held c.0 0 i c.1 ∙ c.2))
        (λ (q : noted.seen ≤ i). let same : noted.seen ≡ i = omega (arith, q, m) in (p, omega (arith, count, fits), get_or_default new p i 0 (omega (arith, count, fits)) ∙ at_p ∙ same))
        (cases_lt i noted.seen)

    pub root_held : AreHeld w (record { queue = noted.queue; roots = new; seen = suc noted.seen })
    root_held = record {
      first = get_is new 0 0 (omega (arith, count)) ∙ ap Some (below 0 (omega arith) ∙ first_is);
      there = there_now;
      all = all_now;
      rising = rises;
      seen = omega (arith, l);
    }

-- every node was looked at
pub all_held : (w : Arena) (noted : Noted) → noted.seen ≡ w.count → AreHeld w noted → AreAllHeld w noted
all_held w noted e h i l n = h.all i (omega (arith, l, e)) n

-- ---- after splits

module _ (types : List TypeShape) (qs : List ℕ) (old new : List Node) (roots : RootIndex) (n : ℕ)
    (s : (k : ℕ) × AreSplits types qs k (seen old) (seen new)) (h : AreHeld (arena_of (rank qs) (seen old)) (noted_of old roots n)) where
  olds : HasOld (arena_of (rank qs) (seen old)) (arena_of (rank qs) (seen new))
  olds = splits_old types qs s.0 (seen old) (seen new) s.1

  pub repaired_held : AreHeld (arena_of (rank qs) (seen new)) (noted_of new roots n)
  repaired_held = held_with (arena_of (rank qs) (seen new)) (noted_of old roots n) (noted_of new roots n) refl refl
      (held_on (arena_of (rank qs) (seen old)) (arena_of (rank qs) (seen new)) (noted_of old roots n) olds h)

  pub repaired_first : (arena_of (rank qs) (seen old)).lo 0 ≡ 0 → (arena_of (rank qs) (seen new)).lo 0 ≡ 0
  repaired_first e = olds.lo 0 (omega (arith, (h.there 0 0 h.first).0, h.seen)) ∙ e
