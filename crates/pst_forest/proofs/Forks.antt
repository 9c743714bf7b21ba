-- What a fork does to a forest.
use Rattle.std.proofs.Common.{◌≡◌, ℕ, ◌+◌, ◌-◌, ◌<◌, ◌≤◌, true, false, List, [], ◌∷◌, ◌++◌, length, length-append, Option, Some, None, suc, zero, refl, ap, sym, ◌∙◌, subst, arith, inl, inr, ◌⊎◌}
use Rattle.std.specs.Prelude.{slice_get, unwrap_or, IsSomeAnd, map}
use Rattle.std.proofs.lemmas.Option.{slice_get_within}
use Rattle.std.proofs.Common.{ltb}
use borrow.Author.Tests.{ltb-true, ltb-false}
use Rattle.std.proofs.lemmas.List.{map-append}
use Rattle.std.proofs.Common.{cond}
use Rattle.std.proofs.Math.ListN.{set}
use Rattle.std.specs.FinMap.{empty}
use Rattle.pst_base.specs.Heap.{Heap, OrdinaryHeap, type_in}
use Rattle.pst_base.specs.Heap as plain
use Rattle.pst_versions.specs.State.{ForkRow, Forked, IsVersioned, IsOpenFork}
use Rattle.pst_versions.specs.declared.versioned.TheConstants.{MOST_FORKS}
use Rattle.pst_forest.specs.declared.place.PlaceNo.{PlaceNo}
use Rattle.pst_forest.specs.declared.place.Fork.{Fork}
use Rattle.pst_forest.specs.Forest.{published_count, ForestOf, heap_at, IsOpen, as_fork, state_of, IsForest}
use Rattle.pst_forest.proofs.Edited.{heap_at_is}

pub slice_get-front : {A : Type 0} (xs ys : List A) (k : ℕ) → k < length xs → slice_get (xs ++ ys) k ≡ slice_get xs k
slice_get-front [] ys k l = absurd (omega arith)
slice_get-front (x ∷ xs) ys zero l = refl
slice_get-front (x ∷ xs) ys (suc k) l = slice_get-front xs ys k (omega arith)

slice_get-last : {A : Type 0} (xs : List A) (y : A) → slice_get (xs ++ y ∷ []) (length xs) ≡ Some y
slice_get-last [] y = refl
slice_get-last (x ∷ xs) y = slice_get-last xs y

pub slice_get-push : {A : Type 0} (xs : List A) (y : A) (k : ℕ) (z : A) → slice_get (xs ++ y ∷ []) k ≡ Some z → (slice_get xs k ≡ Some z) ⊎ ((k ≡ length xs) × (y ≡ z))
slice_get-push [] y zero z e = inr (refl, cc)
slice_get-push [] y (suc k) z e = absurd (cc)
slice_get-push (x ∷ xs) y zero z e = inl e
slice_get-push (x ∷ xs) y (suc k) z e = elim (slice_get-push xs y k z e) [ inl a ↦ inl a | inr b ↦ inr (ap suc b.0, b.1) ]

pub length_push : {A : Type 0} (xs : List A) (y : A) → length (xs ++ y ∷ []) ≡ length xs + 1
length_push xs y = length-append xs (y ∷ [])

-- ---- how many forks are published

count-push : (xs : List Fork) (y : Fork) → y.published ≡ false → published_count (xs ++ y ∷ []) ≡ published_count xs
count-push [] y e = rw e refl
count-push (x ∷ xs) y e = ap (λ n. cond x.published 1 0 + n) (count-push xs y e)

pub count-le : (xs : List Fork) → published_count xs ≤ length xs
count-le [] = omega arith
count-le (x ∷ xs) = elim x.published as (λ b. cond b 1 0 + published_count xs ≤ length (x ∷ xs)) [ true ↦ omega (arith, count-le xs) | false ↦ omega (arith, count-le xs) ]

pub count-set : (xs : List Fork) (i : ℕ) (old new : Fork) → slice_get xs i ≡ Some old → old.published ≡ false → new.published ≡ true → published_count (set xs i new) ≡ published_count xs + 1
count-set [] i old new at a b = absurd (cc)
count-set (x ∷ xs) zero old new at a b =
    let same : x.published ≡ false = (let e : x ≡ old = cc in ap (λ (k : Fork). k.published) e ∙ a) in
    ap (λ c. cond c 1 0 + published_count xs) b ∙ (let e : 1 + published_count xs ≡ (0 + published_count xs) + 1 = omega arith in e) ∙ ap (λ c. (cond c 1 0 + published_count xs) + 1) (sym same)
count-set (x ∷ xs) (suc i) old new at a b = ap (λ n. cond x.published 1 0 + n) (count-set xs i old new at a b)
    ∙ (let e : cond x.published 1 0 + (published_count xs + 1) ≡ (cond x.published 1 0 + published_count xs) + 1 = omega arith in e)

-- a call of `fork` is counted
pub IsForest-called : (f : ForestOf) (forks : List Fork) → forks ≡ f.forks → IsForest f → f.calls < MOST_FORKS → IsForest (record f { forks = forks; calls = f.calls + 1 })
IsForest-called f forks e w l = rw e (record {
  heaps = w.heaps;
  places = w.places;
  numbered = w.numbered;
  closed = w.closed;
  few = omega (arith, w.few);
  counted = w.counted;
  made = omega (arith, w.made);
  calls = omega arith;
})

pub IsForest-called_push : (f : ForestOf) (heaps : List OrdinaryHeap) (forks : List Fork) → heaps ≡ f.heaps → forks ≡ f.forks → IsForest f
    → f.calls < MOST_FORKS → IsForest (record f { heaps = heaps; forks = forks; calls = f.calls + 1 })
IsForest-called_push f heaps forks a b w l = subst (λ (hs : List OrdinaryHeap). IsForest (record f { heaps = hs; forks = forks; calls = f.calls + 1 })) (sym a) (IsForest-called f forks b w l)

abbrev pub forked : ForestOf → PlaceNo → OrdinaryHeap → ForestOf
forked f from o = record f { heaps = f.heaps ++ o ∷ []; forks = f.forks ++ record { place = record { 0 = length f.heaps }; from = from; published = false } ∷ []; calls = f.calls + 1 }

heap_at-front : (f : ForestOf) (from : PlaceNo) (o : OrdinaryHeap) (p : PlaceNo) → p.0 < length f.heaps → heap_at (forked f from o).heaps p ≡ heap_at f.heaps p
heap_at-front f from o p l = ap (λ (h : Option OrdinaryHeap). (unwrap_or h (record { shape = []; heap = empty })).heap) (slice_get-front f.heaps (o ∷ []) p.0 l)

heap_at-last : (f : ForestOf) (from : PlaceNo) (o : OrdinaryHeap) → heap_at (forked f from o).heaps (record { 0 = length f.heaps }) ≡ o.heap
heap_at-last f from o = ap (λ (h : Option OrdinaryHeap). (unwrap_or h (record { shape = []; heap = empty })).heap) (slice_get-last f.heaps o)

same_place : (p : PlaceNo) (n : ℕ) → p.0 ≡ n → p ≡ record { 0 = n }
same_place p n e = ap (λ (n : ℕ). record { 0 = n }) e

-- what is open after a fork
open_back : (forks : List Fork) (fork : Fork) (p : PlaceNo) → IsOpen (forks ++ fork ∷ []) p → (p.0 ≡ length forks + 1) ⊎ IsOpen forks p
open_back forks fork p o =
    elim (slice_get (forks ++ fork ∷ []) (p.0 - 1)) as (λ (r : Option Fork). slice_get (forks ++ fork ∷ []) (p.0 - 1) ≡ r
    → IsSomeAnd r (λ k. k.published ≡ false) → (p.0 ≡ length forks + 1) ⊎ IsOpen forks p) [
      | None ↦ λ e h. absurd h
      | Some k ↦ λ e h. elim (slice_get-push forks fork (p.0 - 1) k e) [
        | inl a ↦ inr (o.0, subst (λ (r : Option Fork). IsSomeAnd r (λ k. k.published ≡ false)) (sym a) h)
        | inr b ↦ inl (let last : p.0 - 1 ≡ length forks = b.0 in omega (arith, o.0))
      ]
    ] refl o.1

open_kept : (forks : List Fork) (fork : Fork) (p : PlaceNo) → IsOpen forks p → IsOpen (forks ++ fork ∷ []) p
open_kept forks fork p o =
    elim (slice_get forks (p.0 - 1)) as (λ (r : Option Fork). slice_get forks (p.0 - 1) ≡ r → IsSomeAnd r (λ k. k.published ≡ false) → IsOpen (forks ++ fork ∷ []) p) [
      | None ↦ λ e h. absurd h
      | Some k ↦ λ e h. (o.0, subst (λ (r : Option Fork). IsSomeAnd r (λ k. k.published ≡ false)) (sym (slice_get-front forks (fork ∷ []) (p.0 - 1) (slice_get_within forks (p.0 - 1) k e) ∙ e)) h)
    ] refl o.1

pub IsForest-forked : (f : ForestOf) (from : PlaceNo) (o : OrdinaryHeap) → IsForest f → f.calls < MOST_FORKS → plain.IsOrdinary o → o.shape ≡ f.shape → IsForest (forked f from o)
IsForest-forked f from o w l s e = record {
  heaps = λ k h is. elim (slice_get-push f.heaps o k h is) [
    | inl a ↦ w.heaps k h a
    | inr b ↦ subst (λ (h : OrdinaryHeap). plain.IsOrdinary h × (h.shape ≡ f.shape)) b.1 (s, e)
  ];
  places = omega (arith, w.places, length_push f.heaps o, length_push f.forks (record { place = record { 0 = length f.heaps }; from = from; published = false }));
  numbered = λ k fork is. elim (slice_get-push f.forks (record { place = record { 0 = length f.heaps }; from = from; published = false }) k fork is) [
    | inl a ↦ w.numbered k fork a
    | inr b ↦ subst (λ (fork : Fork). fork.place.0 ≡ k + 1) b.1 (omega (arith, w.places, b.0))
  ];
  closed = λ v row is. (
    omega (arith, (w.closed v row is).0, length_push f.heaps o),
    λ open_now. elim (open_back f.forks _ row.place open_now) [
      | inl a ↦ omega (arith, (w.closed v row is).0, w.places, a)
      | inr b ↦ (w.closed v row is).1 b
    ],
  );
  few = omega (arith, w.few);
  counted = w.counted ∙ ap (λ n. n + 1) (sym (count-push f.forks (record { place = record { 0 = length f.heaps }; from = from; published = false }) refl));
  made = omega (arith, w.made, length_push f.forks (record { place = record { 0 = length f.heaps }; from = from; published = false }));
  calls = omega arith;
}

-- ---- the relation of the trait

pub Forked-forked : (f g : ForestOf) (from : PlaceNo) (o : OrdinaryHeap) → f ≡ g → IsForest f → slice_get f.heaps from.0 ≡ Some o
    → Forked (state_of g) from (record { 0 = length f.heaps }) (state_of (forked f from o))
Forked-forked f g from o e w is = subst (λ (g : ForestOf). Forked (state_of g) from (record { 0 = length f.heaps }) (state_of (forked f from o))) e (record {
  grows = record {
    shape = refl;
    spent = refl;
    has = λ p h. omega (arith, length_push f.heaps o, h);
    live = λ p r v. (omega (arith, length_push f.heaps o, v.0), ap (λ (h : Heap). type_in h r.name) (heap_at-front f from o p v.0) ∙ v.1);
    name = λ p r v. refl;
  };
  fresh = λ h. omega (arith, h);
  has = omega (arith, length_push f.heaps o);
  only = λ p h. less_or_last p h;
  writable = (omega (arith, w.places), subst (λ (r : Option Fork). IsSomeAnd r (λ k. k.published ≡ false)) (sym last_fork) refl);
  kept = λ p h. open_kept f.forks _ p h;
  back = λ p h. elim (open_back f.forks _ p h) [ inl a ↦ inl (same_place p (length f.heaps) (omega (arith, w.places, a))) | inr b ↦ inr b ];
  heap = heap_at-last f from o ∙ sym (heap_at_is f from o is);
  heaps = λ p h. heap_at-front f from o p h;
  live = λ r v. (omega (arith, length_push f.heaps o), ap (λ (h : Heap). type_in h r.name) (heap_at-last f from o ∙ sym (heap_at_is f from o is)) ∙ v.1);
  counts = refl;
  versions = refl;
  forks = map-append _ f.forks _;
  fork_calls = refl;
})
  where
    less_or_last : (p : PlaceNo) → p.0 < length (forked f from o).heaps → (p ≡ record { 0 = length f.heaps }) ⊎ (p.0 < length f.heaps)
    less_or_last p h = elim (ltb p.0 (length f.heaps)) as (λ b. ltb p.0 (length f.heaps) ≡ b → (p ≡ record { 0 = length f.heaps }) ⊎ (p.0 < length f.heaps)) [
      | true ↦ λ x. inr (ltb-true p.0 (length f.heaps) x)
      | false ↦ λ x. inl (same_place p (length f.heaps) (let l : length f.heaps ≤ p.0 = ltb-false p.0 (length f.heaps) x in omega (arith, length_push f.heaps o)))
    ] refl

    last_fork : slice_get (forked f from o).forks (length f.heaps - 1) ≡ Some (record { place = record { 0 = length f.heaps }; from = from; published = false })
    last_fork = ap (slice_get (forked f from o).forks) (let e : length f.heaps - 1 ≡ length f.forks = omega (arith, w.places) in e) ∙ slice_get-last f.forks _

-- ---- as the code makes it

pub forked_is : (f : ForestOf) (from : PlaceNo) (o : OrdinaryHeap) (n : ℕ) (heaps : List OrdinaryHeap) (forks : List Fork) → n ≡ length f.heaps
    → heaps ≡ f.heaps ++ o ∷ [] → forks ≡ f.forks ++ record { place = record { 0 = n }; from = from; published = false } ∷ []
    → record f { heaps = heaps; forks = forks; calls = f.calls + 1 } ≡ forked f from o
forked_is f from o n heaps forks e a b =
    ap (λ (hs : List OrdinaryHeap). record f { heaps = hs; forks = forks; calls = f.calls + 1 }) a
    ∙ ap (λ (ks : List Fork). record f { heaps = f.heaps ++ o ∷ []; forks = ks; calls = f.calls + 1 })
    (b ∙ ap (λ (n : ℕ). f.forks ++ record { place = record { 0 = n }; from = from; published = false } ∷ []) e)

pub IsForest-made : (f : ForestOf) (from : PlaceNo) (o : OrdinaryHeap) (n : ℕ) (heaps : List OrdinaryHeap) (forks : List Fork) → n ≡ length f.heaps
    → heaps ≡ f.heaps ++ o ∷ [] → forks ≡ f.forks ++ record { place = record { 0 = n }; from = from; published = false } ∷ []
    → IsForest f → f.calls < MOST_FORKS → plain.IsOrdinary o → o.shape ≡ f.shape → IsForest (record f { heaps = heaps; forks = forks; calls = f.calls + 1 })
IsForest-made f from o n heaps forks e a b w l s sh = subst IsForest (sym (forked_is f from o n heaps forks e a b)) (IsForest-forked f from o w l s sh)

pub Forked-made : (f g : ForestOf) (from : PlaceNo) (o : OrdinaryHeap) (n : ℕ) (heaps : List OrdinaryHeap) (forks : List Fork) → n ≡ length f.heaps
    → heaps ≡ f.heaps ++ o ∷ [] → forks ≡ f.forks ++ record { place = record { 0 = n }; from = from; published = false } ∷ []
    → f ≡ g → IsForest f → slice_get f.heaps from.0 ≡ Some o → Forked (state_of g) from (record { 0 = n }) (state_of (record f { heaps = heaps; forks = forks; calls = f.calls + 1 }))
Forked-made f g from o n heaps forks e a b fg w is =
    subst (λ (h : ForestOf). Forked (state_of g) from (record { 0 = n }) (state_of h)) (sym (forked_is f from o n heaps forks e a b))
    (subst (λ (n : ℕ). Forked (state_of g) from (record { 0 = n }) (state_of (forked f from o))) (sym e) (Forked-forked f g from o fg w is))

pub calls_below : (f g : ForestOf) → f ≡ g → g.calls < MOST_FORKS → f.calls < MOST_FORKS
calls_below f g e l = subst (λ (f : ForestOf). f.calls < MOST_FORKS) (sym e) l

-- ---- versions

pub slice_get-map : {A B : Type 0} (f : A → B) (xs : List A) (k : ℕ) (z : B) → slice_get (map f xs) k ≡ Some z → (x : A) × (slice_get xs k ≡ Some x) × (f x ≡ z)
slice_get-map f [] k z e = absurd (cc)
slice_get-map f (x ∷ xs) zero z e = (x, refl, cc)
slice_get-map f (x ∷ xs) (suc k) z e = slice_get-map f xs k z e

slice_get-map_to : {A B : Type 0} (f : A → B) (xs : List A) (k : ℕ) (x : A) → slice_get xs k ≡ Some x → slice_get (map f xs) k ≡ Some (f x)
slice_get-map_to f [] k x e = absurd (cc)
slice_get-map_to f (y ∷ xs) zero x e = (let same : y ≡ x = cc in ap (λ y. Some (f y)) same)
slice_get-map_to f (y ∷ xs) (suc k) x e = slice_get-map_to f xs k x e

-- the row of an unpublished fork, as the traits have it
pub row_at : (f : ForestOf) → IsForest f → (p : PlaceNo) (k : Fork) → 0 < p.0 → slice_get f.forks (p.0 - 1) ≡ Some k → k.published ≡ false
    → slice_get (state_of f).forks (p.0 - 1) ≡ Some (record { place = p; from = k.from; published = false })
row_at f w p k above e h =
    let place : k.place ≡ p = same_place k.place p.0 (w.numbered (p.0 - 1) k e ∙ (let one : (p.0 - 1) + 1 ≡ p.0 = omega (arith, above) in one)) in
    slice_get-map_to as_fork f.forks (p.0 - 1) k e ∙ λ i. Some (record { place = place i; from = k.from; published = h i })

-- a place that can be written has a fork that is not published
open_fork : (f : ForestOf) → IsForest f → (p : PlaceNo) → IsOpen f.forks p → (from : PlaceNo) × IsOpenFork (state_of f) p from
open_fork f w p o =
    elim (slice_get f.forks (p.0 - 1)) as (λ (r : Option Fork). slice_get f.forks (p.0 - 1) ≡ r → IsSomeAnd r (λ k. k.published ≡ false) → (from : PlaceNo) × IsOpenFork (state_of f) p from) [
      | None ↦ λ e h. absurd h
      | Some k ↦ λ e h. (k.from, record { index = p.0 - 1; row = row_at f w p k o.0 e h })
    ] refl o.1

-- and the other way round
pub fork_open : (f : ForestOf) → IsForest f → (p from : PlaceNo) → IsOpenFork (state_of f) p from → IsOpen f.forks p
fork_open f w p from o =
    let x = slice_get-map as_fork f.forks o.index (record { place = p; from = from; published = false }) o.row in
    let place : x.0.place ≡ p = ap (λ (row : ForkRow PlaceNo). row.place) x.2 in
    let number : p.0 ≡ o.index + 1 = ap (λ (p : PlaceNo). p.0) (sym place) ∙ w.numbered o.index x.0 x.1 in
    let index : p.0 - 1 ≡ o.index = omega (arith, number) in (
      omega (arith, number),
      subst (λ (r : Option Fork). IsSomeAnd r (λ k. k.published ≡ false)) (sym (ap (slice_get f.forks) index ∙ x.1)) (ap (λ (row : ForkRow PlaceNo). row.published) x.2),
    )

-- the place of a fork, by its index
fork_at : (f : ForestOf) → IsForest f → (i : ℕ) (row : ForkRow PlaceNo) → slice_get (state_of f).forks i ≡ Some row → (row.place.0 ≡ i + 1) × (i < length f.forks)
fork_at f w i row e =
    let x = slice_get-map as_fork f.forks i row e in
    (ap (λ (r : ForkRow PlaceNo). r.place.0) (sym x.2) ∙ w.numbered i x.0 x.1, slice_get_within f.forks i x.0 x.1)

pub IsVersioned_forest : (f : ForestOf) → IsForest f → IsVersioned (state_of f)
IsVersioned_forest f w = record {
  places = λ v row is. record { has = (w.closed v row is).0; closed = (w.closed v row is).1 };
  unpublished = λ p o. open_fork f w p o;
  writable = λ p from o. fork_open f w p from o;
  forked = λ i row e.
      let at = fork_at f w i row e in
      let all = w.places in
      omega (arith, at.0, at.1);
  apart = λ i j a b p q same.
      let one = fork_at f w i a p in
      let two = fork_at f w j b q in
      let place : a.place.0 ≡ b.place.0 = ap (λ (p : PlaceNo). p.0) same in
      omega (arith, one.0, two.0, place);
  few = w.few;
  calls = w.calls;
}
