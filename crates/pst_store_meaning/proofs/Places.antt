-- What is known of the places of a store, and of its forks and versions.
use Rattle.std.proofs.Common.{◌≡◌, ℕ, zero, suc, ◌+◌, ◌<◌, ◌≤◌, true, false, cond, eqb, List, [], ◌∷◌, ◌++◌, length, Some, IsSome, refl, sym, ap, ◌∙◌, subst, ◌⊎◌, inl, inr, arith}
use Rattle.std.proofs.Math.ListN.{set}
use Rattle.std.specs.Prelude.{slice_get, map}
use Rattle.std.specs.FinMap.{get}
use Rattle.std.proofs.lemmas.List.{length-append}
use Rattle.pst_versions.specs.State.{ForkRow, IsOpenFork}
use Rattle.pst_order.specs.Places.{rank}
use Rattle.pst_store_meaning.specs.declared.place.Place.{Place}
use Rattle.pst_store_meaning.specs.declared.place.Fork.{Fork}
use Rattle.pst_store_meaning.specs.Arena.{heap_at}
use Rattle.pst_store_meaning.specs.Store.{Stored, arena, begin_of, end_of, IsForked, IsOpen, IsPlace, as_fork, state_of, AreNested, published_count}
use Rattle.pst_store_meaning.specs.Steps.{StoreIsSoundLaw, StoreIsVersionedLaw}
use Rattle.pst_store_meaning.proofs.HeapLaws.{heap_has}
use Rattle.pst_store_meaning.proofs.Concrete.{drawn}
use Rattle.pst_store_meaning.proofs.Sound.{sound_law}

-- ---- lists

pub slice_get-push : {A : Type 0} (xs : List A) (y : A) (k : ℕ) (z : A) → slice_get (xs ++ y ∷ []) k ≡ Some z → (slice_get xs k ≡ Some z) ⊎ ((k ≡ length xs) × (y ≡ z))
slice_get-push [] y zero z e = inr (refl, cc)
slice_get-push [] y (suc k) z e = absurd (cc)
slice_get-push (x ∷ xs) y zero z e = inl e
slice_get-push (x ∷ xs) y (suc k) z e = elim (slice_get-push xs y k z e) [ inl a ↦ inl a | inr b ↦ inr (ap suc b.0, b.1) ]

pub slice_get-kept : {A : Type 0} (xs : List A) (y : A) (k : ℕ) (z : A) → slice_get xs k ≡ Some z → slice_get (xs ++ y ∷ []) k ≡ Some z
slice_get-kept [] y k z e = absurd (cc)
slice_get-kept (x ∷ xs) y zero z e = e
slice_get-kept (x ∷ xs) y (suc k) z e = slice_get-kept xs y k z e

pub slice_get-last : {A : Type 0} (xs : List A) (y : A) → slice_get (xs ++ y ∷ []) (length xs) ≡ Some y
slice_get-last [] y = refl
slice_get-last (x ∷ xs) y = slice_get-last xs y

pub slice_get-below : {A : Type 0} (xs : List A) (k : ℕ) (z : A) → slice_get xs k ≡ Some z → k < length xs
slice_get-below [] k z e = absurd (cc)
slice_get-below (x ∷ xs) zero z e = omega arith
slice_get-below (x ∷ xs) (suc k) z e = omega (arith, slice_get-below xs k z e)

pub slice_get-map : {A B : Type 0} (f : A → B) (xs : List A) (k : ℕ) (z : B) → slice_get (map f xs) k ≡ Some z → (x : A) × (slice_get xs k ≡ Some x) × (f x ≡ z)
slice_get-map f [] k z e = absurd (cc)
slice_get-map f (x ∷ xs) zero z e = (x, refl, cc)
slice_get-map f (x ∷ xs) (suc k) z e = slice_get-map f xs k z e

pub slice_get-mapped : {A B : Type 0} (f : A → B) (xs : List A) (k : ℕ) (x : A) → slice_get xs k ≡ Some x → slice_get (map f xs) k ≡ Some (f x)
slice_get-mapped f [] k x e = absurd (cc)
slice_get-mapped f (y ∷ xs) zero x e = (let same : y ≡ x = cc in ap (λ y. Some (f y)) same)
slice_get-mapped f (y ∷ xs) (suc k) x e = slice_get-mapped f xs k x e

pub length-push : {A : Type 0} (xs : List A) (y : A) → length (xs ++ y ∷ []) ≡ length xs + 1
length-push xs y = length-append xs (y ∷ [])

pub rank_le : (qs : List ℕ) (p : ℕ) → rank qs p ≤ length qs
rank_le [] p = omega arith
rank_le (q ∷ qs) p = elim (eqb q p) as (λ b. cond b 0 (suc (rank qs p)) ≤ suc (length qs)) [ true ↦ omega arith | false ↦ omega (arith, rank_le qs p) ]

pub count-le : (xs : List Fork) → published_count xs ≤ length xs
count-le [] = omega arith
count-le (x ∷ xs) = elim x.published as (λ b. cond b 1 0 + published_count xs ≤ length (x ∷ xs)) [ true ↦ omega (arith, count-le xs) | false ↦ omega (arith, count-le xs) ]

pub count-push : (xs : List Fork) (y : Fork) → y.published ≡ false → published_count (xs ++ y ∷ []) ≡ published_count xs
count-push [] y e = rw e refl
count-push (x ∷ xs) y e = ap (λ n. cond x.published 1 0 + n) (count-push xs y e)

pub count-set : (xs : List Fork) (i : ℕ) (old new : Fork) → slice_get xs i ≡ Some old → old.published ≡ false → new.published ≡ true → published_count (set xs i new) ≡ published_count xs + 1
count-set [] i old new at a b = absurd (cc)
count-set (x ∷ xs) zero old new at a b =
    let same : x.published ≡ false = (let e : x ≡ old = cc in ap (λ (k : Fork). k.published) e ∙ a) in
    ap (λ c. cond c 1 0 + published_count xs) b ∙ (let e : 1 + published_count xs ≡ (0 + published_count xs) + 1 = omega arith in e) ∙ ap (λ c. (cond c 1 0 + published_count xs) + 1) (sym same)
count-set (x ∷ xs) (suc i) old new at a b = ap (λ n. cond x.published 1 0 + n) (count-set xs i old new at a b)
    ∙ (let e : cond x.published 1 0 + (published_count xs + 1) ≡ (cond x.published 1 0 + published_count xs) + 1 = omega arith in e)

-- ---- places

module _ (s : Stored) (h : AreNested s) where
  -- every place is read before the last place of the list
  pub begins : (p : Place) → IsPlace s p → begin_of s p < end_of s s.start
  begins p i = elim i [
    | inl e ↦ subst (λ (p : Place). begin_of s p < end_of s s.start) (sym e) h.some
    | inr (inl f) ↦ subst (λ (p : Place). begin_of s p < end_of s s.start) f.place
        (let v = h.inside f.index f.fork f.at in omega (arith, v, h.last, rank_le s.places f.fork.from.end.0))
    | inr (inr x) ↦ (let v = h.relics x.index p x.at in omega (arith, v))
  ]

  pub in_list : (p : Place) → IsPlace s p → begin_of s p < length s.places
  in_list p i = omega (arith, begins p i, h.last)

  -- a fork does not begin where version 0 does
  fork_late : (f : Fork) (k : ℕ) → slice_get s.forks k ≡ Some f → 0 < begin_of s f.place
  fork_late f k at = omega (arith, h.inside k f at)

  -- a place that begins where one does that can be written is that one
  pub same_place : (p q : Place) → IsPlace s p → IsOpen s.forks q → begin_of s p ≡ begin_of s q → p ≡ q
  same_place p q i o e = elim i [
    | inl a ↦ absurd (
        let pe : begin_of s p ≡ 0 = ap (begin_of s) a ∙ h.first in
        let qe : begin_of s g.fork.place ≡ begin_of s q = ap (begin_of s) g.place in
        omega (arith, fork_late g.fork g.index g.at))
    | inr (inl f) ↦
        let k : f.index ≡ g.index = h.apart f.index g.index f.fork g.fork f.at g.at (ap (begin_of s) f.place ∙ e ∙ sym (ap (begin_of s) g.place)) in
        let same : f.fork ≡ g.fork = (let at : slice_get s.forks g.index ≡ Some f.fork = ap (slice_get s.forks) (sym k) ∙ f.at in let bt = g.at in cc) in
        sym f.place ∙ ap (λ (x : Fork). x.place) same ∙ g.place
    | inr (inr x) ↦ absurd (h.written x.index g.index p g.fork x.at g.at o.unpublished (e ∙ sym (ap (begin_of s) g.place)))
  ]
    where
      g : IsForked s.forks q
      g = o.forked

  -- and ends directly behind it where it can be written
  pub open_ends : (p : Place) → IsOpen s.forks p → end_of s p ≡ suc (begin_of s p)
  open_ends p o = subst (λ (p : Place). end_of s p ≡ suc (begin_of s p)) o.forked.place (h.closed o.forked.index o.forked.fork o.forked.at o.unpublished)

  -- two forks at one place are one
  pub same_fork : (f g : Fork) (j k : ℕ) → slice_get s.forks j ≡ Some f → slice_get s.forks k ≡ Some g → f.place ≡ g.place → (j ≡ k) × (f ≡ g)
  same_fork f g j k a b e =
      let i : j ≡ k = h.apart j k f g a b (ap (begin_of s) e) in
      (i, (let at : slice_get s.forks k ≡ Some f = ap (slice_get s.forks) (sym i) ∙ a in cc))

pub open_place : (s : Stored) (p : Place) → IsOpen s.forks p → IsPlace s p
open_place s p o = inr (inl o.forked)

-- ---- what is always so

pub store_is_sound : StoreIsSoundLaw
store_is_sound s h =
    let d = drawn (rank s.places) (length s.places) s.nodes h.rows in
    record {
      valid = λ p i. h.valid;
      well_formed = λ p i. sound_law s.shape (end_of s s.start) (arena s) (begin_of s p) h.arena d (begins s h.nested p i);
      placed = λ p r l. l.0;
      found = λ p r l.
          let j = l.1.covering in
          let at : get (heap_at s.shape (arena s) (begin_of s p)) ((arena s).name r.0) ≡ Some _ =
          ap (get (heap_at s.shape (arena s) (begin_of s p))) (sym j.2) ∙ heap_has s.shape (arena s) (begin_of s p) h.arena.chained j.0 j.1 in
          subst IsSome (sym at) refl;
      written = λ p o. open_place s p o;
      parents = h.versions.tree.parents;
    }

pub open_row : (s : Stored) (p from : Place) → IsOpenFork (state_of s) p from → IsOpen s.forks p
open_row s p from o =
    let x = slice_get-map as_fork s.forks o.index (record { place = p; from = from; published = false }) o.row in
    record {
      forked = record { index = o.index; fork = x.0; at = x.1; place = ap (λ (row : ForkRow Place). row.place) x.2 };
      unpublished = ap (λ (row : ForkRow Place). row.published) x.2;
    }

pub row_open : (s : Stored) (p : Place) → IsOpen s.forks p → (from : Place) × IsOpenFork (state_of s) p from
row_open s p o = (
  o.forked.fork.from,
  record {
    index = o.forked.index;
    row = slice_get-mapped as_fork s.forks o.forked.index o.forked.fork o.forked.at ∙ (λ i. Some (record { place = o.forked.place i; from = o.forked.fork.from; published = o.unpublished i }));
  },
)

pub store_is_versioned : StoreIsVersionedLaw
store_is_versioned s h = record {
  places = λ v row is. record { has = h.versions.placed v row is; closed = h.versions.published v row is };
  unpublished = λ p o. row_open s p o;
  writable = λ p from o. open_row s p from o;
  forked = λ i row is.
      let x = slice_get-map as_fork s.forks i row is in
      inr (inl (record { index = i; fork = x.0; at = x.1; place = ap (λ (row : ForkRow Place). row.place) x.2 }));
  apart = λ i j a b x y e.
      let f = slice_get-map as_fork s.forks i a x in
      let g = slice_get-map as_fork s.forks j b y in
      let same : f.0.place ≡ g.0.place = ap (λ (row : ForkRow Place). row.place) f.2 ∙ e ∙ sym (ap (λ (row : ForkRow Place). row.place) g.2) in
      h.nested.apart i j f.0 g.0 f.1 g.1 (ap (begin_of s) same);
  few = omega (arith, h.versions.counted, count-le s.forks, h.versions.made);
  calls = h.versions.calls;
}
