-- What is so of a store that may not be started yet.
use Rattle.std.proofs.Common.{◌≡◌, ℕ, zero, suc, ◌+◌, ◌-◌, ◌<◌, ◌≤◌, false, IsSome, List, [], ◌∷◌, length, slice_get, Option, Some, None, refl, sym, ap, ◌∙◌, subst, ⊎_elim, inl, inr, arith}
use Rattle.std.proofs.lemmas.Bool.{cases_lt, lt-ltb, false_from_ne_true, ltb-true}
use Rattle.std.specs.Prelude.{IfSome, nat_lt, if◌then◌else◌}
use Rattle.std.specs.Option.{option_map}
use Rattle.pst_versions.specs.State.{IsSound}
use Rattle.pst_versions.specs.declared.rows.VersionRow.{VersionRow}
use Rattle.pst_line.specs.declared.place.LinePlace.{LinePlace}
use Rattle.pst_line.specs.declared.place.Stretch.{Stretch}
use Rattle.pst_line.specs.Store.{state_of, rows_from, stamp, IsPlace, IsWritable, IsStored, IsRested, IsClosed, IsEmpty, Means, IsChain}
use Rattle.pst_line.specs.Held.{Held, IsHeld, empty_held, stored_of, stored_in, undo_in, state_in}
use Rattle.pst_line.specs.Noted.{AreNoted}
use Rattle.pst_line.proofs.Stores.{sound_law, rows_count}
use Rattle.pst_line.proofs.Notes.{entered_plan}

-- ---- the versions

rows_are : (vs : List Stretch) (k v : ℕ) (row : VersionRow LinePlace) → slice_get (rows_from k vs) v ≡ Some row → (row.place ≡ record { stamp = record { 0 = k + v } }) × (row.parent ≡ record { 0 = (k + v) - 1 }) × (v < length vs)
rows_are [] k v row e = absurd (cc)
rows_are (x ∷ xs) k zero row e =
    let same : record { parent = record { 0 = k - 1 }; run = x.run; place = record { stamp = record { 0 = k } } } ≡ row = cc in
    let n : k ≡ k + 0 = omega arith in (
      sym (ap (λ (r : VersionRow LinePlace). r.place) same) ∙ ap (λ (n : ℕ). record { stamp = record { 0 = n } }) n,
      sym (ap (λ (r : VersionRow LinePlace). r.parent) same) ∙ ap (λ (n : ℕ). record { 0 = n - 1 }) n,
      omega arith,
    )
rows_are (x ∷ xs) k (suc v) row e =
    let is = rows_are xs (suc k) v row e in
    let n : suc k + v ≡ k + suc v = omega arith in (is.0 ∙ ap (λ (n : ℕ). record { stamp = record { 0 = n } }) n, is.1 ∙ ap (λ (n : ℕ). record { 0 = n - 1 }) n, omega (arith, is.2))

rows_place : (vs : List Stretch) (k v : ℕ) → v < length vs → option_map (λ row. row.place) (slice_get (rows_from k vs) v) ≡ Some (record { stamp = record { 0 = k + v } })
rows_place [] k v l = absurd (omega (arith, l))
rows_place (x ∷ xs) k zero l = ap (λ (n : ℕ). Some (record { stamp = record { 0 = n } })) (let n : k ≡ k + 0 = omega arith in n)
rows_place (x ∷ xs) k (suc v) l = rows_place xs (suc k) v (omega (arith, l)) ∙ ap (λ (n : ℕ). Some (record { stamp = record { 0 = n } })) (let n : suc k + v ≡ k + suc v = omega arith in n)

rows_none : (vs : List Stretch) (k v : ℕ) → length vs ≤ v → option_map (λ row. row.place) (slice_get (rows_from k vs) v) ≡ None
rows_none [] k v l = refl
rows_none (x ∷ xs) k zero l = absurd (omega (arith, l))
rows_none (x ∷ xs) k (suc v) l = rows_none xs (suc k) v (omega (arith, l))

-- the place of a version is that of its number
abbrev place_at : ℕ → ℕ → Option LinePlace
place_at v n = if nat_lt v n then Some (record { stamp = record { 0 = v } }) else None

place_of_row : (vs : List Stretch) (v : ℕ) → place_at v (length vs) ≡ option_map (λ row. row.place) (slice_get (rows_from 0 vs) v)
place_of_row vs v = ⊎_elim
    (λ (l : v < length vs). ap (λ b. if b then Some (record { stamp = record { 0 = v } }) else None) (lt-ltb v (length vs) l) ∙ ap (λ (n : ℕ). Some (record { stamp = record { 0 = n } })) (let n : v ≡ 0 + v = omega arith in n) ∙ sym (rows_place vs 0 v l))
    (λ (l : length vs ≤ v). ap (λ b. if b then Some (record { stamp = record { 0 = v } }) else None) (false_from_ne_true (nat_lt v (length vs)) (λ e. let m = ltb-true v (length vs) e in omega (arith, m, l))) ∙ sym (rows_none vs 0 v l))
    (cases_lt v (length vs))

-- ---- a store, started or not

means : (h : Held) → Means (state_of (stored_of h)) (stored_of h)
means h = record {
  shape = refl;
  has = λ p. (λ i. i, λ i. i);
  heap = λ p. refl;
  name = λ r. refl;
  live = λ p r. (λ l. l, λ l. l);
  writable = λ p. (λ w. w, λ w. w);
  counts = refl;
  versions = refl;
  forks = refl;
  fork_calls = refl;
}

pub sound_in : (o : Option Held) → IfSome o IsHeld → IsSound (state_in o)
sound_in None h = record {
  valid = λ p i. absurd (none p i);
  well_formed = λ p i. absurd (none p i);
  placed = λ p r l. l.0;
  found = λ p r l. absurd (none p l.0);
  written = λ p w. absurd (none p (inr w.run));
  parents = λ v row e. absurd (cc);
}
  where
    none : (p : LinePlace) → IsPlace (stored_of empty_held) p → ⊥
    none p i = elim i [ inl l ↦ omega (arith, l) | inr r ↦ (let q : None ≡ Some r.begun = r.opened in cc) ]
sound_in (Some h) k = sound_law (stored_of h) k.stored

pub means_in : (o : Option Held) → Means (state_in o) (stored_in o)
means_in None = means empty_held
means_in (Some h) = means h

pub chain_in : (o : Option Held) → IsChain (state_in o)
chain_in None = record { place = λ v row e. absurd (cc); parent = λ v row e. absurd (cc); has = λ v row e. absurd (cc) }
chain_in (Some h) = record {
  place = λ v row e. (rows_are h.versions 0 v row e).0 ∙ ap (λ (n : ℕ). record { stamp = record { 0 = n } }) (let n : 0 + v ≡ v = omega arith in n);
  parent = λ v row e. (rows_are h.versions 0 v row e).1 ∙ ap (λ (n : ℕ). record { 0 = n - 1 }) (let n : 0 + v ≡ v = omega arith in n);
  has = λ v row e. let is = rows_are h.versions 0 v row e in let n : row.place.stamp.0 ≡ 0 + v = ap (λ (p : LinePlace). p.stamp.0) is.0 in inl (omega (arith, is.2, n));
}

-- what is noted for an undo
pub listed_whole : (o : Option Held) → IfSome o IsHeld → AreNoted (stored_in o) (undo_in o)
listed_whole None h = record { once = tt; written = λ b o. absurd (let q : None ≡ Some b = o in cc); none = λ o. refl }
listed_whole (Some h) k = record { once = k.once; written = λ b o f. entered_plan (stored_of h) h.undo (k.undone b o f).entered; none = k.empty }

-- what is so of the store is so of the one inside, and what is so of the one inside of the store
pub inside : (o g : Option Held) (s : Held) (P : Option Held → Type 0) → o ≡ g → o ≡ Some s → P g → P (Some s)
inside o g s P e f p = subst P (sym e ∙ f) p

pub outside : (o g : Option Held) (s : Held) (P : Option Held → Type 0) → o ≡ g → o ≡ Some s → P (Some s) → P g
outside o g s P e f p = subst P (sym f ∙ e) p

pub place_number : (o g : Option Held) (s : Held) (v : ℕ) (place : Option LinePlace) → o ≡ g → o ≡ Some s → place ≡ place_at v (length s.versions) → place ≡ place_at v (length (state_in g).versions)
place_number o g s v place e f is = outside o g s (λ o. place ≡ place_at v (length (state_in o).versions)) e f (is ∙ ap (place_at v) (sym (rows_count s.versions 0)))

pub place_row : (o g : Option Held) (s : Held) (v : ℕ) (place : Option LinePlace) → o ≡ g → o ≡ Some s → place ≡ place_at v (length s.versions) → place ≡ option_map (λ row. row.place) (slice_get (state_in g).versions v)
place_row o g s v place e f is = outside o g s (λ o. place ≡ option_map (λ row. row.place) (slice_get (state_in o).versions v)) e f (is ∙ place_of_row s.versions v)

pub version_count : (o g : Option Held) (s : Held) (n : ℕ) → o ≡ g → o ≡ Some s → n ≡ length s.versions → n ≡ length (state_in g).versions
version_count o g s n e f is = outside o g s (λ o. n ≡ length (state_in o).versions) e f (is ∙ sym (rows_count s.versions 0))

pub few_inside : (o g : Option Held) (s : Held) → o ≡ g → o ≡ Some s → length (state_in g).versions < 4294967295 → length s.versions < 4294967295
few_inside o g s e f l = omega (arith, inside o g s (λ o. length (state_in o).versions < 4294967295) e f l, rows_count s.versions 0)

pub open_inside : (o g : Option Held) (s : Held) → o ≡ g → o ≡ Some s → (p : LinePlace) × (state_in g).writable p → IsSome s.opened
open_inside o g s e f p = let w : IsWritable (stored_of s) p.0 = inside o g s (λ o. (state_in o).writable p.0) e f p.1 in subst IsSome (sym w.run.opened) refl

pub whole_inside : (o g : Option Held) (s : Held) → o ≡ g → o ≡ Some s → (p : LinePlace) × (state_in g).writable p → s.failed ≡ false
whole_inside o g s e f p = let w : IsWritable (stored_of s) p.0 = inside o g s (λ o. (state_in o).writable p.0) e f p.1 in w.whole

-- an empty store has no version, and no place that can be written
pub none_started : (o g : Option Held) → o ≡ g → o ≡ None → 0 < length (state_in g).versions → ⊥
none_started o g e f l = let m : 0 < length (state_in None).versions = subst (λ o. 0 < length (state_in o).versions) (sym e ∙ f) l in omega (arith, m)

pub none_open : (o g : Option Held) → o ≡ g → o ≡ None → (p : LinePlace) → (state_in g).writable p → ⊥
none_open o g e f p w = let m : IsWritable (stored_of empty_held) p = subst (λ o. (state_in o).writable p) (sym e ∙ f) w in (let q : None ≡ Some m.run.begun = m.run.opened in cc)

-- a call of the one inside is one of the store
pub changed : {R : Type 0} (o g : Option Held) (s : Held) → o ≡ g → o ≡ Some s → (b : Option Held) (n : Held) → b ≡ Some n → (r q : R) → r ≡ q → (P : Option Held → Option Held → R → Type 0) → P (Some s) (Some n) q → P g b r
changed o g s e f b n k r q i P p = subst (λ g. P g b r) (sym f ∙ e) (subst (λ b. P (Some s) b r) (sym k) (subst (P (Some s) (Some n)) (sym i) p))

pub changed_alone : (o g : Option Held) (s : Held) → o ≡ g → o ≡ Some s → (b : Option Held) (n : Held) → b ≡ Some n → (P : Option Held → Option Held → Type 0) → P (Some s) (Some n) → P g b
changed_alone o g s e f b n k P p = subst (λ g. P g b) (sym f ∙ e) (subst (P (Some s)) (sym k) p)

-- ---- what is known of it

pub stored_whole : (o : Option Held) → IfSome o IsHeld → 0 < stamp (stored_in o) → IsStored (stored_in o)
stored_whole None h l = absurd (omega (arith, l))
stored_whole (Some h) k l = k.stored

pub rested_whole : (o : Option Held) → IfSome o IsHeld → 0 < stamp (stored_in o) → (stored_in o).failed ≡ false → IsRested (stored_in o)
rested_whole None h l f = absurd (omega (arith, l))
rested_whole (Some h) k l f = k.rested f

pub closed_whole : (o : Option Held) → IfSome o IsHeld → 0 < stamp (stored_in o) → (stored_in o).opened ≡ None → ((stored_in o).failed ≡ false) × IsClosed (stored_in o)
closed_whole None h l n = absurd (omega (arith, l))
closed_whole (Some h) k l n = (k.whole n, k.closed n)

pub empty_whole : (o : Option Held) → IfSome o IsHeld → stamp (stored_in o) ≡ 0 → IsEmpty (stored_in o)
empty_whole None h e = record { versions = refl; nodes = refl; opened = refl; failed = refl; counts = refl }
empty_whole (Some h) k e = absurd (omega (arith, e, k.some))
