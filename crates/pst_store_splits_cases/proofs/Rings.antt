-- What making the ring leaves, and what stays of it.
use Rattle.std.proofs.Common.{◌≡◌, ℕ, ◌<◌, List, false, length, All, get_or, Option, Some, None, refl, sym, ap, ◌∙◌, subst}
use Rattle.std.specs.Prelude.{slice_get, IfSome}
use Rattle.std.specs.Option.{option_map}
use Rattle.pst_versions.specs.declared.rows.VersionRow.{VersionRow}
use Rattle.pst_versions.specs.State.{State, ForkRow, Forked, Grows, IsOpenFork, IsPublished, Keeps}
use Rattle.pst_store_meaning.specs.declared.place.Place.{Place}
use Rattle.pst_store_meaning.specs.Store.{Stored, state_of}
use Rattle.pst_store_meaning.proofs.Places.{slice_get-below, slice_get-last, store_is_versioned}
use Rattle.pst_store.specs.Calls.{IsKept}
use Rattle.pst_store_splits_cases.specs.Rings.{HasRing}

-- the row whose place is told
pub placed_row : {P : Type 0} (o : Option (VersionRow P)) (p : P) → option_map (λ (row : VersionRow P). row.place) o ≡ Some p → (row : VersionRow P) × (o ≡ Some row) × (row.place ≡ p)
placed_row None p e = absurd (cc)
placed_row (Some row) p e = (row, refl, let same : Some row.place ≡ Some p = e in cc)

-- the place of a version is published
pub version_published : (s : Stored) (v : ℕ) (p : Place) → IsKept s → option_map (λ (row : VersionRow Place). row.place) (slice_get s.versions v) ≡ Some p → IsPublished (state_of s) p
version_published s v p k e = let row = placed_row (slice_get s.versions v) p e in subst (IsPublished (state_of s)) row.2 ((store_is_versioned s k.store).places v row.0 row.1)

module _ {P R : Type 0} where
  -- ---- the version that the ring stands in

  module _ (a b c : State P R) (from at : P) (row : VersionRow P) (f : Forked a from at b) (k : Keeps b c) (there : slice_get a.versions 0 ≡ Some row) (same : row.place ≡ from) where
    first_there : slice_get c.versions 0 ≡ Some row
    first_there = ap (λ (rows : List (VersionRow P)). slice_get rows 0) (k.versions ∙ f.versions) ∙ there

    pub some_version : 0 < length c.versions
    some_version = slice_get-below c.versions 0 row first_there

    pub fork_open : IfSome (slice_get c.versions 0) (λ (row : VersionRow P). IsOpenFork c at row.place)
    fork_open = subst (λ (o : Option (VersionRow P)). IfSome o (λ (row : VersionRow P). IsOpenFork c at row.place)) (sym first_there)
        (subst (IsOpenFork c at) (sym same)
        (record {
          index = length a.forks;
          row = ap (λ (rows : List (ForkRow P)). slice_get rows (length a.forks)) (k.forks ∙ f.forks)
              ∙ slice_get-last a.forks (record { place = at; from = from; published = false });
        }))

  -- ---- the ring

  pub ring_grows : (a b : State P R) (first second : R) (p : P) → Grows a b → HasRing a first second p → HasRing b first second p
  ring_grows a b first second p g h = record { first = g.live p first h.first; second = g.live p second h.second }

  pub rings_grow : (a b : State P R) (first second : R) (places : List P) → Grows a b → All (HasRing a first second) places → All (HasRing b first second) places
  rings_grow a b first second places g all = λ k d l. ring_grows a b first second (get_or places k d) g (all k d l)
