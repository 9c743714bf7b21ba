-- What calls leave that may be refused, for those who make them again.
use Rattle.std.proofs.Common.{◌≡◌, ◌⊎◌, false, ℕ, ◌<◌, List, ◌++◌, ◌∷◌, [], length, ℤ, All, Option, Some, None, Result, Ok, Err, inl, inr, sym, ap, ◌∙◌, subst}
use Rattle.std.specs.Prelude.{slice_get, IfSome}
use Rattle.std.specs.Option.{option_map}
use Rattle.std.proofs.lemmas.List.Elements.{All-push}
use Rattle.pst_base.specs.declared.names.Name.{Name}
use Rattle.pst_versions.specs.declared.rows.VersionRow.{VersionRow}
use Rattle.pst_versions.specs.declared.heap_at.StoreFault.{StoreFault}
use Rattle.pst_versions.specs.declared.heap_at.StoreFault.TheVariants.{InDegree, Memory}
use Rattle.pst_versions.specs.State.{State, ForkRow, Forked, Grows, IsOpenFork, Keeps, Unchanged, ValueStored}
use Rattle.pst_versions.specs.Store.{PointerOutcome}
use Rattle.pst_versions.proofs.StateLemmas.{Grows_trans}
use Rattle.pst_store_meaning.specs.declared.place.Place.{Place}
use Rattle.pst_store_meaning.specs.Store.{Stored, state_of}
use Rattle.pst_store_meaning.proofs.Places.{slice_get-below, slice_get-last, store_is_versioned}
use Rattle.pst_store.specs.Calls.{IsKept}
use Rattle.pst_store_splits_cases.specs.Rings.{HasRing, IsStamped}
use Rattle.pst_store_splits_cases.proofs.Rings.{placed_row, ring_grows, rings_grow}

-- an unpublished fork can be written
pub open_writable : (s : Stored) (at : Place) → IsKept s → (from : Place) × IsOpenFork (state_of s) at from → (state_of s).writable at
open_writable s at k o = (store_is_versioned s k.store).writable at o.0 o.1

module _ {P R : Type 0} where
  -- ---- what a write keeps, refused or not

  pub number_keeps : (a b : State P R) (at : P) (n : Name) (slot : ℕ) (v : ℤ) → Unchanged a b ⊎ ValueStored a at n slot v b → Keeps a b
  number_keeps a b at n slot v h = elim h [ inl u ↦ u.keeps | inr d ↦ d.keeps ]

  pub pointer_keeps : (a b : State P R) (at : P) (r : R) (slot : ℕ) (to : Option R) (result : Result (Unit {0}) StoreFault) → PointerOutcome a at r slot to result b → Keeps a b
  pointer_keeps a b at r slot to (Ok u) h = h.0.keeps
  pointer_keeps a b at r slot to (Err InDegree) h = h.1.keeps
  pointer_keeps a b at r slot to (Err Memory) h = elim h [ inl u ↦ u.keeps | inr d ↦ d.keeps ]

  pub open_kept : (a b : State P R) (at : P) → Keeps a b → (from : P) × IsOpenFork a at from → (from : P) × IsOpenFork b at from
  open_kept a b at k o = (o.0, fork_kept a b at o.0 k o.1)
    where
      fork_kept : (a b : State P R) (at from : P) → Keeps a b → IsOpenFork a at from → IsOpenFork b at from
      fork_kept a b at from k o = record { index = o.index; row = ap (λ (rows : List (ForkRow P)). slice_get rows o.index) k.forks ∙ o.row }

  -- what a target is live at
  pub target_kept : (a b : State P R) (at : P) (to : Option R) → Grows a b → IfSome to (a.live at) → IfSome to (b.live at)
  target_kept a b at None g l = tt
  target_kept a b at (Some r) g l = g.live at r l

  -- ---- forks

  -- a fork is not published
  pub fork_is_open : (a b : State P R) (from at : P) → Forked a from at b → IsOpenFork b at from
  fork_is_open a b from at f = record {
    index = length a.forks;
    row = ap (λ (rows : List (ForkRow P)). slice_get rows (length a.forks)) f.forks ∙ slice_get-last a.forks (record { place = at; from = from; published = false });
  }

  -- what was there before is there at the fork
  pub fork_stamped : (a b c : State P R) (from at : P) → Grows a b → Forked b from at c → IsStamped a from at c
  fork_stamped a b c from at g f = record { grows = Grows_trans a b c g f.grows; live = λ r l. f.live r (g.live from r l) }

  -- what happens behind a fork keeps that
  pub stamped_grows : (a b c : State P R) (from at : P) → IsStamped a from at b → Grows b c → IsStamped a from at c
  stamped_grows a b c from at w g = record { grows = Grows_trans a b c w.grows g; live = λ r l. g.live at r (w.live r l) }

  -- ---- the version that a fork was made from

  module _ (s : State P R) (v : ℕ) (from at : P) (e : option_map (λ (row : VersionRow P). row.place) (slice_get s.versions v) ≡ Some from) where
    pub version_there : v < length s.versions
    version_there = let row = placed_row (slice_get s.versions v) from e in slice_get-below s.versions v row.0 row.1

    pub version_open : IsOpenFork s at from → IfSome (slice_get s.versions v) (λ (row : VersionRow P). IsOpenFork s at row.place)
    version_open o = let row = placed_row (slice_get s.versions v) from e in
        subst (λ (r : Option (VersionRow P)). IfSome r (λ (row : VersionRow P). IsOpenFork s at row.place)) (sym row.1) (subst (IsOpenFork s at) (sym row.2) o)

  -- ---- the places of the ring

  pub ring_stamped : (a b : State P R) (first second : R) (from at : P) → IsStamped a from at b → HasRing a first second from → HasRing b first second at
  ring_stamped a b first second from at w h = record { first = w.live first h.first; second = w.live second h.second }

  pub rings_pushed : (a b : State P R) (first second : R) (p : P) (old new : List P) → Grows a b → HasRing a first second p → new ≡ old ++ p ∷ []
      → All (HasRing a first second) old → All (HasRing b first second) new
  rings_pushed a b first second p old new g h e all = subst (λ (ps : List P). All (HasRing b first second) ps) (sym e)
      (All-push (HasRing b first second) old p (rings_grow a b first second old g all) (ring_grows a b first second p g h))
