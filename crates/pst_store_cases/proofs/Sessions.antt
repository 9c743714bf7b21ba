-- How a session over a store begins, and where the versions are that it dumps.
use Rattle.std.proofs.Common.{◌≡◌, refl, sym, ◌∙◌, subst, ap, List, Option, Some, None, map, slice_get, ℕ}
use Rattle.std.specs.Prelude.{IsSomeAnd}
use Rattle.std.specs.Option.{option_map}
use Rattle.pst_base.specs.declared.shape.TypeShape.{TypeShape}
use Rattle.pst_base.specs.Heap.{initial_heap}
use Rattle.pst_program.specs.Syntax.{Routines}
use Rattle.pst_history.specs.Meaning.{Meaning}
use Rattle.pst_history.specs.Direct.{direct}
use Rattle.pst_versions.specs.declared.rows.VersionRow.{VersionRow}
use Rattle.pst_versions.specs.State.{State, IsVersioned}
use Rattle.pst_engine.specs.Stands.{IsStartedHeap}
use Rattle.pst_store_meaning.specs.Store.{Stored, as_fork}
use Rattle.pst_store_meaning.proofs.Starting.{only_start}
use Rattle.pst_store.specs.Calls.{IsStarted}
use Rattle.pst_store.specs.Whole.{state_in}

-- the record types of a program's meaning are its own
pub meaning_shape : (r : Routines) → (direct r).shape ≡ r.shape
unfolding direct
meaning_shape r = refl

-- a store as it is started is a heap as it is started
pub started_store : (m : Meaning) (shape : List TypeShape) (o : Option Stored) → m.shape ≡ shape → IsSomeAnd o (IsStarted shape) → IsStartedHeap m (state_in o)
started_store m shape None e h = absurd h
started_store m shape (Some s) e h = record {
  shape = h.shape_is ∙ sym e;
  place = s.start;
  versions = h.versions;
  only = λ p is. only_start s p h.forks h.relics is;
  heap = h.heap ∙ ap initial_heap (sym e);
  counts = h.counts;
  calls = h.calls;
  spent = h.spent;
  forks = ap (map as_fork) h.forks;
}

module _ {P R : Type 0} (s : State P R) (v : ℕ) where
  -- the row of a version, with its place
  pub record IsPlaced (place : P) : Type 0 where
    pub row : VersionRow P
    pub found : slice_get s.versions v ≡ Some row
    pub same : row.place ≡ place

  placed : (place : P) → option_map (λ (row : VersionRow P). row.place) (slice_get s.versions v) ≡ Some place → IsPlaced place
  placed place is = by_row (slice_get s.versions v) refl is
    where
      by_row : (o : Option (VersionRow P)) → slice_get s.versions v ≡ o → option_map (λ (row : VersionRow P). row.place) o ≡ Some place → IsPlaced place
      by_row None found is = absurd (cc)
      by_row (Some row) found is = record { row = row; found = found; same = cc }

  -- the place of a version is one of the heap's
  pub version_has : (place : P) → IsVersioned s → option_map (λ (row : VersionRow P). row.place) (slice_get s.versions v) ≡ Some place → s.has place
  version_has place known is = let p = placed place is in subst s.has p.same (known.places v p.row p.found).has
