-- How a session over a store begins.
use Rattle.std.proofs.Common.{◌≡◌, refl, sym, ◌∙◌, ap, false, true, ℕ, List, [], ◌∷◌, Option, Some, None, map}
use Rattle.std.specs.Prelude.{IsSomeAnd}
use Rattle.pst_base.specs.declared.shape.TypeShape.{TypeShape}
use Rattle.pst_base.specs.Heap.{initial_heap}
use Rattle.pst_program.specs.Syntax.{Routines}
use Rattle.pst_history.specs.Meaning.{Meaning}
use Rattle.pst_history.specs.Direct.{direct}
use Rattle.pst_engine.specs.Stands.{IsStartedHeap}
use Rattle.pst_store_meaning.specs.Store.{Stored, as_fork}
use Rattle.pst_store_meaning.proofs.Starting.{only_start}
use Rattle.pst_store.specs.Calls.{IsStarted}
use Rattle.pst_store.specs.Whole.{state_in}

-- a store as it is started is a heap with which a new engine begins
pub started : (m : Meaning) (shape : List TypeShape) (o : Option Stored) → m.shape ≡ shape → IsSomeAnd o (IsStarted shape) → IsStartedHeap m (state_in o)
started m shape None e h = absurd h
started m shape (Some s) e h = record {
  shape = h.shape_is ∙ sym e;
  place = s.start;
  versions = h.versions;
  only = λ p is. only_start s p h.forks h.relics is;
  heap = h.heap ∙ ap initial_heap (sym e);
  counts = h.counts;
  calls = h.calls;
  spent = h.spent;
  forks = ap (map as_fork) h.forks;
}

-- a list that is not known to have anything is empty
pub nothing_waits : (xs : List ℕ) → ((xs ≡ [] → ⊥) → false ≡ true) → xs ≡ []
nothing_waits [] some = refl
nothing_waits (x ∷ xs) some = let bad : false ≡ true = some (λ (e : x ∷ xs ≡ []). cc) in cc

-- the records of a program's meaning are its own
pub meaning_shape : (r : Routines) → (direct r).shape ≡ r.shape
unfolding direct
meaning_shape r = refl
