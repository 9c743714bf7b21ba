-- What is so of a store as started, for the clients of the tests.
use Rattle.std.proofs.Common.{◌≡◌, ◌≢◌, List, Option, Some, None, sym, ap, ◌∙◌, inl, inr, arith}
use Rattle.std.specs.Prelude.{IsSomeAnd, slice_get}
use Rattle.std.specs.FinMap.{empty, get, get-empty}
use Rattle.std.specs.Option.{option_map}
use Rattle.pst_base.specs.declared.names.Name.{Name}
use Rattle.pst_base.specs.declared.shape.TypeShape.{TypeShape}
use Rattle.pst_base.specs.Name.{name_cmp, root_name}
use Rattle.pst_base.specs.Shape.{root_type}
use Rattle.pst_base.specs.Heap.{Heap, initial_heap, new_record}
use Rattle.pst_base.proofs.WellFormed.{none-from_type, type-from_none, type_in-with_other}
use Rattle.pst_versions.specs.declared.rows.VersionRow.{VersionRow}
use Rattle.pst_versions.specs.State.{IsFresh, IsPublished}
use Rattle.pst_store_meaning.specs.declared.place.Place.{Place}
use Rattle.pst_store_meaning.specs.declared.place.Fork.{Fork}
use Rattle.pst_store_meaning.specs.Store.{Stored}
use Rattle.pst_store_meaning.proofs.Starting.{none_there, only_start}
use Rattle.pst_store.specs.Calls.{IsStarted}
use Rattle.pst_store.specs.Whole.{state_in}

-- a store with one place, that of version 0, where the root record is alone
pub record HasOnePlace (o : Option Stored) (shape : List TypeShape) (p : Place) : Type 0 where
  pub shape_is : (state_in o).shape ≡ shape
  pub published : IsPublished (state_in o) p
  pub alone : (q : Place) → (state_in o).has q → q ≡ p
  pub heap : (state_in o).heap p ≡ initial_heap shape
  pub calls : (state_in o).fork_calls ≡ 0
  pub counts : (state_in o).counts ≡ record { records = 1; pointer_writes = 0; value_writes = 0 }

pub one_place : (o : Option Stored) (shape : List TypeShape) (p : Place) → IsSomeAnd o (IsStarted shape)
    → Some p ≡ option_map (λ (row : VersionRow Place). row.place) (slice_get (state_in o).versions 0) → HasOnePlace o shape p
one_place None shape p h e = absurd h
one_place (Some s) shape p h e =
    let start : p ≡ s.start = (let first : Some p ≡ Some s.start = e
    ∙ ap (λ (rows : List (VersionRow Place)). option_map (λ (row : VersionRow Place). row.place) (slice_get rows 0)) h.versions in cc) in
    record {
      shape_is = h.shape_is;
      published = record { has = inl start; closed = λ w. none_there w.forked.index w.forked.fork (ap (λ (forks : List Fork). slice_get forks w.forked.index) (sym h.forks) ∙ w.forked.at) };
      alone = λ q i. only_start s q h.forks h.relics i ∙ sym start;
      heap = ap (state_in (Some s)).heap start ∙ h.heap;
      calls = h.calls;
      counts = h.counts;
    }

module _ (o : Option Stored) (shape : List TypeShape) (p : Place) (h : HasOnePlace o shape p) where
  pub place_published : IsPublished (state_in o) p
  place_published = h.published

  -- a name that is not the root's
  pub place_fresh : (n : Name) → n ≢ root_name → IsFresh (state_in o) n
  place_fresh n ne = record {
    fresh = λ q i. ap (λ (q : Place). get ((state_in o).heap q) n) (h.alone q i) ∙ ap (λ (heap : Heap). get heap n) h.heap
        ∙ none-from_type (initial_heap shape) n (type_in-with_other empty root_name (new_record shape root_type) n ne ∙ type-from_none empty n (get-empty name_cmp n));
  }

-- a name of run 1
pub run_1 : (n : Name) → n.run.0 ≡ 1 → n ≢ root_name
run_1 n one e = let f : n.run.0 ≡ 0 = ap (λ (n : Name). n.run.0) e in absurd (omega arith)
