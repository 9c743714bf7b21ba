-- What a store as started leaves to the client that writes at forks.
use Rattle.std.proofs.Common.{◌≡◌, List, Option, Some, sym, ap, ◌∙◌, subst, arith}
use Rattle.std.specs.FinMap.{empty}
use Rattle.pst_base.specs.declared.names.Counts.{Counts}
use Rattle.pst_base.specs.declared.names.Kind.TheVariants.{Int}
use Rattle.pst_base.specs.declared.shape.TypeShape.{TypeShape}
use Rattle.pst_base.specs.Name.{root_name}
use Rattle.pst_base.specs.Shape.{field_kind, root_type, type_at}
use Rattle.pst_base.specs.Heap.{Heap, kind_from, kind_in, new_record}
use Rattle.pst_base.proofs.WellFormed.{type_in-with_new}
use Rattle.pst_versions.specs.Client.{HasRoomFor}
use Rattle.pst_store_meaning.specs.declared.place.Place.{Place}
use Rattle.pst_store_meaning.specs.Store.{Stored}
use Rattle.pst_store_splits_cases.proofs.StartedRings.{HasOnePlace}
use Rattle.pst_store_splits_cases.specs.Trials.{IsReady}
use Rattle.pst_store.specs.Whole.{state_in}

pub place_ready : (o : Option Stored) (shape : List TypeShape) (p : Place) → HasOnePlace o shape p → field_kind (type_at shape root_type) 0 ≡ Some Int → IsReady (state_in o) p 0 100
place_ready o shape p h k = record {
  published = h.published;
  number = record {
    has = h.published.has;
    field = ap (λ (shape : List TypeShape). kind_in shape ((state_in o).heap p) root_name 0) h.shape_is ∙ ap (λ (heap : Heap). kind_in shape heap root_name 0) h.heap
        ∙ ap (kind_from shape 0) (type_in-with_new empty root_name (new_record shape root_type)) ∙ k;
  };
  calls = omega (arith, h.calls);
  room = subst (λ (c : Counts). HasRoomFor (record (state_in o) { counts = c }) 100) (sym h.counts) (record { records = omega arith; pointer_writes = omega arith; value_writes = omega arith });
}
