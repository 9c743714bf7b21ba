-- A run may go on after a write.
use Rattle.std.proofs.Common.{◌≡◌, ℕ, ◌+◌, ℤ, List, Option, ap, ◌∙◌, arith}
use Rattle.pst_base.specs.declared.names.Name.{Name}
use Rattle.pst_base.specs.declared.shape.TypeShape.{TypeShape}
use Rattle.pst_base.specs.Heap.{OrdinaryHeap, type_in, with_value, with_pointer}
use Rattle.pst_base.proofs.WellFormed.{type_in-with_value, type_in-with_pointer}
use Rattle.pst_eval.specs.declared.tally.Tally.{Tally}
use Rattle.pst_eval.specs.Work.{IsAtWork, IsCharged}

pub value-ready : (shape : List TypeShape) (h h' : OrdinaryHeap) (t : Tally) (n : Name) (slot : ℕ) (x : ℤ) → IsCharged shape h t
    → h' ≡ record h { heap = with_value h.heap n slot x } → IsAtWork shape h' record t { counts = record t.counts { value_writes = t.counts.value_writes + 1 } }
value-ready shape h h' t n slot x c is = record {
  shaped = ap (λ (o : OrdinaryHeap). o.shape) is ∙ c.shaped;
  fresh = λ k le.
      let a : Name = record { run = t.run; ordinal = k } in
      ap (λ (o : OrdinaryHeap). type_in o.heap a) is ∙ type_in-with_value h.heap n slot x a ∙ c.fresh k le;
  room = record {
    made = omega (arith, c.room.made);
    records = omega (arith, c.room.records);
    pointer_writes = omega (arith, c.room.pointer_writes);
    value_writes = omega (arith, c.room.value_writes);
  };
}

pub pointer-ready : (shape : List TypeShape) (h h' : OrdinaryHeap) (t : Tally) (n : Name) (slot : ℕ) (p : Option Name) → IsCharged shape h t
    → h' ≡ record h { heap = with_pointer h.heap n slot p } → IsAtWork shape h' record t { counts = record t.counts { pointer_writes = t.counts.pointer_writes + 1 } }
pointer-ready shape h h' t n slot p c is = record {
  shaped = ap (λ (o : OrdinaryHeap). o.shape) is ∙ c.shaped;
  fresh = λ k le.
      let a : Name = record { run = t.run; ordinal = k } in
      ap (λ (o : OrdinaryHeap). type_in o.heap a) is ∙ type_in-with_pointer h.heap n slot p a ∙ c.fresh k le;
  room = record {
    made = omega (arith, c.room.made);
    records = omega (arith, c.room.records);
    pointer_writes = omega (arith, c.room.pointer_writes);
    value_writes = omega (arith, c.room.value_writes);
  };
}
