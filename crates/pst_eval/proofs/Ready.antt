-- A run may go on after a new record, and where a charge was taken.
use Rattle.std.proofs.Common.{◌≡◌, ◌≢◌, ◌+◌, ◌-◌, List, ap, ◌∙◌, arith}
use Rattle.pst_base.specs.declared.names.Name.{Name}
use Rattle.pst_base.specs.declared.names.TypeNo.{TypeNo}
use Rattle.pst_base.specs.declared.shape.TypeShape.{TypeShape}
use Rattle.pst_base.specs.Heap.{OrdinaryHeap, type_in, with_record, new_record}
use Rattle.pst_base.proofs.WellFormed.{type_in-with_other}
use Rattle.pst_eval.specs.declared.tally.Tally.{Tally}
use Rattle.pst_eval.specs.Work.{IsAtWork, IsCharged}

pub record-ready : (shape : List TypeShape) (h h' : OrdinaryHeap) (t : Tally) (r : List TypeShape) (ty : TypeNo) → IsCharged shape h t
    → h' ≡ record h { heap = with_record h.heap (record { run = t.run; ordinal = t.made }) (new_record r ty) }
    → IsAtWork shape h' record t { made = t.made + 1; counts = record t.counts { records = t.counts.records + 1 } }
record-ready shape h h' t r ty c is = record {
  shaped = ap (λ (o : OrdinaryHeap). o.shape) is ∙ c.shaped;
  fresh = λ k le.
      let a : Name = record { run = t.run; ordinal = k } in
      let b : Name = record { run = t.run; ordinal = t.made } in
      let other : a ≢ b = λ same. let e : k ≡ t.made = ap (λ (n : Name). n.ordinal) same in omega arith in
      ap (λ (o : OrdinaryHeap). type_in o.heap a) is ∙ type_in-with_other h.heap b (new_record r ty) a other ∙ c.fresh k (omega arith);
  room = record {
    made = omega (arith, c.room.made);
    records = omega (arith, c.room.records);
    pointer_writes = omega (arith, c.room.pointer_writes);
    value_writes = omega (arith, c.room.value_writes);
  };
}

-- a charge taken
pub ready-charged : (shape : List TypeShape) (h : OrdinaryHeap) (t : Tally) → IsAtWork shape h t → t.charges ≢ 0 → IsCharged shape h record t { charges = t.charges - 1 }
ready-charged shape h t r ne = record {
  shaped = r.shaped;
  fresh = r.fresh;
  room = record {
    made = omega (arith, r.room.made);
    records = omega (arith, r.room.records);
    pointer_writes = omega (arith, r.room.pointer_writes);
    value_writes = omega (arith, r.room.value_writes);
  };
}
