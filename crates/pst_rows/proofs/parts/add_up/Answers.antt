use Rattle.std.proofs.Common.{◌<◌, List, length, refl, sym, ◌∙◌, arith}
use Rattle.pst_rows.specs.declared.content.Stamp.{Stamp}
use Rattle.pst_rows.specs.Slots.{SlotValue as Slot}
use Rattle.pst_rows.proofs.OfPartsLemmas.{IsSumMore, before_none, added_none, added_more, sum_more}
use Rattle.pst_rows.proofs.parts.add_up.Goals as goal

pub loop-slot-init : goal.loop-slot-init
loop-slot-init c = record { sum = sym (before_none c.args.cells.now.stamps); added = added_none c.args.cells.now.slots c.args.cells.now.stamps c.requires; stamps = refl; capacity = refl }

pub overflow_add-before : goal.overflow_add-before
overflow_add-before c =
    let old : List Slot = c.args.cells.now.slots in
    let stamps : List Stamp = c.args.cells.now.stamps in
    let k : c.loop-slot.slot < length old = omega (arith, c.width-slot-end.ensures, c.loop-slot-test.true) in
    let more : IsSumMore stamps c.loop-slot.slot c.loop-slot.before c.start-own.result =
    sum_more old c.loop-slot.cells.slots stamps c.loop-slot.slot c.loop-slot.before c.start-own.result k c.loop-slot.invariant.sum
    c.loop-slot.invariant.added c.start-own.ensures in
    omega (arith, more.few, c.len-few.ensures.value, c.len-few.ensures.most)

pub loop-slot-preserved : goal.loop-slot-preserved
loop-slot-preserved c =
    let old : List Slot = c.args.cells.now.slots in
    let mid : List Slot = c.loop-slot.cells.slots in
    let stamps : List Stamp = c.args.cells.now.stamps in
    let k : c.loop-slot.slot < length old = omega (arith, c.width-slot-end.ensures, c.loop-slot-test.true) in
    let more : IsSumMore stamps c.loop-slot.slot c.loop-slot.before c.start-own.result =
    sum_more old mid stamps c.loop-slot.slot c.loop-slot.before c.start-own.result k c.loop-slot.invariant.sum c.loop-slot.invariant.added
    c.start-own.ensures in
    record {
      sum = more.next;
      added = added_more old mid c.set_start.new.self.slots stamps c.loop-slot.slot c.loop-slot.before c.loop-slot.invariant.sum c.loop-slot.invariant.added c.set_start.ensures.slots;
      stamps = c.set_start.ensures.stamps ∙ c.loop-slot.invariant.stamps;
      capacity = c.set_start.ensures.capacity ∙ c.loop-slot.invariant.capacity;
    }
