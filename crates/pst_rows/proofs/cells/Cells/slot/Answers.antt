use Rattle.std.proofs.Common.{◌≡◌, ◌<◌, ◌-◌, List, ◌++◌, length, get_or, ap, ◌∙◌, arith}
use Rattle.pst_rows.specs.declared.content.Stamp.{Stamp}
use Rattle.pst_rows.specs.Slots.{SlotValue as Slot}
use Rattle.pst_rows.specs.Cells.{CellsValue, slot_kept, head_size}
use Rattle.pst_rows.specs.Values.{no_slot}
use Rattle.pst_rows.proofs.CellLemmas.{slots_in, width-is, slot-list}
use Rattle.pst_rows.proofs.cells.Cells.slot.Goals as goal

pub returns-else-slot-lt-HEAD : goal.returns-else-slot-lt-HEAD
returns-else-slot-lt-HEAD c =
    let slots : slots_in c.self.inside.width (c.self.inside.head ++ c.self.inside.list.items) ≡ c.args.self.now.slots = ap (λ (v : CellsValue). v.slots) c.self.view_is in
    let l : c.args.slot < c.self.inside.width = omega (
      arith,
      c.requires,
      ap length slots,
      width-is c.self.inside.width c.self.inside.head c.self.inside.list.items c.self.invariant.whole c.self.invariant.there,
    ) in
    ap slot_kept (c.index-as_slice-slot.is ∙ ap (λ (xs : List Stamp). get_or xs (c.args.slot - head_size) c.index-as_slice-slot.result) c.as_slice.ensures)
    ∙ slot-list c.self.inside.width c.self.inside.head c.self.inside.list.items c.args.slot c.index-as_slice-slot.result no_slot c.self.invariant.whole c.self.invariant.there l c.if-slot-lt-HEAD.false
    ∙ ap (λ (ss : List Slot). get_or ss c.args.slot no_slot) slots
