use Rattle.std.proofs.Common.{◌≡◌, ◌<◌, List, ◌++◌, length, set, ap, ◌∙◌, arith}
use Rattle.pst_rows.specs.declared.content.Stamp.{Stamp}
use Rattle.pst_rows.specs.Slots.{SlotValue as Slot}
use Rattle.pst_rows.specs.Cells.{CellsValue}
use Rattle.pst_rows.proofs.CellLemmas.{slots_in, width-is, write-head, write-list}
use Rattle.pst_rows.proofs.EndLemmas.{slot-in, sound-set}
use Rattle.pst_rows.proofs.cells.Cells.write_slot.Goals as goal

pub returns-then-slot-lt-HEAD-clause-slots : goal.returns-then-slot-lt-HEAD-clause-slots
returns-then-slot-lt-HEAD-clause-slots c =
    let slots : slots_in c.self.inside.width (c.self.inside.head ++ c.self.inside.list.items) ≡ c.args.self.now.slots = ap (λ (v : CellsValue). v.slots) c.self.view_is in
    let l : c.args.slot < c.self.inside.width = omega (
      arith,
      c.requires,
      ap length slots,
      width-is c.self.inside.width c.self.inside.head c.self.inside.list.items c.self.invariant.whole c.self.invariant.there,
    ) in
    write-head c.self.inside.width c.self.inside.head c.self.inside.list.items c.args.slot c.slot_stamp-stamp.result
    (record { content = c.args.content; start = c.args.start }) c.self.invariant.whole c.slot_stamp-stamp.ensures l c.if-slot-lt-HEAD.true
    ∙ ap (λ (ss : List Slot). set ss c.args.slot (record { content = c.args.content; start = c.args.start })) slots

pub returns-else-slot-lt-HEAD-clause-slots : goal.returns-else-slot-lt-HEAD-clause-slots
returns-else-slot-lt-HEAD-clause-slots c =
    let slots : slots_in c.self.inside.width (c.self.inside.head ++ c.self.inside.list.items) ≡ c.args.self.now.slots = ap (λ (v : CellsValue). v.slots) c.self.view_is in
    let l : c.args.slot < c.self.inside.width = omega (
      arith,
      c.requires,
      ap length slots,
      width-is c.self.inside.width c.self.inside.head c.self.inside.list.items c.self.invariant.whole c.self.invariant.there,
    ) in
    ap (λ (xs : List Stamp). slots_in c.self.inside.width (c.self.inside.head ++ xs)) c.write.ensures.items
    ∙ write-list c.self.inside.width c.self.inside.head c.self.inside.list.items c.args.slot c.slot_stamp-stamp.result
    (record { content = c.args.content; start = c.args.start }) c.self.invariant.whole c.slot_stamp-stamp.ensures l c.if-slot-lt-HEAD.false
    ∙ ap (λ (ss : List Slot). set ss c.args.slot (record { content = c.args.content; start = c.args.start })) slots

pub invariant_of-self : goal.invariant_of-self
invariant_of-self c = sound-set c.self.inside.width c.self.inside.behind c.self.inside.end c.self.inside.head c.self.inside.list.items
    c.self.inside.list.capacity c.args.slot c.slot_stamp-stamp.result c.self.invariant
    (slot-in c.args.self.now c.self.inside.width c.self.inside.behind c.self.inside.end c.self.inside.head c.self.inside.list.items
    c.self.inside.list.capacity c.args.slot c.self.invariant c.self.view_is c.requires)
