use Rattle.std.proofs.Common.{◌≡◌, List, [], ◌∷◌, ◌++◌, ap, ap₂, ◌∙◌}
use Rattle.pst_rows.specs.Slots.{SlotValue as Slot}
use Rattle.pst_rows.specs.Cells.{CellsValue}
use Rattle.pst_rows.proofs.CellLemmas.{slots_in}
use Rattle.pst_rows.proofs.EndLemmas.{push-head}
use Rattle.pst_rows.proofs.cells.Cells.push_slot.Goals as goal

pub returns-then-slot-lt-HEAD-clause-slots : goal.returns-then-slot-lt-HEAD-clause-slots
returns-then-slot-lt-HEAD-clause-slots c =
    let slots : slots_in c.self.inside.width (c.self.inside.head ++ c.self.inside.list.items) ≡ c.args.self.now.slots = ap (λ (v : CellsValue). v.slots) c.self.view_is in
    push-head c.self.inside.width c.self.inside.head c.mark_end.new.head c.self.inside.list.items c.slot_stamp.result c.self.invariant.whole
    c.if-slot-lt-HEAD.true c.mark_end.ensures.head.whole c.mark_end.ensures.head.slots
    ∙ ap₂ (λ (ss : List Slot) (s : Slot). ss ++ s ∷ []) slots c.slot_stamp.ensures
