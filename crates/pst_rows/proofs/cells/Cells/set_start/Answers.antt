use Rattle.std.proofs.Common.{◌≡◌, ◌<◌, ◌-◌, ◌++◌, List, length, get_or, set, take, drop, ap, ◌∙◌, subst, sym}
use Rattle.std.proofs.lemmas.List.{length-set}
use Rattle.pst_order.specs.declared.order.Pos.{Pos}
use Rattle.pst_rows.specs.declared.content.Stamp.{Stamp}
use Rattle.pst_rows.specs.Slots.{SlotValue as Slot}
use Rattle.pst_rows.specs.Stamps.{at_place}
use Rattle.pst_rows.specs.Cells.{CellsValue, head_size, no_cell, AreSound}
use Rattle.pst_rows.specs.Parts.{HasStart}
use Rattle.pst_rows.proofs.CellLemmas.{slots_in}
use Rattle.pst_rows.proofs.EndLemmas.{slot-in, sound-set, start-head, start-list, refilled}
use Rattle.pst_rows.proofs.cells.Cells.set_start.Goals as goal

pub returns-then-slot-lt-HEAD-clause-slots : goal.returns-then-slot-lt-HEAD-clause-slots
returns-then-slot-lt-HEAD-clause-slots c =
    let hs : List Stamp = c.self.inside.head in
    let xs : List Stamp = c.self.inside.list.items in
    let slots : slots_in c.self.inside.width (hs ++ xs) ≡ c.args.self.now.slots = ap (λ (v : CellsValue). v.slots) c.self.view_is in
    let l : c.args.slot < c.self.inside.width = slot-in c.args.self.now c.self.inside.width c.self.inside.behind c.self.inside.end c.self.inside.head
    c.self.inside.list.items c.self.inside.list.capacity c.args.slot c.self.invariant c.self.view_is c.requires in
    subst (λ (ss : List Slot). HasStart ss (slots_in c.self.inside.width (c.set_place.new.stamps ++ xs)) c.args.slot c.args.start) slots
    (subst (λ (ys : List Stamp). HasStart (slots_in c.self.inside.width (hs ++ xs)) (slots_in c.self.inside.width (ys ++ xs)) c.args.slot c.args.start) (sym c.set_place.ensures)
    (start-head c.self.inside.width hs xs c.args.slot no_cell (record { 0 = c.args.start }) c.self.invariant.whole c.self.invariant.there l c.if-slot-lt-HEAD.true))

pub returns-else-slot-lt-HEAD-clause-slots : goal.returns-else-slot-lt-HEAD-clause-slots
returns-else-slot-lt-HEAD-clause-slots c =
    let hs : List Stamp = c.self.inside.head in
    let xs : List Stamp = c.self.inside.list.items in
    let p : Pos = record { 0 = c.args.start } in
    let new : List Stamp = c.set_place-else-slot-lt-HEAD.new.stamps in
    let slots : slots_in c.self.inside.width (hs ++ xs) ≡ c.args.self.now.slots = ap (λ (v : CellsValue). v.slots) c.self.view_is in
    let l : c.args.slot < c.self.inside.width = slot-in c.args.self.now c.self.inside.width c.self.inside.behind c.self.inside.end c.self.inside.head
    c.self.inside.list.items c.self.inside.list.capacity c.args.slot c.self.invariant c.self.view_is c.requires in
    let written : new ≡ set xs (c.args.slot - head_size) (at_place (get_or xs (c.args.slot - head_size) no_cell) p) =
    c.set_place-else-slot-lt-HEAD.ensures ∙ ap (λ (ys : List Stamp). set ys (c.args.slot - head_size) (at_place (get_or ys (c.args.slot - head_size) no_cell) p)) c.as_mut_slice.ensures.value in
    let long : length new ≡ length xs = ap length written ∙ length-set xs (c.args.slot - head_size) (at_place (get_or xs (c.args.slot - head_size) no_cell) p) in
    subst (λ (ss : List Slot). HasStart ss (slots_in c.self.inside.width (hs ++ take (length xs) (new ++ drop (length new) xs))) c.args.slot c.args.start) slots
    (subst (λ (ys : List Stamp). HasStart (slots_in c.self.inside.width (hs ++ xs)) (slots_in c.self.inside.width (hs ++ ys)) c.args.slot c.args.start) (sym (refilled xs new long ∙ written))
    (start-list c.self.inside.width hs xs c.args.slot p c.self.invariant.whole c.self.invariant.there l c.if-slot-lt-HEAD.false))

pub invariant_of-self : goal.invariant_of-self
invariant_of-self c =
    let l : c.args.slot < c.self.inside.width = slot-in c.args.self.now c.self.inside.width c.self.inside.behind c.self.inside.end c.self.inside.head
    c.self.inside.list.items c.self.inside.list.capacity c.args.slot c.self.invariant c.self.view_is c.requires in
    subst (λ (hs : List Stamp). AreSound c.self.inside.width c.self.inside.behind c.self.inside.end hs c.self.inside.list.items c.self.inside.list.capacity) (sym c.set_place.ensures)
    (sound-set c.self.inside.width c.self.inside.behind c.self.inside.end c.self.inside.head c.self.inside.list.items c.self.inside.list.capacity c.args.slot _ c.self.invariant l)
