use Rattle.std.proofs.Common.{ℕ, ◌+◌, ap, sym, subst, ◌∙◌}
use Rattle.std.specs.Option.{option_map}
use Rattle.pst_base.specs.declared.names.SlotNo.{SlotNo}
use Rattle.pst_program.specs.Value.{number_of}
use Rattle.pst_machine_steps.specs.declared.register.Register.{Register}
use Rattle.pst_machine_steps.specs.declared.register.Register.TheVariants.{Reference}
use Rattle.pst_machine_steps.specs.View.{value_of}
use Rattle.pst_machine_steps.specs.Calls.{held_in}
use Rattle.pst_machine_steps.specs.Fields.{MayWriteField}
use Rattle.pst_machine_steps.specs.Steps.{MayStore}
use Rattle.pst_machine_steps.proofs.Slots.{ElementSlot, element_slot}
use Rattle.pst_machine_steps.proofs.fields.store_element.Goals as goal

pub write-requires : goal.write-requires
write-requires g c =
    let s = g.H.HeapAt.state c.args.heap.now in
    let frame = c.args.frame.now in
    let first = c.args.element.first.0 in
    let x = held_in frame c.args.s in
    let e : ElementSlot first c.args.element.elements c.in-Some.slot.0 = element_slot first c.args.element.elements (number_of (value_of s.name (held_in frame c.args.element.index))) c.in-Some.slot.0
    (sym (ap (option_map (λ (n : SlotNo). n.0)) c.in-Some.is) ∙ c.slot_of.ensures s.name) in
    let may : MayStore s c.args.at (Reference c.in-Reference.r) (first + e.index) x =
    subst (λ (v : Register g.row.H-Ref.Denot). MayStore s c.args.at v (first + e.index) x) (sym c.read.ensures.is ∙ c.in-Reference.is) (c.requires.may.each e.index e.below) in
    subst (λ (v : Register g.row.H-Ref.Denot). MayWriteField s c.args.at c.in-Reference.r c.in-Some.slot.0 v) (sym c.read-v.ensures.is)
    (subst (λ (n : ℕ). MayWriteField s c.args.at c.in-Reference.r n x) (sym e.is) may)
