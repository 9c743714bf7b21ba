use Rattle.std.proofs.Common.{◌≡◌, ◌+◌, Some, None, ap, sym, subst, ◌∙◌, slice_get}
use Rattle.std.specs.Option.{option_map}
use Rattle.pst_base.specs.declared.names.SlotNo.{SlotNo}
use Rattle.pst_base.specs.Heap.{kind_in}
use Rattle.pst_program.specs.Value.{Answer, number_of}
use Rattle.pst_code.specs.Machine.{after_effect, put_answer}
use Rattle.pst_machine_steps.specs.declared.register.Register.{Register}
use Rattle.pst_machine_steps.specs.View.{value_of, frame_of}
use Rattle.pst_machine_steps.specs.Calls.{held_in}
use Rattle.pst_machine_steps.specs.Fields.{FieldIs}
use Rattle.pst_machine_steps.proofs.Slots.{ElementSlot, element_slot, element_read}
use Rattle.pst_machine_steps.proofs.Writing.{load_gives}
use Rattle.pst_machine_steps.proofs.fields.load_element.Goals as goal

pub field-v-requires-clause-kind : goal.field-v-requires-clause-kind
field-v-requires-clause-kind g c =
    let s = g.H.HeapAt.state c.args.heap.now in
    let frame = c.args.frame.now in
    let first = c.args.element.first.0 in
    let e : ElementSlot first c.args.element.elements c.in-Some.slot.0 = element_slot first c.args.element.elements (number_of (value_of s.name (held_in frame c.args.element.index))) c.in-Some.slot.0
    (sym (ap (option_map (λ (n : SlotNo). n.0)) c.in-Some.is) ∙ c.slot_of.ensures s.name) in
    ap (kind_in s.shape (s.heap c.args.at) (s.name c.in-Reference.r)) e.is
    ∙ subst (λ (v : Register g.row.H-Ref.Denot). FieldIs s c.args.at (slice_get c.args.kinds.now c.args.d.0) (first + e.index) v)
    (sym c.read.ensures.is ∙ c.in-Reference.is) (c.requires.kind.each e.index e.below)
    ∙ c.kind_at.ensures

pub returns-in-None-clause-acts : goal.returns-in-None-clause-acts
returns-in-None-clause-acts g c = λ parts cs w shape heap.
    let s = g.H.HeapAt.state c.args.heap.now in
    let f = frame_of parts s.name c.args.frame.now in
    let e = c.args.element in
    ap (λ (x : Answer). after_effect (put_answer c.args.d x f.line f.registers w) f cs)
    (element_read parts.shape w.heap s.name c.args.frame.now.registers.items c.args.object.0 e.index.0 c.in-Reference.r e.first.0 e.elements None (sym c.read.ensures.is ∙ c.in-Reference.is)
    (sym (ap (option_map (λ (n : SlotNo). n.0)) c.in-None.is) ∙ c.slot_of.ensures s.name))

pub returns-in-Some-clause-acts : goal.returns-in-Some-clause-acts
returns-in-Some-clause-acts g c = λ parts cs w shape heap.
    let s = g.H.HeapAt.state c.args.heap.now in
    let f = frame_of parts s.name c.args.frame.now in
    let e = c.args.element in
    let h = s.heap c.args.at in
    let slot = c.in-Some.slot.0 in
    let at = sym (ap (option_map (λ (n : SlotNo). n.0)) c.in-Some.is) ∙ c.slot_of.ensures s.name in
    let place : ElementSlot e.first.0 e.elements slot = element_slot e.first.0 e.elements (number_of (value_of s.name (held_in c.args.frame.now e.index))) slot at in
    let kind : kind_in s.shape h (s.name c.in-Reference.r) slot ≡ Some c.kind_at.result =
    ap (kind_in s.shape h (s.name c.in-Reference.r)) place.is
    ∙ subst (λ (v : Register g.row.H-Ref.Denot). FieldIs s c.args.at (slice_get c.args.kinds.now c.args.d.0) (e.first.0 + place.index) v)
    (sym c.read.ensures.is ∙ c.in-Reference.is) (c.requires.kind.each place.index place.below)
    ∙ c.kind_at.ensures in
    ap (λ (x : Answer). after_effect (put_answer c.args.d x f.line f.registers w) f cs)
    (element_read parts.shape w.heap s.name c.args.frame.now.registers.items c.args.object.0 e.index.0 c.in-Reference.r e.first.0 e.elements (Some slot) (sym c.read.ensures.is ∙ c.in-Reference.is) at
    ∙ load_gives s.shape parts.shape h w.heap slot (s.name c.in-Reference.r) (Some c.kind_at.result) (value_of s.name c.field-v.result) shape heap kind c.field-v.ensures.value)
    ∙ c.set.ensures.acts s.name parts cs w
