use Rattle.std.proofs.Common.{◌≡◌, Option, Some, ap, sym, subst, ◌∙◌}
use Rattle.pst_base.specs.declared.names.Kind.{Kind}
use Rattle.pst_base.specs.Heap.{kind_in}
use Rattle.pst_program.specs.declared.meaning.Value.{Value}
use Rattle.pst_program.specs.Value.{Answer, load}
use Rattle.pst_code.specs.Machine.{after_effect, put_answer}
use Rattle.pst_machine_steps.specs.Live.{IsLive}
use Rattle.pst_machine_steps.specs.Calls.{held_in}
use Rattle.pst_machine_steps.specs.Fields.{FieldIs}
use Rattle.pst_machine_steps.specs.View.{value_of, frame_of}
use Rattle.pst_machine_steps.proofs.Kept.{live_held}
use Rattle.pst_machine_steps.proofs.Writing.{load_gives}
use Rattle.pst_machine_steps.proofs.fields.load.Goals as goal

pub field-v-requires-clause-kind : goal.field-v-requires-clause-kind
field-v-requires-clause-kind g c =
    let s = g.H.HeapAt.state c.args.heap.now in
    subst (FieldIs s c.args.at (Some c.kind_at.result) c.args.slot.0) (sym c.read.ensures.is ∙ c.in-Reference.is)
    (subst (λ (k : Option Kind). FieldIs s c.args.at k c.args.slot.0 (held_in c.args.frame.now c.args.object)) c.kind_at.ensures c.requires.kind)

pub field-v-requires-clause-live : goal.field-v-requires-clause-live
field-v-requires-clause-live g c =
    let s = g.H.HeapAt.state c.args.heap.now in
    subst (IsLive s c.args.at) (sym c.read.ensures.is ∙ c.in-Reference.is) (live_held s c.args.at c.args.frame.now.registers.items c.args.object.0 c.requires.live)

pub returns-in-Reference-clause-acts : goal.returns-in-Reference-clause-acts
returns-in-Reference-clause-acts g c = λ parts cs w shape heap.
    let s = g.H.HeapAt.state c.args.heap.now in
    let f = frame_of parts s.name c.args.frame.now in
    let h = s.heap c.args.at in
    let kind : kind_in s.shape h (s.name c.in-Reference.r) c.args.slot.0 ≡ Some c.kind_at.result =
    subst (FieldIs s c.args.at (Some c.kind_at.result) c.args.slot.0) (sym c.read.ensures.is ∙ c.in-Reference.is)
    (subst (λ (k : Option Kind). FieldIs s c.args.at k c.args.slot.0 (held_in c.args.frame.now c.args.object)) c.kind_at.ensures c.requires.kind) in
    ap (λ (v : Value). after_effect (put_answer c.args.d (load parts.shape w.heap c.args.slot.0 v) f.line f.registers w) f cs)
    (sym (c.read.ensures.value parts s.name) ∙ ap (value_of s.name) c.in-Reference.is)
    ∙ ap (λ (x : Answer). after_effect (put_answer c.args.d x f.line f.registers w) f cs)
    (load_gives s.shape parts.shape h w.heap c.args.slot.0 (s.name c.in-Reference.r) (Some c.kind_at.result) (value_of s.name c.field-v.result)
    shape heap kind c.field-v.ensures.value)
    ∙ c.set.ensures.acts s.name parts cs w
