use Rattle.std.proofs.Common.{Some, ap, ◌∙◌}
use Rattle.pst_base.specs.Name.{root_name}
use Rattle.pst_program.specs.Value.{Answer}
use Rattle.pst_code.specs.Machine.{after_effect, put_answer}
use Rattle.pst_machine_steps.specs.View.{value_of, frame_of}
use Rattle.pst_machine_steps.proofs.Writing.{load_gives}
use Rattle.pst_machine_steps.proofs.fields.root.Goals as goal

pub returns-clause-acts : goal.returns-clause-acts
returns-clause-acts g c = λ parts cs w shape heap.
    let s = g.H.HeapAt.state c.args.heap.now in
    let f = frame_of parts s.name c.args.frame.now in
    ap (λ (x : Answer). after_effect (put_answer c.args.d x f.line f.registers w) f cs)
    (load_gives s.shape parts.shape (s.heap c.args.at) w.heap c.args.slot.0 root_name (Some c.kind_at.result)
    (value_of s.name c.top_field-v.result) shape heap (c.requires.kind ∙ c.kind_at.ensures) c.top_field-v.ensures.value)
    ∙ c.set.ensures.acts s.name parts cs w
