use Rattle.std.proofs.Common.{Bool, ap, sym, ◌∙◌}
use Rattle.pst_program.specs.declared.meaning.Value.{Value}
use Rattle.pst_program.specs.Value.{same_value}
use Rattle.pst_code.specs.Machine.{held, jump_where}
use Rattle.pst_machine_steps.specs.View.{value_of, frame_of}
use Rattle.pst_machine_frames.proofs.running.jump_equal.Goals as goal

pub returns-clause-acts : goal.returns-clause-acts
returns-clause-acts g c = λ parts cs w.
    let name = (g.H.HeapAt.state c.args.heap.now).name in
    let f = frame_of parts name c.args.frame.now in
    ap (λ (b : Bool). jump_where b c.args.to f cs w) (sym (c.same-equal.ensures
    ∙ ap (λ (v : Value). same_value v (value_of name c.read-2.result)) (c.read.ensures.value parts name)
    ∙ ap (same_value (held f.registers c.args.a)) (c.read-2.ensures.value parts name)))
    ∙ c.jump.ensures.acts name parts cs w
