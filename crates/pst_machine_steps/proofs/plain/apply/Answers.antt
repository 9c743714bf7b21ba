use Rattle.std.proofs.Common.{◌≡◌, ap, sym, ◌∙◌, rules}
use Rattle.std.proofs.lemmas.Int.{to_z-of_z}
use mir.Syntax.{w64}
use mir.Val.{SFits}
use Rattle.pst_program.specs.Value.{Answer, operate}
use Rattle.pst_code.specs.Machine.{held, after_effect, put_answer}
use Rattle.pst_machine_steps.specs.View.{frame_of, answer_of}
use Rattle.pst_machine_steps.proofs.plain.apply.Goals as goal

pub returns-clause-acts : goal.returns-clause-acts
returns-clause-acts g c = λ name parts cs w.
    let f = frame_of parts name c.args.frame.now in
    let left : SFits w64 c.operand-left.result = search rules in
    let right : SFits w64 c.operand-right.result = search rules in
    let given : answer_of c.operate.result ≡ operate c.args.op (held f.registers c.args.a) (held f.registers c.args.b) =
    c.operate.ensures (held f.registers c.args.a) (held f.registers c.args.b)
    (sym (to_z-of_z w64 c.operand-left.result left ∙ c.operand-left.ensures parts name))
    (sym (to_z-of_z w64 c.operand-right.result right ∙ c.operand-right.ensures parts name)) in
    ap (λ (x : Answer). after_effect (put_answer c.args.d x f.line f.registers w) f cs) (sym given) ∙ c.put.ensures.acts name parts cs w
