use Rattle.std.proofs.Common.{ℤ, ap, sym, ◌∙◌, neg_ℤ, rules}
use Rattle.std.proofs.lemmas.Int.{to_z-of_z}
use mir.Syntax.{w64}
use mir.Val.{SFits}
use Rattle.pst_program.specs.Value.{Answer, limited}
use Rattle.pst_code.specs.Machine.{after_effect, put_answer}
use Rattle.pst_machine_steps.specs.View.{frame_of}
use Rattle.pst_machine_steps.proofs.plain.negate.Goals as goal

pub returns-clause-acts : goal.returns-clause-acts
returns-clause-acts g c = λ name parts cs w.
    let f = frame_of parts name c.args.frame.now in
    let fits : SFits w64 c.operand-n.result = search rules in
    ap (λ (x : Answer). after_effect (put_answer c.args.d x f.line f.registers w) f cs)
    (ap (λ (n : ℤ). limited (neg_ℤ n)) (sym (to_z-of_z w64 c.operand-n.result fits ∙ c.operand-n.ensures parts name)) ∙ sym c.negative.ensures)
    ∙ c.put.ensures.acts name parts cs w
