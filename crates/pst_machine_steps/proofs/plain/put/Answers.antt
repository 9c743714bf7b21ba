use Rattle.std.proofs.Common.{ℤ, Result, ap, sym, ◌∙◌, rules, slice_set}
use Rattle.std.proofs.lemmas.Int.{to_z-of_z}
use mir.Syntax.{w64}
use mir.Val.{SFits}
use Rattle.pst_base.specs.declared.names.TrapKind.{TrapKind}
use Rattle.pst_program.specs.declared.meaning.Value.TheVariants.{Number as ANumber}
use Rattle.pst_code.specs.Machine.{Goes, behind, after_effect, put_answer}
use Rattle.pst_machine_steps.specs.View.{frame_of, answer_of}
use Rattle.pst_machine_steps.proofs.plain.put.Goals as goal

pub returns-in-Ok-clause-acts : goal.returns-in-Ok-clause-acts
returns-in-Ok-clause-acts g c = λ name parts cs w.
    let f = frame_of parts name c.args.frame.now in
    let fits : SFits w64 c.in-Ok.n = search rules in
    ap (λ (x : Result ℤ TrapKind). after_effect (put_answer c.args.d (answer_of x) f.line f.registers w) f cs) c.in-Ok.is
    ∙ ap (λ (n : ℤ). Goes (behind f (slice_set f.registers c.args.d.0 (ANumber n))) cs w) (sym (to_z-of_z w64 c.in-Ok.n fits))
    ∙ c.set.ensures.acts name parts cs w
