use Rattle.std.proofs.Common.{ℤ, ap, ◌∙◌, rules}
use Rattle.std.specs.Prelude.{int_le}
use Rattle.std.proofs.lemmas.Int.{to_z-of_z}
use mir.Syntax.{w64}
use mir.Val.{SFits, to_z, of_z}
use Rattle.pst_program.specs.Value.{number_of}
use Rattle.pst_code.specs.Machine.{held}
use Rattle.pst_machine_steps.specs.View.{frame_of}
use Rattle.pst_machine_steps.proofs.plain.is_at_most.Goals as goal

pub returns : goal.returns
returns g c = λ parts name.
    let f = frame_of parts name c.args.frame.now in
    let left : SFits w64 c.operand.result = search rules in
    let right : SFits w64 c.operand-2.result = search rules in
    ap (λ (n : ℤ). int_le n (to_z w64 (of_z w64 c.operand-2.result))) (to_z-of_z w64 c.operand.result left ∙ c.operand.ensures parts name)
    ∙ ap (int_le (number_of (held f.registers c.args.a))) (to_z-of_z w64 c.operand-2.result right ∙ c.operand-2.ensures parts name)
