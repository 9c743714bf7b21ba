use Rattle.std.proofs.Common.{ap, ◌∙◌, rules}
use Rattle.std.proofs.lemmas.Int.{to_z-of_z}
use mir.Syntax.{w64}
use mir.Val.{SFits}
use Rattle.pst_program.specs.Value.{number_of}
use Rattle.pst_machine_steps.proofs.frame.operand.Goals as goal

pub returns : goal.returns
returns g c = λ parts name.
    let fits : SFits w64 c.the_number.result = search rules in
    to_z-of_z w64 c.the_number.result fits ∙ c.the_number.ensures name ∙ ap number_of (c.read.ensures.value parts name)
