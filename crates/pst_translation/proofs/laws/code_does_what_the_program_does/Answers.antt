use Rattle.pst_translation.proofs.Outcomes.{does}
use Rattle.pst_translation.proofs.laws.code_does_what_the_program_does.Goals as goal

pub returns : goal.returns
returns c = does
