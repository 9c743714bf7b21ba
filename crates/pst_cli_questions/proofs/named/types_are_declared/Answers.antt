use Rattle.pst_cli_questions.proofs.Types.{types_declared}
use Rattle.pst_cli_questions.proofs.named.types_are_declared.Goals as goal

pub returns : goal.returns
returns c = types_declared
