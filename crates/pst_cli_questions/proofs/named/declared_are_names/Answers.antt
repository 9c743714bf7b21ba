use Rattle.pst_cli_questions.proofs.Names.{declared_names}
use Rattle.pst_cli_questions.proofs.named.declared_are_names.Goals as goal

pub returns : goal.returns
returns c = declared_names
