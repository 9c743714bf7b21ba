use Rattle.pst_cli_questions.proofs.Worked.{worked_names}
use Rattle.pst_cli_questions.proofs.named.names_by_hand.Goals as goal

pub returns : goal.returns
returns c = worked_names
