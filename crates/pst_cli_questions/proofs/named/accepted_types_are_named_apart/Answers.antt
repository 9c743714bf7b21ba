use Rattle.pst_cli_questions.proofs.Apart.{named_apart}
use Rattle.pst_cli_questions.proofs.named.accepted_types_are_named_apart.Goals as goal

pub returns : goal.returns
returns c = named_apart
