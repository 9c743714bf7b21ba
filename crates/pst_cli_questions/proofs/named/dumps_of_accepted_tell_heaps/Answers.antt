use Rattle.pst_cli_questions.proofs.Apart.{dumps_tell}
use Rattle.pst_cli_questions.proofs.named.dumps_of_accepted_tell_heaps.Goals as goal

pub returns : goal.returns
returns c = dumps_tell c.dumps_tell_heaps.ensures
