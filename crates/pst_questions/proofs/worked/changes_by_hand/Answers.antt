use Rattle.pst_questions.proofs.WorkedLemmas.{worked_changes}
use Rattle.pst_questions.proofs.worked.changes_by_hand.Goals as goal

pub returns : goal.returns
returns c = worked_changes
