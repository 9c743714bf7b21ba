use Rattle.pst_questions.proofs.WorkedLemmas.{worked_fields}
use Rattle.pst_questions.proofs.worked.fields_by_hand.Goals as goal

pub returns : goal.returns
returns c = worked_fields
