use Rattle.pst_questions.proofs.WorkedLemmas.{path_forms}
use Rattle.pst_questions.proofs.worked.path_forms_by_hand.Goals as goal

pub returns : goal.returns
returns c = path_forms
