use Rattle.pst_questions.proofs.WorkedLemmas.{worked_readings_are}
use Rattle.pst_questions.proofs.worked.readings_by_hand.Goals as goal

pub returns : goal.returns
returns c = worked_readings_are
