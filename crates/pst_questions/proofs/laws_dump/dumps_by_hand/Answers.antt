use Rattle.pst_questions.proofs.WorkedDumps.{worked_dumps}
use Rattle.pst_questions.proofs.laws_dump.dumps_by_hand.Goals as goal

pub returns : goal.returns
returns c = worked_dumps
