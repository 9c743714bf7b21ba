use Rattle.pst_linerun.proofs.WorkedLemmas.{linear_history}
use Rattle.pst_linerun.proofs.worked.a_linear_history_by_hand.Goals as goal

pub returns : goal.returns
returns c = linear_history
