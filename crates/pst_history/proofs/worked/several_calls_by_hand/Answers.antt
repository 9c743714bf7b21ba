use Rattle.pst_history.proofs.WorkedLemmas.{several_calls}
use Rattle.pst_history.proofs.worked.several_calls_by_hand.Goals as goal

pub returns : goal.returns
returns c = several_calls
