use Rattle.pst_history.proofs.WorkedLemmas.{open_runs}
use Rattle.pst_history.proofs.worked.open_runs_by_hand.Goals as goal

pub returns : goal.returns
returns c = open_runs
