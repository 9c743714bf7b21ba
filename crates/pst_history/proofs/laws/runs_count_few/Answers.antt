use Rattle.pst_history.proofs.Room.{runs-count-few}
use Rattle.pst_history.proofs.laws.runs_count_few.Goals as goal

pub returns : goal.returns
returns c = runs-count-few
