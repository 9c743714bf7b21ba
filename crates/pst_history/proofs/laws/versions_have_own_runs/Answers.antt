use Rattle.pst_history.proofs.OwnRuns.{versions_have_own_runs}
use Rattle.pst_history.proofs.laws.versions_have_own_runs.Goals as goal

pub returns : goal.returns
returns c = versions_have_own_runs
