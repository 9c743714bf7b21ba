use Rattle.pst_engine_testing.proofs.Starting.{new_forest}
use Rattle.pst_engine_testing.proofs.laws.a_new_forest_is_started.Goals as goal

pub returns : goal.returns
returns c = new_forest
