use Rattle.pst_engine_runs.proofs.Meaning.{valid_code_has_a_meaning}
use Rattle.pst_engine_runs.proofs.laws.valid_code_has_a_meaning.Goals as goal

pub returns : goal.returns
returns c = valid_code_has_a_meaning
