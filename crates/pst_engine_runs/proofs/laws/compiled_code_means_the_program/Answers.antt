use Rattle.pst_engine_runs.proofs.Coding.{compiled_code_means}
use Rattle.pst_engine_runs.proofs.laws.compiled_code_means_the_program.Goals as goal

pub returns : goal.returns
returns c = compiled_code_means c.the_machine_comes_to_the_outcome.ensures.comes c.the_machine_comes_to_the_outcome.ensures.only
