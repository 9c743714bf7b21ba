use Rattle.pst_engine_runs.proofs.OneMeaning.{one_meaning, machine_means}
use Rattle.pst_engine_runs.proofs.laws.code_has_one_meaning.Goals as goal

pub returns : goal.returns
returns c = record {
  one = one_meaning;
  program = machine_means c.compiled_code_is_valid.ensures c.valid_code_has_a_meaning.ensures c.compiled_code_means_the_program.ensures;
}
