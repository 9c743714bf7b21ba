use Rattle.pst_translation.proofs.Outcomes.{comes_to, has_outcome}
use Rattle.pst_translation.proofs.laws.the_machine_comes_to_the_outcome.Goals as goal

pub returns : goal.returns
returns c = record { comes = comes_to; only = has_outcome c.a_run_has_one_end.ensures }
