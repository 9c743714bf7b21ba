use Rattle.pst_cli_bench.proofs.WorkedLemmas.{scripts}
use Rattle.pst_cli_bench.proofs.worked.scripts_by_hand.Goals as goal

pub returns : goal.returns
returns c = scripts
