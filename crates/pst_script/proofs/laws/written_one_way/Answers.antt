use Rattle.pst_script.proofs.CommandLemmas.{one_way}
use Rattle.pst_script.proofs.laws.written_one_way.Goals as goal

pub returns : goal.returns
returns c = one_way
