use Rattle.pst_repair.proofs.WrittenLemmas.{numbers_are_set}
use Rattle.pst_repair.proofs.joint.numbers_are_set.Goals as goal

pub returns : goal.returns
returns c = numbers_are_set
