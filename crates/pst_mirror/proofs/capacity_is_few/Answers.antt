use Rattle.pst_mirror.proofs.CapacityLemmas.{capacity_few}
use Rattle.pst_mirror.proofs.capacity_is_few.Goals as goal

pub returns : goal.returns
returns c = capacity_few
