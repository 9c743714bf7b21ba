use Rattle.pst_history.proofs.LawLemmas.{counts_are_few}
use Rattle.pst_history.proofs.laws.counts_are_few.Goals as goal

pub returns : goal.returns
returns c = counts_are_few
