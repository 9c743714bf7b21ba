use Rattle.pst_grammar.proofs.ByHand.{worked_depths}
use Rattle.pst_grammar.proofs.worked.depths_by_hand.Goals as goal

pub returns : goal.returns
returns c = worked_depths
