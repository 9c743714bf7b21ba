use Rattle.pst_grammar.proofs.ByHand.{worked_limits}
use Rattle.pst_grammar.proofs.worked.limits_of_depth_by_hand.Goals as goal

pub returns : goal.returns
returns c = worked_limits
