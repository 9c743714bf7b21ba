use Rattle.pst_image_rules.proofs.Ways.{in_order}
use Rattle.pst_image_rules.proofs.laws_nodes.chains_are_in_order.Goals as goal

pub returns : goal.returns
returns c = in_order
