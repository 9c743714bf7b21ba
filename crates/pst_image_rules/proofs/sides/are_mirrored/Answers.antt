use Rattle.std.proofs.Common.{refl, below_more}
use Rattle.pst_image_rules.proofs.Order.{never}
use Rattle.pst_image_rules.proofs.sides.are_mirrored.Goals as goal

pub returns-then-not-is_node_mirrored : goal.returns-then-not-is_node_mirrored
returns-then-not-is_node_mirrored c = (λ t. absurd (never t), λ all. c.if-not-is_node_mirrored.ensures.1 (all c.loop-node.node c.loop-node-test.true))

pub loop-node-preserved : goal.loop-node-preserved
loop-node-preserved c = below_more _ _ c.loop-node.invariant (c.if-not-is_node_mirrored.ensures.0 refl)
