use Rattle.std.proofs.Common.{ℕ, ◌<◌}
use Rattle.pst_image_rules.specs.Sides.{IsNodeMirrored}
use Rattle.pst_image_rules.proofs.sides.are_mirrored.Given as goal

abbrev pub invariant-loop-node : goal.invariant-loop-node
invariant-loop-node l = (i : ℕ) → i < l.node → IsNodeMirrored l.shape l.nodes l.side i
