use Rattle.std.proofs.Common.{ℕ, ◌<◌}
use Rattle.pst_image_rules.specs.Nodes.{node_at, stamp_of}
use Rattle.pst_image_rules.specs.Sides.{IsMirroredAt}
use Rattle.pst_image_rules.proofs.sides.are_stamps_mirrored.Given as goal

abbrev pub invariant-loop-i : goal.invariant-loop-i
invariant-loop-i l = (j : ℕ) → j < l.i → IsMirroredAt l.shape l.nodes l.side l.node (stamp_of (node_at l.nodes l.node) j).slot.0 (stamp_of (node_at l.nodes l.node) j).place
