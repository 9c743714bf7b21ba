use Rattle.std.proofs.Common.{ℕ, ◌<◌}
use Rattle.pst_image_rules.specs.Nodes.{stamp_of, IsStamp, FitsSlot}
use Rattle.pst_image_rules.proofs.nodes.stamps_fit.Given as goal

abbrev pub invariant-loop-i : goal.invariant-loop-i
invariant-loop-i l = (i : ℕ) → i < l.i → IsStamp l.node (stamp_of l.node i) × FitsSlot l.shape l.nodes l.node.ty (stamp_of l.node i).slot.0 (stamp_of l.node i).content
