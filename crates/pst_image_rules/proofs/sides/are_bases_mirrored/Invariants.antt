use Rattle.std.proofs.Common.{ℕ, ◌<◌}
use Rattle.pst_image_rules.specs.Sides.{IsMirroredAt}
use Rattle.pst_image_rules.proofs.sides.are_bases_mirrored.Given as goal

abbrev pub invariant-loop-slot : goal.invariant-loop-slot
invariant-loop-slot l = (g : ℕ) → g < l.slot → IsMirroredAt l.shape l.nodes l.side l.node g l.place
