use Rattle.std.proofs.Common.{ℕ, ◌<◌, get_or}
use Rattle.pst_image_rules.specs.Nodes.{FitsSlot}
use Rattle.pst_image_rules.proofs.nodes.bases_fit.Given as goal

abbrev pub invariant-loop-slot : goal.invariant-loop-slot
invariant-loop-slot l = (g : ℕ) → g < l.slot → FitsSlot l.shape l.nodes l.ty g (get_or l.bases g 0)
