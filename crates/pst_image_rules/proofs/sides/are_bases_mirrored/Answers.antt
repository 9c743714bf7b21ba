use Rattle.std.proofs.Common.{refl, below_more}
use Rattle.pst_image_rules.proofs.sides.are_bases_mirrored.Goals as goal

pub loop-slot-preserved : goal.loop-slot-preserved
loop-slot-preserved c = below_more _ _ c.loop-slot.invariant (c.if-not-is_mirrored_at.ensures.0 refl)
