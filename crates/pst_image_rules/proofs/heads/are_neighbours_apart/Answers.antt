use Rattle.std.proofs.Common.{refl, arith}
use Rattle.pst_image_rules.proofs.Names.{apart_more}
use Rattle.pst_image_rules.proofs.heads.are_neighbours_apart.Goals as goal

pub loop-i-preserved : goal.loop-i-preserved
loop-i-preserved c = apart_more c.args.heads.now c.loop-i.i c.loop-i.auto.i c.loop-i.invariant (c.if-not-is_apart.ensures.0 refl)

pub returns : goal.returns
returns c = (λ t k lt. c.loop-i.invariant k (omega arith), λ apart. refl)
