use Rattle.std.proofs.Common.{arith}
use Rattle.pst_image_unpack.proofs.Lists.{contents-step}
use Rattle.pst_image_unpack.proofs.contents.put_bases.Goals as goal

pub loop-slot-preserved : goal.loop-slot-preserved
loop-slot-preserved c =
    contents-step c.args.ty.now c.args.numbers.now c.loop-slot.slot c.loop-slot.bases.items c.push.new.self.items c.content_of.result
    c.in_ok-push.ensures.items (omega arith) c.loop-slot.invariant c.content_of.ensures
