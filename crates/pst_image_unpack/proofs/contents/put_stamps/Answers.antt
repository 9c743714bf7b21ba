use Rattle.std.proofs.Common.{◌<◌, ◌∙◌, subst}
use Rattle.std.proofs.lemmas.List.{get_or_default}
use Rattle.pst_image_form.specs.declared.parts.StampPart.{StampPart}
use Rattle.pst_image_rules.specs.Nodes.{no_stamp}
use Rattle.pst_image_unpack.proofs.contents.put_stamps.Goals as goal

pub stamp_of-requires : goal.stamp_of-requires
stamp_of-requires c =
    subst (λ (s : StampPart). s.slot.0 < 256) (get_or_default c.args.parts.now c.loop-part.part-index no_stamp _ c.loop-part-test.true) (c.requires c.loop-part.part-index c.loop-part-test.true)
