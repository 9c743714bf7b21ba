use Rattle.pst_image_rules.proofs.Held.{pointers_entered}
use Rattle.pst_image_rules.proofs.sides.are_pointers_entered.Goals as goal

pub returns : goal.returns
returns c =
    let all = pointers_entered c.args.shape.now c.args.nodes.now c.requires.typed in
    (λ t. all.0 (c.are_mirrored.ensures.0 t), λ h. c.are_mirrored.ensures.1 (all.1 h))
