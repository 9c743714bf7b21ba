use Rattle.pst_image_rules.proofs.Held.{entries_pointed}
use Rattle.pst_image_rules.proofs.sides.are_entries_pointed.Goals as goal

pub returns : goal.returns
returns c =
    let all = entries_pointed c.args.shape.now c.args.nodes.now c.requires.typed in
    (λ t. all.0 (c.are_mirrored.ensures.0 t), λ h. c.are_mirrored.ensures.1 (all.1 h))
