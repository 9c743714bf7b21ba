use Rattle.std.proofs.Common.{sym}
use Rattle.pst_image_rules.proofs.Held.{pointer_there, entered_at}
use Rattle.pst_image_rules.proofs.sides.is_pointer_entered.Goals as goal

pub is_entered-requires-clause-target : goal.is_entered-requires-clause-target
is_entered-requires-clause-target c = pointer_there c.args.shape.now c.args.nodes.now c.args.node c.args.slot.0 c.args.place c.in-Some.segment.content
    c.requires.typed c.requires.node c.requires.slot (sym c.in-Some.ensures.content) c.if-segment-eq0.false

pub returns : goal.returns
returns c =
    let at = entered_at c.args.shape.now c.args.nodes.now c.args.node c.args.slot.0 c.args.place c.in-Some.segment.content c.in-Some.segment.end
    c.in-Some.ensures.content c.if-segment-eq0.false c.in-Some.ensures.end in
    (λ t. at.0 (c.is_entered.ensures.0 t), λ h. c.is_entered.ensures.1 (at.1 h))
