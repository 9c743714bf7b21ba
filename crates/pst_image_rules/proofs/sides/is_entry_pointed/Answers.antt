use Rattle.std.proofs.Common.{sym}
use Rattle.pst_image_rules.proofs.Held.{entry_read, pointed_at}
use Rattle.pst_image_rules.proofs.sides.is_entry_pointed.Goals as goal

pub overflow_sub-pointer : goal.overflow_sub-pointer
overflow_sub-pointer c = (entry_read c.args.shape.now c.args.nodes.now c.args.node c.args.slot.0 c.args.place c.in-Some.segment.content
    c.requires.typed c.requires.node c.requires.slot (sym c.in-Some.ensures.content) c.if-segment-eq0.false).some

pub has_pointer-requires-clause-node : goal.has_pointer-requires-clause-node
has_pointer-requires-clause-node c = (entry_read c.args.shape.now c.args.nodes.now c.args.node c.args.slot.0 c.args.place c.in-Some.segment.content
    c.requires.typed c.requires.node c.requires.slot (sym c.in-Some.ensures.content) c.if-segment-eq0.false).node_there

pub has_pointer-requires-clause-slot : goal.has_pointer-requires-clause-slot
has_pointer-requires-clause-slot c = (entry_read c.args.shape.now c.args.nodes.now c.args.node c.args.slot.0 c.args.place c.in-Some.segment.content
    c.requires.typed c.requires.node c.requires.slot (sym c.in-Some.ensures.content) c.if-segment-eq0.false).slot_there

pub returns : goal.returns
returns c =
    let read = entry_read c.args.shape.now c.args.nodes.now c.args.node c.args.slot.0 c.args.place c.in-Some.segment.content c.requires.typed
    c.requires.node c.requires.slot (sym c.in-Some.ensures.content) c.if-segment-eq0.false in
    let at = pointed_at c.args.nodes.now c.args.node c.args.slot.0 c.args.place c.in-Some.segment.content c.in-Some.segment.end c.in-Some.ensures.content read c.in-Some.ensures.end in
    (λ t. at.0 (c.has_pointer.ensures.0 t), λ h. c.has_pointer.ensures.1 (at.1 h))
