use Rattle.std.proofs.Common.{◌∙◌, ◌<◌, List, sym, ap, get_or, length, arith}
use Rattle.pst_image_form.specs.declared.parts.StampPart.{StampPart}
use Rattle.pst_image_rules.specs.Nodes.{no_stamp}
use Rattle.pst_image_rules.proofs.Order.{ends_there, ends_none}
use Rattle.pst_image_rules.proofs.segments.end_at.Goals as goal

pub returns-then-stamps-next : goal.returns-then-stamps-next
returns-then-stamps-next c = sym (ends_none _ _ _ _ c.requires.sorted c.requires.next (λ lt same. omega (arith, ap length c.as_slice-stamps.ensures)))

pub returns-then-stamp-slot : goal.returns-then-stamp-slot
returns-then-stamp-slot c =
    let lt : c.args.next < length c.args.node.now.stamps = omega (arith, ap length c.as_slice-stamps.ensures) in
    let same = sym (ap (λ (ss : List StampPart). (get_or ss c.args.next no_stamp).slot.0) c.as_slice-stamps.ensures) ∙ c.if-stamp-slot.true in
    ap (λ (ss : List StampPart). (get_or ss c.args.next no_stamp).place) c.as_slice-stamps.ensures ∙ sym (ends_there c.args.node.now c.args.slot.0 c.args.place c.args.next c.requires.next lt same)

pub returns-else-stamp-slot : goal.returns-else-stamp-slot
returns-else-stamp-slot c =
    sym (ends_none c.args.node.now c.args.slot.0 c.args.place c.args.next c.requires.sorted c.requires.next
    (λ lt same. c.if-stamp-slot.false (ap (λ (ss : List StampPart). (get_or ss c.args.next no_stamp).slot.0) c.as_slice-stamps.ensures ∙ same)))
