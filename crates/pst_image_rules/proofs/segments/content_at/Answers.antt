use Rattle.std.proofs.Common.{◌∙◌, ℕ, List, refl, sym, ap, get_or, Some}
use Rattle.pst_image_form.specs.declared.parts.StampPart.{StampPart}
use Rattle.pst_image_rules.specs.Nodes.{no_stamp}
use Rattle.pst_image_rules.proofs.Order.{begins_at_lo, begins_there, begins_none, not_true, never}
use Rattle.pst_image_rules.proofs.segments.content_at.Goals as goal

pub returns-then-place-node : goal.returns-then-place-node
returns-then-place-node c =
    ap (λ (xs : List ℕ). Some (get_or xs c.from.result 0)) c.as_slice.ensures
    ∙ (ap (λ (i : ℕ). Some (get_or c.args.node.now.bases i 0)) c.from.ensures ∙ sym (begins_at_lo c.args.node.now c.args.slot.0 c.args.place c.if-place-node.true))

pub returns-then-is_there : goal.returns-then-is_there
returns-then-is_there c =
    let there = c.if-is_there.ensures.0 refl in
    ap (λ (ss : List StampPart). Some (get_or ss c.args.position no_stamp).content) c.as_slice-then-is_there.ensures
    ∙ sym (begins_there c.args.node.now c.args.slot.0 c.args.place c.args.position c.if-place-node.false c.requires.position there.0 there.1)

pub returns : goal.returns
returns c = sym (begins_none c.args.node.now c.args.slot.0 c.args.place c.args.position c.if-place-node.false c.requires.sorted c.requires.position
    (λ lt. not_true _ (λ at. never (c.if-is_there.ensures.1 (lt, at)))))
