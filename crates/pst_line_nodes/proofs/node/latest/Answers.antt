use Rattle.std.proofs.Common.{◌≡◌, suc, ◌+◌, arith, get_or, take, false, cond, pos, sym, ap, ◌∙◌}
use Rattle.std.proofs.lemmas.List.{take_all}
use Rattle.std.proofs.lemmas.Bool.{false_from_ne_true}
use Rattle.pst_line_nodes.specs.declared.content.Content.TheVariants.{Number}
use Rattle.pst_line_nodes.specs.declared.content.StampedContent.{StampedContent}
use Rattle.pst_line_nodes.specs.Contents.{stamped_from}
use Rattle.pst_line_nodes.specs.Rows.{held, is_for}
use Rattle.pst_line_nodes.proofs.RowLemmas.{held-step, for_true, for_parts}
use Rattle.pst_line_nodes.proofs.node.latest.Goals as goal
use Rattle.pst_line_nodes.proofs.node.latest.Goals.{then-from-slot+then-stamp-at, else-from-slot, else-from-slot-via-then-from-slot+else-stamp-at, else-from-slot-via-else-from-slot}

pub loop-stamp-preserved : goal.loop-stamp-preserved
loop-stamp-preserved c =
    let d : StampedContent = stamped_from 0 0 (Number (pos 0)) in
    let e : StampedContent = get_or c.args.stamped.now c.loop-stamp.stamp-index d in
    let next : c.loop-stamp.stamp-index + 1 ≡ suc c.loop-stamp.stamp-index = omega arith in
    let step = ap (λ k. held (take k c.args.stamped.now) c.args.slot c.args.at.0 c.args.base) next ∙ held-step c.args.stamped.now c.loop-stamp.stamp-index d c.args.slot c.args.at.0 c.args.base c.loop-stamp-test.true in
    elim c.if-from-slot.branch [
      | then-from-slot+then-stamp-at w ↦ w.content-is ∙ sym (step ∙ ap (λ b. cond b e.content (held (take c.loop-stamp.stamp-index c.args.stamped.now) c.args.slot c.args.at.0 c.args.base)) (for_true c.args.slot c.args.at.0 e (sym c.from.ensures ∙ w.if-from-slot.true) w.if-stamp-at.true))
      | else-from-slot w ↦
          let none : is_for c.args.slot c.args.at.0 e ≡ false = false_from_ne_true (is_for c.args.slot c.args.at.0 e) (λ h.
          let p = for_parts c.args.slot c.args.at.0 e h in
          elim w.else-from-slot.branch [
            | else-from-slot-via-then-from-slot+else-stamp-at w' ↦ omega (arith, w'.if-stamp-at.false, p.1)
            | else-from-slot-via-else-from-slot w' ↦ w'.if-from-slot.false (c.from.ensures ∙ p.0)
          ]) in
          w.content-is ∙ c.loop-stamp.invariant ∙ sym (step ∙ ap (λ b. cond b e.content (held (take c.loop-stamp.stamp-index c.args.stamped.now) c.args.slot c.args.at.0 c.args.base)) none)
    ]

pub returns : goal.returns
returns c = c.loop-stamp.invariant ∙ ap (λ xs. held xs c.args.slot c.args.at.0 c.args.base) (take_all c.loop-stamp.stamp-index c.args.stamped.now c.loop-stamp-test.false)
