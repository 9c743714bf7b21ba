use Rattle.std.proofs.Common.{◌≡◌, ◌∙◌, ◌+◌, ◌<◌, ℕ, List, get_or, sym, ap, subst, arith}
use Rattle.pst_image_rules.specs.Walk.{IsOrderTo}
use Rattle.pst_image_rules.proofs.InOrder.{none_more, one_more, all_in_order}
use Rattle.pst_image_rules.proofs.nested.in_order.Goals as goal
use Rattle.pst_image_rules.proofs.nested.in_order.Goals.{then-number-ne0+in_ok-push, else-number-ne0}

pub loop-number-preserved : goal.loop-number-preserved
loop-number-preserved c = elim c.if-number-ne0.branch [
  | then-number-ne0+in_ok-push w ↦
      (let some : 0 < get_or c.args.table.now c.loop-number.number-index 0 = omega arith in
      subst (λ (o : List ℕ). IsOrderTo c.args.versions.now (c.loop-number.number-index + 1) o)
      (sym (ap (λ v. v.items) w.order-is ∙ w.in_ok-push.ensures.items)) (one_more _ _ _ _ c.requires.table c.loop-number.invariant some))
  | else-number-ne0 w ↦
      (let none : get_or c.args.table.now c.loop-number.number-index 0 ≡ 0 = omega arith in
      subst (λ (o : List ℕ). IsOrderTo c.args.versions.now (c.loop-number.number-index + 1) o) (sym (ap (λ v. v.items) w.order-is)) (none_more _ _ _ _ c.requires.table c.loop-number.invariant none))
]

pub returns : goal.returns
returns c = all_in_order _ _ _ _ c.requires.inside c.loop-number.invariant c.loop-number-test.false
