use Rattle.pst_image_rules.specs.Walk.{IsOrderTo}
use Rattle.pst_image_rules.proofs.nested.in_order.Given as goal

abbrev pub invariant-loop-number : goal.invariant-loop-number
invariant-loop-number l = IsOrderTo l.versions l.number-index l.order.items
