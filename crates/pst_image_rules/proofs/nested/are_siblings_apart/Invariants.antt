use Rattle.pst_image_rules.specs.Walk.{IsOrdered}
use Rattle.pst_image_rules.proofs.nested.are_siblings_apart.Given as goal

abbrev pub invariant-loop-number : goal.invariant-loop-number
invariant-loop-number l = IsOrdered l.versions l.number-index l.bounds.items
