use Rattle.std.proofs.Common.{◌+◌, ◌*◌, max}
use Rattle.pst_program.specs.declared.typed.Typed.{size-Typed}
use Rattle.pst_eval.proofs.values.+value.Given as goal

abbrev pub decreases-value : goal.decreases-value
decreases-value l = 3 * size-Typed l.e.now + 1

abbrev pub decreases-by_parts : goal.decreases-by_parts
decreases-by_parts l = 3 * size-Typed l.e.now

abbrev pub decreases-loaded : goal.decreases-loaded
decreases-loaded l = 3 * size-Typed l.object.now + 2

abbrev pub decreases-element : goal.decreases-element
decreases-element l = 3 * max (size-Typed l.object.now) (size-Typed l.index.now) + 2

abbrev pub decreases-negated : goal.decreases-negated
decreases-negated l = 3 * size-Typed l.operand.now + 2

abbrev pub decreases-denied : goal.decreases-denied
decreases-denied l = 3 * size-Typed l.operand.now + 2

abbrev pub decreases-combined : goal.decreases-combined
decreases-combined l = 3 * max (size-Typed l.left.now) (size-Typed l.right.now) + 2
