use Rattle.std.proofs.Common.{◌+◌, ◌*◌, max}
use Rattle.pst_grammar.specs.declared.expression.Expression.{size-Expression}
use Rattle.pst_notation.proofs.expressions.+expressions.Given as goal

abbrev pub decreases-put_expression : goal.decreases-put_expression
decreases-put_expression l = 3 * size-Expression l.e.now

abbrev pub decreases-put_enclosed : goal.decreases-put_enclosed
decreases-put_enclosed l = 3 * size-Expression l.e.now + 1

abbrev pub decreases-put_field : goal.decreases-put_field
decreases-put_field l = 3 * size-Expression l.object.now + 1

abbrev pub decreases-put_element : goal.decreases-put_element
decreases-put_element l = 3 * max (size-Expression l.object.now) (size-Expression l.index.now) + 2

abbrev pub decreases-put_behind : goal.decreases-put_behind
decreases-put_behind l = 3 * size-Expression l.operand.now + 1

abbrev pub decreases-put_binary : goal.decreases-put_binary
decreases-put_binary l = 3 * max (size-Expression l.left.now) (size-Expression l.right.now) + 1
