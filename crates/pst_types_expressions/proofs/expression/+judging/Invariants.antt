use Rattle.std.proofs.Common.{◌+◌, ◌*◌, max}
use Rattle.pst_grammar.specs.declared.expression.Expression.{size-Expression}
use Rattle.pst_types_expressions.proofs.expression.+judging.Given as goal

abbrev pub decreases-judge : goal.decreases-judge
decreases-judge l = 2 * size-Expression l.expression.now

abbrev pub decreases-judge_field : goal.decreases-judge_field
decreases-judge_field l = 2 * size-Expression l.object.now + 1

abbrev pub decreases-judge_element : goal.decreases-judge_element
decreases-judge_element l = 2 * max (size-Expression l.object.now) (size-Expression l.index.now) + 1

abbrev pub decreases-judge_operator : goal.decreases-judge_operator
decreases-judge_operator l = 2 * max (size-Expression l.written.left.now) (size-Expression l.written.right.now) + 1
