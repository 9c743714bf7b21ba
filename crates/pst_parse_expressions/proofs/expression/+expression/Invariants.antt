use Rattle.std.proofs.Common.{length, ◌+◌, ◌*◌}
use Rattle.pst_parse_expressions.proofs.expression.+expression.Given as goal

abbrev pub decreases-more : goal.decreases-more
decreases-more l = 2 * length l.tokens.now + 1

abbrev pub decreases-operand : goal.decreases-operand
decreases-operand l = 2 * length l.tokens.now + 1

abbrev pub decreases-parens : goal.decreases-parens
decreases-parens l = 2 * length l.tokens.now

abbrev pub decreases-negated : goal.decreases-negated
decreases-negated l = 2 * length l.tokens.now

abbrev pub decreases-inverted : goal.decreases-inverted
decreases-inverted l = 2 * length l.tokens.now

abbrev pub decreases-joined : goal.decreases-joined
decreases-joined l = 2 * length l.tokens.now

abbrev pub decreases-field : goal.decreases-field
decreases-field l = 2 * length l.tokens.now

abbrev pub decreases-selected : goal.decreases-selected
decreases-selected l = 2 * length l.tokens.now + 2
