use Rattle.std.proofs.Common.{arith}
use Rattle.std.proofs.lemmas.Bool.Decides.{nat_tests}
use Rattle.pst_parse.proofs.Opened.{opens_first, opens_second, opens_ended, opens_wrong}
use Rattle.pst_parse.proofs.program.opening.Goals as goal

pub returns-in_default-clause-opens : goal.returns-in_default-clause-opens
returns-in_default-clause-opens c = λ tokens end ahead. opens_first c.args.window.now tokens c.tokens-tokens.result.now end c.requires ahead c.tokens-tokens.ensures c.in_default.ensures

pub returns-in-Ok-clause-opens : goal.returns-in-Ok-clause-opens
returns-in-Ok-clause-opens c = λ tokens end ahead. opens_second c.args.window.now tokens c.in-Some.rest.now c.in-Ok.rest.now end ahead (rw c.tokens-tokens.ensures at c.in-Some.ensures) c.in-Ok.ensures

pub returns-then-is_empty-clause-opens : goal.returns-then-is_empty-clause-opens
returns-then-is_empty-clause-opens c = λ tokens end ahead.
    opens_ended c.args.window.now tokens c.in-Some.rest.now c.in-Err-Unexpected.place.now end c.end_line-line.result c.requires ahead (rw c.tokens-tokens.ensures at c.in-Some.ensures)
    (rw c.in-Err-Unexpected.field-0-is at c.in-Err-Unexpected.ensures) (grind (arith, nat_tests, c.if-is_empty.ensures)) c.end_line-line.ensures

pub returns-else-is_empty-clause-opens : goal.returns-else-is_empty-clause-opens
returns-else-is_empty-clause-opens c = λ tokens end ahead.
    opens_wrong c.args.window.now tokens c.in-Some.rest.now c.in-Err-Unexpected.place.now end c.line_from-line.result ahead (rw c.tokens-tokens.ensures at c.in-Some.ensures)
    (rw c.in-Err-Unexpected.field-0-is at c.in-Err-Unexpected.ensures) (grind (arith, nat_tests, c.if-is_empty.ensures)) (rw c.tokens-tokens.ensures at c.line_from-line.ensures)
