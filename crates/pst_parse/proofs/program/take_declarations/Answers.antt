use Rattle.std.proofs.Common.{arith}
use Rattle.std.proofs.lemmas.Bool.Decides.{nat_tests}
use Rattle.pst_grammar.specs.Reader.{Unexpected, TooDeep}
use Rattle.pst_parse.proofs.Taken.{at_next, at_break, at_fault, place_short, deep_some}
use Rattle.pst_parse.proofs.program.take_declarations.Goals as goal

pub loop-rest-preserved : goal.loop-rest-preserved
loop-rest-preserved c =
    at_next c.args.language c.args.tokens.now c.loop-rest.rest.now c.in-Ok.read.1.now c.args.items.now.items c.loop-rest.items.items
    c.push.new.self.items c.in-Ok.read.0 c.loop-rest.invariant c.loop-rest-test.ensures
    c.in-Ok.ensures.given c.in_ok-push-in-Ok.ensures.items

pub returns-then-is_empty : goal.returns-then-is_empty
returns-then-is_empty c =
    at_break c.args.language c.args.tokens.now c.loop-rest.rest.now c.in-Err-Unexpected.place.now c.args.items.now.items c.loop-rest.items.items c.loop-rest.invariant
    (rw c.in-Err-Unexpected.field-0-is at c.in-Err-Unexpected.ensures.given) (grind (arith, nat_tests, c.if-is_empty.ensures))

pub line_from-line-requires-clause-within : goal.line_from-line-requires-clause-within
line_from-line-requires-clause-within c =
    rw c.in-Err-Unexpected.field-0-is (place_short c.args.language Unexpected c.args.tokens.now c.loop-rest.rest.now c.in-Err-Unexpected.place.now
    c.args.items.now.items c.loop-rest.items.items c.loop-rest.invariant
    (rw c.in-Err-Unexpected.field-0-is at c.in-Err-Unexpected.ensures.given))

pub returns-in-Err-Unexpected : goal.returns-in-Err-Unexpected
returns-in-Err-Unexpected c =
    at_fault c.args.language Unexpected c.line_from-line.result c.args.tokens.now c.loop-rest.rest.now c.in-Err-Unexpected.place.now
    c.args.items.now.items c.loop-rest.items.items c.loop-rest.invariant c.loop-rest-test.ensures
    (rw c.in-Err-Unexpected.field-0-is at c.in-Err-Unexpected.ensures.given) (grind (arith, nat_tests, c.if-is_empty.ensures)) (rw c.in-Err-Unexpected.field-0-is at c.line_from-line.ensures)

pub line_from-line-requires-in-Err-TooDeep-clause-some : goal.line_from-line-requires-in-Err-TooDeep-clause-some
line_from-line-requires-in-Err-TooDeep-clause-some c = rw c.in-Err-TooDeep.field-0-is
    (deep_some c.args.language c.loop-rest.rest.now c.in-Err-TooDeep.place.now (rw c.in-Err-TooDeep.field-0-is at c.in-Err-TooDeep.ensures.given))

pub line_from-line-requires-in-Err-TooDeep-clause-within : goal.line_from-line-requires-in-Err-TooDeep-clause-within
line_from-line-requires-in-Err-TooDeep-clause-within c =
    rw c.in-Err-TooDeep.field-0-is (place_short c.args.language TooDeep c.args.tokens.now c.loop-rest.rest.now c.in-Err-TooDeep.place.now
    c.args.items.now.items c.loop-rest.items.items c.loop-rest.invariant
    (rw c.in-Err-TooDeep.field-0-is at c.in-Err-TooDeep.ensures.given))

pub returns-in-Err-TooDeep : goal.returns-in-Err-TooDeep
returns-in-Err-TooDeep c =
    at_fault c.args.language TooDeep c.line_from-line-in-Err-TooDeep.result c.args.tokens.now c.loop-rest.rest.now c.in-Err-TooDeep.place.now
    c.args.items.now.items c.loop-rest.items.items c.loop-rest.invariant c.loop-rest-test.ensures
    (rw c.in-Err-TooDeep.field-0-is at c.in-Err-TooDeep.ensures.given)
    (deep_some c.args.language c.loop-rest.rest.now c.in-Err-TooDeep.place.now (rw c.in-Err-TooDeep.field-0-is at c.in-Err-TooDeep.ensures.given))
    (rw c.in-Err-TooDeep.field-0-is at c.line_from-line-in-Err-TooDeep.ensures)
