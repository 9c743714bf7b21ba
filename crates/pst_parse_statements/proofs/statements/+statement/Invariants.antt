use Rattle.std.proofs.Common.{◌≡◌, ◌≤◌, length, ◌+◌, ◌*◌}
use Rattle.std.specs.Prelude.{map}
use Rattle.pst_parse_expressions.specs.View.{lexemes_of}
use Rattle.pst_grammar.specs.Reader.{many}
use Rattle.pst_grammar.specs.Statements.{reading_statement, starts}
use Rattle.pst_parse_statements.specs.View.{stated_of}
use Rattle.pst_parse_statements.proofs.Loops.{behind}
use Rattle.pst_parse_statements.proofs.statements.+statement.Given as goal

abbrev pub decreases-block : goal.decreases-block
decreases-block l = 4 * length l.tokens.now + 3

abbrev pub decreases-braced : goal.decreases-braced
decreases-braced l = 4 * length l.tokens.now + 4

abbrev pub decreases-choice : goal.decreases-choice
decreases-choice l = 4 * length l.rest.now + 4

abbrev pub decreases-led : goal.decreases-led
decreases-led l = 4 * length l.rest.now + 5

abbrev pub decreases-repeated : goal.decreases-repeated
decreases-repeated l = 4 * length l.rest.now + 4

abbrev pub decreases-statement : goal.decreases-statement
decreases-statement l = 4 * length l.tokens.now + 2

abbrev pub invariant-block-loop-alloc : goal.invariant-block-loop-alloc
invariant-block-loop-alloc l =
    (length l.rest ≤ length l.fn.tokens)
    × (behind (map stated_of l.items.items) (many starts (reading_statement l.fn.language l.fn.height l.fn.nesting) (lexemes_of l.rest)) ≡ many starts
    (reading_statement l.fn.language l.fn.height l.fn.nesting) (lexemes_of l.fn.tokens))

abbrev pub decreases-block-loop-alloc : goal.decreases-block-loop-alloc
decreases-block-loop-alloc l = length l.rest
