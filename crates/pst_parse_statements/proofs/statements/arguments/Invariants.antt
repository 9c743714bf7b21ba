use Rattle.std.proofs.Common.{◌≡◌, ◌<◌, length}
use Rattle.std.specs.Prelude.{map}
use Rattle.pst_grammar.specs.View.{expr_of}
use Rattle.pst_parse_expressions.specs.View.{lexemes_of}
use Rattle.pst_grammar.specs.Reading.{read}
use Rattle.pst_grammar.specs.Statements.{arguments}
use Rattle.pst_parse_statements.proofs.Loops.{closing}
use Rattle.pst_parse_statements.proofs.statements.arguments.Given as goal

abbrev pub invariant-loop-next : goal.invariant-loop-next
invariant-loop-next l =
    (length l.rest < length l.fn.tokens) × (closing (read l.fn.language l.fn.height 0) (map expr_of l.items.items) (lexemes_of l.rest) ≡ arguments l.fn.language l.fn.height (lexemes_of l.fn.tokens))

abbrev pub decreases-loop-next : goal.decreases-loop-next
decreases-loop-next l = length l.rest
