use Rattle.std.proofs.Common.{◌≡◌, ◌<◌, length}
use Rattle.std.specs.Prelude.{map}
use Rattle.pst_grammar.specs.View.{local_of}
use Rattle.pst_parse_expressions.specs.View.{lexemes_of}
use Rattle.pst_grammar.specs.Reader.{listed}
use Rattle.pst_grammar.specs.Declarations.{parameter}
use Rattle.pst_parse_statements.proofs.Loops.{closing}
use Rattle.pst_parse_declarations.proofs.declarations.parameters.Given as goal

abbrev pub invariant-loop-next : goal.invariant-loop-next
invariant-loop-next l =
    (length l.rest < length l.fn.tokens) × (closing parameter (map local_of l.items.items) (lexemes_of l.rest) ≡ listed parameter (lexemes_of l.fn.tokens))

abbrev pub decreases-loop-next : goal.decreases-loop-next
decreases-loop-next l = length l.rest
