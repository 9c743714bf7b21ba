use Rattle.std.proofs.Common.{◌≡◌, ◌≤◌, length}
use Rattle.std.specs.Prelude.{map}
use Rattle.pst_grammar.specs.View.{local_of}
use Rattle.pst_parse_expressions.specs.View.{lexemes_of}
use Rattle.pst_grammar.specs.Reader.{many}
use Rattle.pst_grammar.specs.Declarations.{local, starts_local}
use Rattle.pst_parse_statements.proofs.Loops.{behind}
use Rattle.pst_parse_declarations.proofs.declarations.locals.Given as goal

abbrev pub invariant-loop-alloc : goal.invariant-loop-alloc
invariant-loop-alloc l =
    (length l.rest ≤ length l.fn.tokens) × (behind (map local_of l.items.items) (many starts_local local (lexemes_of l.rest)) ≡ many starts_local local (lexemes_of l.fn.tokens))

abbrev pub decreases-loop-alloc : goal.decreases-loop-alloc
decreases-loop-alloc l = length l.rest
