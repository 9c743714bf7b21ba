use Rattle.std.proofs.Common.{◌≡◌, ◌≤◌, length}
use Rattle.std.specs.Prelude.{map}
use Rattle.pst_grammar.specs.View.{field_of}
use Rattle.pst_parse_expressions.specs.View.{lexemes_of}
use Rattle.pst_grammar.specs.Reader.{many}
use Rattle.pst_grammar.specs.Declarations.{field, starts_field}
use Rattle.pst_parse_statements.proofs.Loops.{behind}
use Rattle.pst_parse_declarations.proofs.declarations.fields.Given as goal

abbrev pub invariant-loop-alloc : goal.invariant-loop-alloc
invariant-loop-alloc l =
    (length l.rest ≤ length l.fn.tokens) × (behind (map field_of l.items.items) (many starts_field (field l.fn.language) (lexemes_of l.rest)) ≡ many
    starts_field (field l.fn.language) (lexemes_of l.fn.tokens))

abbrev pub decreases-loop-alloc : goal.decreases-loop-alloc
decreases-loop-alloc l = length l.rest
