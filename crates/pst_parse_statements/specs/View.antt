-- What the code's values are as definitions see them.
use Rattle.std.specs.Prelude.{ℕ, Bool, false, List, [], ◌∷◌, map}
use Rattle.pst_grammar.specs.declared.expression.Expression.{Expression}
use Rattle.pst_grammar.specs.declared.statement.Statement.{Statement}
use Rattle.pst_grammar.specs.Syntax as tree
use Rattle.pst_grammar.specs.View.{expr_of, phrase_of}
use Rattle.pst_grammar.specs.declared.lexeme.Lead.{Lead}
use Rattle.pst_grammar.specs.Lexemes.{Lexeme}
use Rattle.pst_grammar.specs.Reader.{Read}
use Rattle.pst_grammar.specs.Statements.{led, inner}
use Rattle.pst_parse_expressions.specs.declared.lexeme.Atom.{Atom}
use Rattle.pst_parse_expressions.specs.View.{lexemes_of}

abbrev pub exprs_of : List Expression → List tree.Expr
exprs_of es = map expr_of es

-- whether such a token stands there
abbrev pub begins : (Lexeme → Bool) → List Lexeme → Bool
begins starts [] = false
begins starts (t ∷ ts) = starts t

-- a statement with its line
abbrev pub stated_of : Statement → ℕ × tree.Phrase
stated_of s = (s.line, phrase_of s.form)

-- what the reading of a statement gives behind its word, which `tokens` begin with, where its blocks may nest that deep
abbrev pub reading_behind : Lead → (language height nesting : ℕ) → (tokens rest : List Atom) → Read tree.Phrase
reading_behind word language height nesting tokens rest = led language (inner language height nesting) height nesting word (lexemes_of tokens) (lexemes_of rest)
