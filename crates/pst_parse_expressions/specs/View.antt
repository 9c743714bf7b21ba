-- What the code's answers say of a reading.
use Rattle.std.specs.Prelude.{◌≡◌, ℕ, false, List, [], ◌∷◌, map, Result, Ok, Err}
use Rattle.std.specs.Borrow.{Bor}
use Rattle.pst_lex.specs.declared.types.Token.{Token}
use Rattle.pst_lex.specs.Words as word
use Rattle.pst_lex.specs.Words.{Word, word_of}
use Rattle.pst_parse_expressions.specs.declared.lexeme.Atom.{Atom}
use Rattle.pst_parse_expressions.specs.declared.lexeme.Atom.TheVariants as atom
use Rattle.pst_grammar.specs.declared.expression.Expression.{Expression}
use Rattle.pst_grammar.specs.Syntax as tree
use Rattle.pst_grammar.specs.View.{expr_of}
use Rattle.pst_grammar.specs.Depth.{height}
use Rattle.pst_grammar.specs.declared.lexeme.Sign.{Sign}
use Rattle.pst_grammar.specs.Lexemes.{Lexeme, Name, Number, Operator, Plain, Leading, marked}
use Rattle.pst_grammar.specs.Reader.{Read, Got, Bad, Unexpected, TooDeep, is}
use Rattle.pst_parse_expressions.specs.declared.lexeme.Lexeme as code
use Rattle.pst_parse_expressions.specs.declared.lexeme.Lexeme.TheVariants as seen
use Rattle.pst_parse_expressions.specs.declared.stop.Stop.{Stop}
use Rattle.pst_parse_expressions.specs.declared.stop.Stop.TheVariants as stop

-- what is kept of a token on a line
abbrev pub atom_on : ℕ → Word → Atom
atom_on line (word.Name x) = atom.Name x line
atom_on line (word.Number v) = atom.Number v line
atom_on line (word.Fixed m) = atom.Mark m line

-- what is kept of a token
abbrev pub atom_of : Token → Atom
atom_of t = atom_on t.line (word_of t.kind)

abbrev pub atoms_of : List Token → List Atom
atoms_of ts = map atom_of ts

abbrev pub atom_line : Atom → ℕ
atom_line (atom.Name x line) = line
atom_line (atom.Number v line) = line
atom_line (atom.Mark m line) = line

-- what is kept, as the grammar sees it
abbrev pub lexeme_of : Atom → Lexeme
lexeme_of (atom.Name x line) = Name (record { line = line; name = x })
lexeme_of (atom.Number v line) = Number v
lexeme_of (atom.Mark m line) = marked line m

abbrev pub lexemes_of : List Atom → List Lexeme
lexemes_of atoms = map lexeme_of atoms

-- the code's token as the grammar sees it
abbrev pub as_read : code.Lexeme → Lexeme
as_read (seen.Name line x) = Name (record { line = line; name = x.now })
as_read (seen.Number v) = Number v
as_read (seen.Operator o) = Operator o
as_read (seen.Plain s) = Plain s
as_read (seen.Leading l line) = Leading l line

-- the fault that stopped the code is the reading's, unless memory ran out
abbrev pub Stops : {A : Type 0} → Stop → Read A → Type 0
Stops (stop.Unexpected s) read = read ≡ Bad Unexpected (lexemes_of s.now)
Stops (stop.TooDeep s) read = read ≡ Bad TooDeep (lexemes_of s.now)
Stops stop.Memory read = Unit {0}

-- the code's answer, seen as a definition's value, is the reading's, with the tokens after it
abbrev pub Gives : {X A : Type 0} → (X → A) → Result (X × Bor (List Atom)) Stop → Read A → Type 0
Gives view (Ok x) read = read ≡ Got (view x.0) (lexemes_of x.1.now)
Gives view (Err e) read = Stops e read

-- the same where only the tokens after it are given
abbrev pub GivesRest : Result (Bor (List Atom)) Stop → Read (Unit {0}) → Type 0
GivesRest (Ok rest) read = read ≡ Got tt (lexemes_of rest.now)
GivesRest (Err e) read = Stops e read

-- the same of an expression, with its height
abbrev pub GivesTree : Result (Expression × ℕ × Bor (List Atom)) Stop → Read tree.Expr → Type 0
GivesTree (Ok x) read = (read ≡ Got (expr_of x.0) (lexemes_of x.2.now)) × (x.1 ≡ height (expr_of x.0))
GivesTree (Err e) read = Stops e read

abbrev pub itself : {A : Type 0} → A → A
itself a = a

-- the sign does not stand there
abbrev pub Lacks : Sign → List Lexeme → Type 0
Lacks s [] = Unit {0}
Lacks s (t ∷ ts) = is s t ≡ false
