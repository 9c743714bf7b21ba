-- The next tokens of a text, and what is left of it behind them.
use Rattle.std.specs.Prelude.{◌≡◌, ◌≤◌, ◌<◌, ◌+◌, ◌⊎◌, ℕ, Bool, true, false, List, [], ◌++◌, length}
use Rattle.pst_lex.specs.declared.types.Token.{Token}
use Rattle.pst_lex.specs.declared.lexer.Lexer.{Lexer}
use Rattle.pst_lex.specs.Lexing.{Lexes, HasLexing}
use Rattle.pst_lex.specs.Pieces.{Leaves}
use Rattle.pst_lex.specs.Taking.{Left, bytes_left}
use Rattle.pst_lex.specs.declared.words.Mark.TheVariants.{Record, Root, Proc, Query}
use Rattle.pst_parse_expressions.specs.declared.lexeme.Atom.{Atom}
use Rattle.pst_parse_expressions.specs.declared.lexeme.Atom.TheVariants as atom
use Rattle.pst_parse_expressions.specs.View.{atoms_of}
use Rattle.pst_parse.specs.declared.window.Window.{Window}

-- the words that begin declarations, which stand nowhere else in a program
abbrev pub begins_declaration : Atom → Bool
begins_declaration (atom.Mark Record line) = true
begins_declaration (atom.Mark Root line) = true
begins_declaration (atom.Mark Proc line) = true
begins_declaration (atom.Mark Query line) = true
begins_declaration a = false

-- these tokens are left, as the parser has them at hand, and the end has this line
abbrev pub Follows : Lexer → List Atom → (end : ℕ) → Type 0
Follows lexer atoms end = (tokens : List Token) × (atoms ≡ atoms_of tokens) × Left lexer tokens end

-- these tokens are still to be read, up to the end on this line: those at hand, and then those that the text has left
abbrev pub Ahead : Window → List Atom → (end : ℕ) → Type 0
Ahead w tokens end = (left : List Atom) × (tokens ≡ w.tokens.items ++ left) × Follows w.lexer left end

-- a fault stands somewhere ahead
abbrev pub HasNoEnd : Window → Type 0
HasNoEnd w = (tokens : List Atom) (end : ℕ) → Ahead w tokens end → ⊥

-- what was still to be read is so
abbrev pub KeepsAhead : (old new : Window) → Type 0
KeepsAhead old new = (tokens : List Atom) (end : ℕ) → Ahead old tokens end → Ahead new tokens end

-- tokens of the text stand up to where the lexer is; or it has come to the end
abbrev pub IsReached : List ℕ → Lexer → Type 0
IsReached text lexer = ((tokens : List Token) × Leaves text tokens lexer.rest.now lexer.at lexer.line) ⊎ HasLexing text

-- no fault was passed over
abbrev pub KeepsReached : (old new : Window) → Type 0
KeepsReached old new = (text : List ℕ) → IsReached text old.lexer → IsReached text new.lexer

-- no fault stands ahead
abbrev pub ReachesEnd : Window → Type 0
ReachesEnd w = (text : List ℕ) → IsReached text w.lexer → HasLexing text

-- the tokens of the text are still to be read, and none is at hand
abbrev pub IsFrontOf : Window → List ℕ → Type 0
IsFrontOf w text = IsReached text w.lexer × (w.tokens.items ≡ []) × ((tokens : List Token) (end : ℕ) → Lexes text tokens end → Ahead w (atoms_of tokens) end)

-- no byte is left of the text, or two tokens were taken at least; and fewer bytes are left, where some were
abbrev pub IsFilled : (old new : Window) → Type 0
IsFilled old new = ((bytes_left new.lexer ≡ 0) ⊎ (length old.tokens.items + 2 ≤ length new.tokens.items)) × (0 < bytes_left old.lexer → bytes_left new.lexer < bytes_left old.lexer)

-- whether the tokens at hand are the last
abbrev pub IsLast : Bool → Window → Type 0
IsLast true w = bytes_left w.lexer ≡ 0
IsLast false w = 0 < bytes_left w.lexer

-- where no byte is left, this is the line of the end
abbrev pub EndsOn : ℕ → Window → Type 0
EndsOn line w = bytes_left w.lexer ≡ 0 → (tokens : List Atom) (end : ℕ) → Ahead w tokens end → end ≡ line
