-- What the canonical text of a program keeps of it.
use Rattle.std.specs.Prelude.{◌≡◌, ℕ, List, Ok}
use Rattle.pst_lex.specs.declared.types.Token.{Token}
use Rattle.pst_lex.specs.declared.types.Tokens.{Tokens}
use Rattle.pst_lex.specs.declared.faults.LexFault.{LexFault}
use Rattle.pst_lex.specs.Lexing.{AreWords, LexedAs, Lexes, Faults, words_of}
use Rattle.pst_grammar.specs.declared.declaration.Tree.{Tree}
use Rattle.pst_grammar.specs.Syntax as tree
use Rattle.pst_grammar.specs.View.{text_of}
use Rattle.pst_grammar.specs.Lexemes.{lexemes}
use Rattle.pst_grammar.specs.Forms.{IsProgram, IsShallow}
use Rattle.pst_grammar.specs.Spelling.{Program, program}
use Rattle.pst_grammar.specs.Grammar.{Spells}
use Rattle.pst_parse.specs.Answers.{Found}
use Rattle.pst_notation.specs.Canonical.{canonical}
use Rattle.pst_notation.specs.Lines.{lineless}
use Rattle.pst_notation.specs.Tokens.{program_words}

-- A program whose tokens are such as a text may have: its names are names, and its numbers are numbers.
abbrev pub IsWritten : Program → Type 0
IsWritten p = AreWords (program_words p)

-- the tokens are those of a program within the limits that is this one, lines apart
abbrev pub AreTokensOf : (h d : ℕ) → tree.ProgramText → List Token → Type 0
AreTokensOf h d whole tokens = (q : Program) × IsShallow h d (program q) × Spells (lexemes tokens) q × (lineless (program q) ≡ lineless whole)

-- the tokens are those of no program but this one, lines apart
abbrev pub AreTokensOfNoOther : tree.ProgramText → List Token → Type 0
AreTokensOfNoOther whole tokens = (q : Program) → IsProgram (program q) → Spells (lexemes tokens) q → lineless (program q) ≡ lineless whole

-- the canonical text has the tokens of the program, lines apart
abbrev pub HasItsTokens : tree.ProgramText → Type 0
HasItsTokens whole = (p : Program) → program p ≡ whole → IsWritten p → LexedAs (canonical whole) (program_words p)

-- the canonical text has no fault
abbrev pub HasNoFault : tree.ProgramText → Type 0
HasNoFault whole = (p : Program) (f : LexFault) → program p ≡ whole → IsWritten p → Faults (canonical whole) f → ⊥

-- the tokens of the canonical text are those of the program, lines apart, within the limits that it keeps
abbrev pub ReadsBack : tree.ProgramText → Type 0
ReadsBack whole = (h d : ℕ) (p : Program) → program p ≡ whole → IsWritten p → IsShallow h d whole → (ts : List Token) (end : ℕ) → Lexes (canonical whole) ts end → AreTokensOf h d whole ts

-- and those of no other program
abbrev pub ReadsAsNoOther : tree.ProgramText → Type 0
ReadsAsNoOther whole = (p : Program) → program p ≡ whole → IsWritten p → IsProgram whole → (ts : List Token) (end : ℕ) → Lexes (canonical whole) ts end → AreTokensOfNoOther whole ts

-- a program that is the same, lines apart, has the same canonical text
abbrev pub DropsLines : tree.ProgramText → Type 0
DropsLines whole = (other : tree.ProgramText) → lineless other ≡ lineless whole → canonical other ≡ canonical whole

-- the text was read as these tokens, and they as this tree, within the limits
abbrev pub IsReadAs : (h d : ℕ) → List ℕ → Tokens → Tree → Type 0
IsReadAs h d text tokens tree = Lexes text tokens.list tokens.end × Found h d (Ok tree) tokens

-- the canonical text of the tree that a text was read as has the tokens of that text, places and lines apart
abbrev pub KeepsTokens : List ℕ → Tree → Type 0
KeepsTokens text tree = (h d : ℕ) (tokens : Tokens) → IsReadAs h d text tokens tree → LexedAs (canonical (text_of tree)) (words_of tokens.list)

-- the tokens of the canonical text of such a tree are those of the tree, lines apart, within the same limits, and of no other
abbrev pub KeepsTree : List ℕ → Tree → Type 0
KeepsTree text tree =
    (h d : ℕ) (tokens : Tokens) → IsReadAs h d text tokens tree → (ts : List Token) (end : ℕ) → Lexes (canonical (text_of tree)) ts end → AreTokensOf h d (text_of tree) ts × AreTokensOfNoOther (text_of tree) ts
