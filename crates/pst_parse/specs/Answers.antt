-- What the parser answers, in the grammar's words.
use Rattle.std.specs.Prelude.{◌≡◌, ℕ, List, [], ◌∷◌, ◌++◌, Result, Ok, Err, MatchResult}
use Rattle.pst_lex.specs.declared.types.Token.{Token}
use Rattle.pst_lex.specs.declared.types.Tokens.{Tokens}
use Rattle.pst_lex.specs.Lexing.{Lexes}
use Rattle.pst_grammar.specs.declared.declaration.Tree.{Tree}
use Rattle.pst_grammar.specs.View.{text_of}
use Rattle.pst_grammar.specs.Lexemes.{lexemes}
use Rattle.pst_grammar.specs.Forms.{IsShallow}
use Rattle.pst_grammar.specs.Spelling.{Program, program}
use Rattle.pst_grammar.specs.Grammar.{Spells, IsUnexpected, IsTooDeep, IsFirstFaultOn}
use Rattle.pst_grammar.specs.Reader.{Read, Fault, Got, Bad, Unexpected, TooDeep}
use Rattle.pst_grammar.specs.Declarations.{reading_program}
use Rattle.pst_parse_expressions.specs.declared.lexeme.Atom.{Atom}
use Rattle.pst_parse_expressions.specs.View.{atom_line, atoms_of, lexemes_of}
use Rattle.pst_parse.specs.declared.fault.ParseFault.{ParseFault}
use Rattle.pst_parse.specs.declared.fault.ParseFault.TheVariants as fault

-- a tree that was found is that of a program within the limits, whose tokens these are
abbrev pub Found : ℕ → ℕ → Result Tree ParseFault → Tokens → Type 0
Found h d (Ok tree) tokens = (p : Program) × (program p ≡ text_of tree) × IsShallow h d (text_of tree) × Spells (lexemes tokens.list) p
Found h d (Err e) tokens = Unit {0}

-- where the tokens are those of a program within the limits, its tree is found, unless memory ran out
abbrev pub FindsOnly : ℕ → ℕ → Result Tree ParseFault → Tokens → Type 0
FindsOnly h d answer tokens =
    (p : Program) → IsShallow h d (program p) → Spells (lexemes tokens.list) p → MatchResult answer (λ tree. text_of tree ≡ program p) (λ e. e ≡ fault.Memory)

-- `Unexpected` has the line of that first fault
abbrev pub FaultsUnexpected : ℕ → ℕ → Result Tree ParseFault → Tokens → Type 0
FaultsUnexpected h d (Err (fault.Unexpected line)) tokens = IsFirstFaultOn (IsUnexpected h d) tokens line
FaultsUnexpected h d answer tokens = Unit {0}

-- `TooDeep` has the line of that first fault
abbrev pub FaultsTooDeep : ℕ → ℕ → Result Tree ParseFault → Tokens → Type 0
FaultsTooDeep h d (Err (fault.TooDeep line)) tokens = IsFirstFaultOn (IsTooDeep h d) tokens line
FaultsTooDeep h d answer tokens = Unit {0}

-- so it is of the tokens that the text has
abbrev pub OfItsTokens : List ℕ → (Tokens → Type 0) → Type 0
OfItsTokens text Is = (tokens : Tokens) → Lexes text tokens.list tokens.end → Is tokens

-- ---- in the words of reading

-- the line of the first of the tokens, or of the end
abbrev pub first_line : ℕ → List Atom → ℕ
first_line end [] = end
first_line end (t ∷ ts) = atom_line t

-- this fault was found at one of the tokens or at the end, and has its line
abbrev pub StopsOn : {A : Type 0} → Fault → (line : ℕ) → Read A → List Atom → (end : ℕ) → Type 0
StopsOn fault line read tokens end = (before : List Atom) × (rest : List Atom) × (tokens ≡ before ++ rest) × (read ≡ Bad fault (lexemes_of rest)) × (line ≡ first_line end rest)

-- what is answered of a program, its tokens and the line of their end
abbrev pub IsReading : Result Tree ParseFault → List Atom → (end : ℕ) → Type 0
IsReading (Ok tree) tokens end = reading_program 63 15 (lexemes_of tokens) ≡ Got (text_of tree) []
IsReading (Err (fault.Unexpected line)) tokens end = StopsOn Unexpected line (reading_program 63 15 (lexemes_of tokens)) tokens end
IsReading (Err (fault.TooDeep line)) tokens end = StopsOn TooDeep line (reading_program 63 15 (lexemes_of tokens)) tokens end
IsReading (Err fault.Memory) tokens end = Unit {0}

-- the same of the tokens that the text has
abbrev pub Parses : Result Tree ParseFault → List ℕ → Type 0
Parses answer text = (tokens : List Token) (end : ℕ) → Lexes text tokens end → IsReading answer (atoms_of tokens) end
