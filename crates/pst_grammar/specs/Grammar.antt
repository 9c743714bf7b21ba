-- Which tokens are a program of either language, and where the first fault stands.
use Rattle.std.specs.Prelude.{◌≡◌, ℕ, List, [], ◌∷◌, ◌++◌}
use Rattle.pst_lex.specs.declared.types.Token.{Token}
use Rattle.pst_lex.specs.declared.types.Tokens.{Tokens}
use Rattle.pst_lex.specs.Lexing.{Lexes}
use Rattle.pst_grammar.specs.Syntax as tree
use Rattle.pst_grammar.specs.Lexemes.{Lexeme, lexemes}
use Rattle.pst_grammar.specs.Forms.{IsProgram, IsShallow}
use Rattle.pst_grammar.specs.Spelling.{Program, program, spelled_program}

-- the tokens are those of the program
abbrev pub Spells : List Lexeme → Program → Type 0
Spells tokens p = spelled_program p [] ≡ tokens

-- some program begins with the tokens
abbrev pub Begins : (tree.ProgramText → Type 0) → List Lexeme → Type 0
Begins Is tokens = (p : Program) × (rest : List Lexeme) × Is (program p) × Spells (tokens ++ rest) p

-- the text has tokens, and they are those of a program with this tree, which keeps the limits of depth
abbrev pub HasTree : List ℕ → tree.ProgramText → Type 0
HasTree text whole = (tokens : Tokens) × Lexes text tokens.list tokens.end × ((p : Program) × (program p ≡ whole) × IsShallow 63 15 whole × Spells (lexemes tokens.list) p)

-- The first fault stands after the tokens before, at the first of the tokens from there on, or at the end:
-- programs within the limits begin with those before; no program begins with those and that one.
abbrev pub IsUnexpected : ℕ → ℕ → List Lexeme → List Lexeme → Type 0
IsUnexpected h d before [] = Begins (IsShallow h d) before × ((p : Program) → IsProgram (program p) → Spells before p → ⊥)
IsUnexpected h d before (t ∷ ts) = Begins (IsShallow h d) before × (Begins IsProgram (before ++ (t ∷ [])) → ⊥)

-- programs within the limits begin with those before; programs begin with those and that one, and each breaks a limit
abbrev pub IsTooDeep : ℕ → ℕ → List Lexeme → List Lexeme → Type 0
IsTooDeep h d before [] = ⊥
IsTooDeep h d before (t ∷ ts) =
    Begins (IsShallow h d) before × Begins IsProgram (before ++ (t ∷ [])) × (Begins (IsShallow h d) (before ++ (t ∷ [])) → ⊥)

-- the line of the first of the tokens, or of the end
abbrev pub line_at : ℕ → List Token → ℕ
line_at end [] = end
line_at end (t ∷ ts) = t.line

-- a fault that stands so, on that line
abbrev pub IsFirstFaultOn : (List Lexeme → List Lexeme → Type 0) → Tokens → ℕ → Type 0
IsFirstFaultOn Is tokens line =
    (before rest : List Token) × (tokens.list ≡ before ++ rest) × Is (lexemes before) (lexemes rest) × (line ≡ line_at tokens.end rest)

-- tokens are those of at most one program, whatever its depth
abbrev pub HasOneTree : List Token → Type 0
HasOneTree tokens = (p q : Program) → IsProgram (program p) → IsProgram (program q) → Spells (lexemes tokens) p → Spells (lexemes tokens) q → program p ≡ program q
