-- Reading answers as the grammar does, within any limits of depth. Each statement is what a function without code ensures.
use Rattle.std.specs.Prelude.{◌≡◌, ℕ, List, [], ◌∷◌, ◌++◌}
use Rattle.pst_grammar.specs.Syntax as tree
use Rattle.pst_grammar.specs.Lexemes.{Lexeme}
use Rattle.pst_grammar.specs.Forms.{IsShallow}
use Rattle.pst_grammar.specs.Spelling.{Program, program}
use Rattle.pst_grammar.specs.Grammar.{Spells, IsUnexpected, IsTooDeep}
use Rattle.pst_grammar.specs.Reader.{Read, Got, Bad, Fault, Unexpected, TooDeep}
use Rattle.pst_grammar.specs.Declarations.{item, reading_program}

-- what is read is a program within the limits, up to the end
abbrev pub ReadsPrograms : Type 0
ReadsPrograms = (h d : ℕ) (ts rest : List Lexeme) (whole : tree.ProgramText) → reading_program h d ts ≡ Got whole rest
    → (rest ≡ []) × ((p : Program) × (program p ≡ whole) × IsShallow h d whole × Spells ts p)

-- each program within the limits is read
abbrev pub ReadsEachProgram : Type 0
ReadsEachProgram = (h d : ℕ) (ts : List Lexeme) (p : Program) → IsShallow h d (program p) → Spells ts p → reading_program h d ts ≡ Got (program p) []

-- where an unexpected token or end is found, no program goes on so
abbrev pub FindsUnexpected : Type 0
FindsUnexpected = (h d : ℕ) (ts rest : List Lexeme) → reading_program h d ts ≡ Bad Unexpected rest → (before : List Lexeme) × (ts ≡ before ++ rest) × IsUnexpected h d before rest

-- where a token is found too deep, only programs beyond the limits go on so
abbrev pub FindsTooDeep : Type 0
FindsTooDeep = (h d : ℕ) (ts rest : List Lexeme) → reading_program h d ts ≡ Bad TooDeep rest → (before : List Lexeme) × (ts ≡ before ++ rest) × IsTooDeep h d before rest

-- what stands behind what was read, or from a fault on, ends the tokens
abbrev pub IsBehind : {A : Type 0} → Read A → List Lexeme → Type 0
IsBehind (Got a rest) ts = (front : List Lexeme) × (ts ≡ front ++ rest)
IsBehind (Bad fault rest) ts = (front : List Lexeme) × (ts ≡ front ++ rest)

-- what is read as a declaration stays so, whatever follows
abbrev pub ReadStays : Type 0
ReadStays = (l h d : ℕ) (ts rest more : List Lexeme) (a : tree.Item) → item l h d ts ≡ Got a rest → item l h d (ts ++ more) ≡ Got a (rest ++ more)

-- a fault that is found in a declaration at a token stays so, whatever follows
abbrev pub FaultStays : Type 0
FaultStays = (l h d : ℕ) (ts rest more : List Lexeme) (t : Lexeme) (fault : Fault) → item l h d ts ≡ Bad fault (t ∷ rest) → item l h d (ts ++ more) ≡ Bad fault (t ∷ rest ++ more)

-- at the end of the tokens no declaration is found too deep
abbrev pub EndIsNotTooDeep : Type 0
EndIsNotTooDeep = (l h d : ℕ) (ts : List Lexeme) → item l h d ts ≡ Bad TooDeep [] → ⊥

-- a declaration is read from the front of the tokens, and a fault stands behind some of them
abbrev pub ReadsFromFront : Type 0
ReadsFromFront = (l h d : ℕ) (ts : List Lexeme) → IsBehind (item l h d ts) ts
