-- Taking the tokens of a text one after another.
use Rattle.std.specs.Prelude.{◌≡◌, ◌==◌, ℕ, Bool, true, List, [], ◌∷◌, length, Option, Some, None, Result, Ok, Err}
use Rattle.pst_lex.specs.declared.types.Token.{Token}
use Rattle.pst_lex.specs.declared.faults.LexFault.{LexFault}
use Rattle.pst_lex.specs.declared.lexer.Lexer.{Lexer}
use Rattle.pst_lex.specs.Lexing.{LexedTo, EndsAt, FaultsAt}

-- nothing of the text was taken
abbrev pub BeginsAt : Lexer → List ℕ → Type 0
BeginsAt lexer text = (lexer.rest.now ≡ text) × (lexer.at ≡ 0) × (lexer.line ≡ 1)

-- these tokens are left, and the end has this line
abbrev pub Left : Lexer → List Token → (end : ℕ) → Type 0
Left lexer tokens end = LexedTo (EndsAt end) lexer.rest.now lexer.at lexer.line tokens

-- these tokens are taken
abbrev pub Passes : (old : Lexer) → List Token → (new : Lexer) → Type 0
Passes old tokens new = LexedTo (λ rest at line. (rest ≡ new.rest.now) × (at ≡ new.at) × (line ≡ new.line)) old.rest.now old.at old.line tokens

-- one token is taken; or the end of the text is reached, on its line; or a fault stands there, and nothing is taken
abbrev pub TakesNext : Result (Option Token) LexFault → (old new : Lexer) → Type 0
TakesNext (Ok (Some t)) old new = Passes old (t ∷ []) new
TakesNext (Ok None) old new = EndsAt new.line old.rest.now old.at old.line × (new.rest.now ≡ [])
TakesNext (Err f) old new = FaultsAt f old.rest.now old.at old.line × Passes old [] new

-- what is taken of a text that has these tokens left
abbrev pub TakesOf : Result (Option Token) LexFault → (new : Lexer) → List Token → (end : ℕ) → Type 0
TakesOf (Ok (Some t)) new tokens end = (more : List Token) × (tokens ≡ t ∷ more) × Left new more end
TakesOf (Ok None) new tokens end = (tokens ≡ []) × Left new [] end
TakesOf (Err f) new tokens end = ⊥

-- where tokens are left, the first of them is taken
abbrev pub TakesFromLeft : Result (Option Token) LexFault → (old new : Lexer) → Type 0
TakesFromLeft result old new = (tokens : List Token) (end : ℕ) → Left old tokens end → TakesOf result new tokens end

abbrev pub bytes_left : Lexer → ℕ
bytes_left lexer = length lexer.rest.now

abbrev pub line_reached : Lexer → ℕ
line_reached lexer = lexer.line

-- whether no byte is left
abbrev pub IsAtEnd : Bool → Lexer → Type 0
IsAtEnd answer lexer = answer ≡ (bytes_left lexer == 0)

-- where no byte is left, no token is, and the line behind what was taken is that of the end
abbrev pub EndsThere : Bool → Lexer → Type 0
EndsThere answer lexer = answer ≡ true → (tokens : List Token) (end : ℕ) → Left lexer tokens end → (tokens ≡ []) × (end ≡ line_reached lexer)
