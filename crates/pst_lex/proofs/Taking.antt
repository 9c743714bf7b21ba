-- Lemmas on taking the tokens of a text one after another.
use Rattle.std.specs.Prelude.{◌≡◌, ◌==◌, ℕ, ◌++◌, Bool, false, List, [], ◌∷◌, Err}
use Rattle.std.proofs.Common.{refl, sym, ap, ◌∙◌, arith}
use Rattle.pst_lex.specs.declared.types.Token.{Token}
use Rattle.pst_lex.specs.declared.faults.LexFault.{LexFault}
use Rattle.pst_lex.specs.declared.lexer.Lexer.{Lexer}
use Rattle.pst_lex.specs.Words.{word_of}
use Rattle.pst_lex.specs.Lexing.{LexedTo, EndsAt, FaultsAt, HasLexing, Scans}
use Rattle.pst_lex.specs.Pieces.{Leaves}
use Rattle.pst_lex.specs.Taking.{Passes, EndsThere, bytes_left}
use Rattle.pst_lex.proofs.Rows.{lexed-append, lexed_ends, none_left, zero_test}
use Rattle.pst_lex.proofs.Unique.{first_same, end_no_token, not_both_from}

-- the same at a place that is the same
left_at : (end : ℕ) (rest rest' : List ℕ) (at at' line line' : ℕ) (tokens : List Token) → rest ≡ rest' → at ≡ at' → line ≡ line'
    → LexedTo (EndsAt end) rest at line tokens → LexedTo (EndsAt end) rest' at' line' tokens
left_at end rest rest' at at' line line' tokens r a l h = rw (← r, ← a, ← l) h

-- the token that is taken is the first of those that are left
pub token_of : (text rest : List ℕ) (at line at' line' end : ℕ) (t : Token) (tokens : List Token) → LexedTo (λ r a l. (r ≡ rest) × (a ≡ at') × (l ≡ line')) text at line (t ∷ []) →
    LexedTo (EndsAt end) text at line tokens → (more : List Token) × (tokens ≡ t ∷ more) × LexedTo (EndsAt end) rest at' line' more
token_of text rest at line at' line' end t [] (blank, w, behind, is, g, tok, f, to, ln, more) h = absurd (end_no_token end (text, at, line, h, (word_of t.kind, blank, w, behind, is, g, tok)))
token_of text rest at line at' line' end t (u ∷ us) p h =
    let (same, behind, a', l', (r, a, l), left) = first_same (λ r a l. (r ≡ rest) × (a ≡ at') × (l ≡ line')) (EndsAt end) text at line t u [] us p h in
    (us, ap (λ x. x ∷ us) (sym same), left_at end behind rest a' at' l' line' us r a l left)

-- where the end is reached, no token is left
pub end_of : (text rest : List ℕ) (at line at' line' end : ℕ) (tokens : List Token) → EndsAt line' text at line → rest ≡ [] → LexedTo (EndsAt end) text at line tokens →
    (tokens ≡ []) × EndsAt end rest at' line'
end_of text rest at line at' line' end [] (inside, g, e) none (inside', g', e') = (refl, (false, rw none refl, rw none (e' ∙ sym e ∙ omega arith)))
end_of text rest at line at' line' end (t ∷ tokens) (inside, g, e) none (blank, w, behind, is, gp, tok, f, to, ln, more) =
    absurd (end_no_token line' (text, at, line, (inside, g, e), (word_of t.kind, blank, w, behind, is, gp, tok)))

-- where tokens are left up to the end, no fault stands
pub no_fault_of : (f : LexFault) (text : List ℕ) (at line : ℕ) (tokens : List Token) (end : ℕ) → FaultsAt f text at line → LexedTo (EndsAt end) text at line tokens → ⊥
no_fault_of f text at line tokens end bad h = not_both_from text at line tokens [] end f h bad

left_none : (text : List ℕ) (at line : ℕ) (tokens : List Token) (end : ℕ) → text ≡ [] → LexedTo (EndsAt end) text at line tokens → (tokens ≡ []) × (end ≡ line)
left_none text at line [] end none (inside, g, e) = (refl, e ∙ rw none (omega arith))
left_none text at line (t ∷ tokens) end none (blank, w, rest, is, gp, tok, f, to, ln, more) =
    absurd (end_no_token line (text, at, line, (false, rw none refl, rw none (omega arith)), (word_of t.kind, blank, w, rest, is, gp, tok)))

pub ends_there : (answer : Bool) (lexer : Lexer) → answer ≡ (bytes_left lexer == 0) → EndsThere answer lexer
ends_there answer lexer e done tokens end h = left_none lexer.rest.now lexer.at lexer.line tokens end (none_left lexer.rest.now (zero_test (bytes_left lexer) (sym done ∙ e))) h

-- ---- the whole of a text

-- one more token was looked at
pub looked_more : (text : List ℕ) (ts : List Token) (t : Token) (old new : Lexer) → Leaves text ts old.rest.now old.at old.line
    → Passes old (t ∷ []) new → Leaves text (ts ++ t ∷ []) new.rest.now new.at new.line
looked_more text ts t old new h p = lexed-append (λ r a l. (r ≡ new.rest.now) × (a ≡ new.at) × (l ≡ new.line)) text old.rest.now 0 1 old.at old.line ts (t ∷ []) h p

-- all tokens were looked at
pub looked_all : (text : List ℕ) (ts : List Token) (old : Lexer) (end : ℕ) → Leaves text ts old.rest.now old.at old.line → EndsAt end old.rest.now old.at old.line → HasLexing text
looked_all text ts old end h ends = (ts, end, lexed_ends (EndsAt end) text old.rest.now 0 1 old.at old.line ts h ends)

-- a fault stands behind those that were looked at
pub looked_bad : (text : List ℕ) (ts : List Token) (old : Lexer) (f : LexFault) → Leaves text ts old.rest.now old.at old.line → FaultsAt f old.rest.now old.at old.line → Scans (Err f) text
looked_bad text ts old f h bad = (ts, lexed_ends (FaultsAt f) text old.rest.now 0 1 old.at old.line ts h bad)
