-- What the parts of the lexer answer at the front of a text.
use Rattle.std.specs.Prelude.{◌≡◌, ◌==◌, ℕ, ◌+◌, ◌^◌, ◌≤◌, ◌<◌, Bool, true, false, List, [], ◌∷◌, length, Option, Some, None, Result, Ok, Err, take, drop, slice_index, ◌⊎◌}
use Rattle.std.specs.Fmt.{decimal}
use Rattle.pst_lex.specs.declared.types.TokenKind.{TokenKind}
use Rattle.pst_lex.specs.declared.words.Mark.{Mark}
use Rattle.pst_lex.specs.declared.faults.LexFault.{LexFault}
use Rattle.pst_lex.specs.declared.faults.LexFault.TheVariants as fault
use Rattle.pst_lex.specs.declared.types.Token.{Token}
use Rattle.pst_lex.specs.Bytes.{is_symbol, NoPair, EndsWord, gap_step, gap, feeds}
use Rattle.pst_lex.specs.Words.{word_of, mark_text}
use Rattle.pst_lex.specs.Lexing.{LexedTo, IsToken, IsFault, line_of}

-- the digits write this number
abbrev pub Writes : Option ℕ → List ℕ → Type 0
Writes (Some n) w = (n < 2 ^ 63) × (w ≡ decimal n)
Writes None w = (n : ℕ) → n < 2 ^ 63 → w ≡ decimal n → ⊥

-- a zero stands in front of more
abbrev pub leading_zero : List ℕ → Bool
leading_zero [] = false
leading_zero (b ∷ []) = false
leading_zero (b ∷ c ∷ w) = b == 48

-- the symbol that one byte is
abbrev pub IsSingle : Option Mark → ℕ → Type 0
IsSingle (Some m) a = mark_text m ≡ a ∷ []
IsSingle None a = is_symbol a ≡ false

-- the symbol of two bytes that stands in front
abbrev pub IsPair : Option Mark → List ℕ → Type 0
IsPair (Some m) [] = ⊥
IsPair (Some m) (a ∷ []) = ⊥
IsPair (Some m) (a ∷ b ∷ rest) = mark_text m ≡ a ∷ b ∷ []
IsPair None [] = Unit {0}
IsPair None (a ∷ rest) = NoPair a rest

-- the token that a word is, whatever follows it but more of the word
abbrev pub IsNameKind : TokenKind → List ℕ → Type 0
IsNameKind kind w = (rest : List ℕ) → EndsWord rest → IsToken (word_of kind) w rest

-- after these tokens exactly the rest is left, at this place and line
abbrev pub Leaves : List ℕ → List Token → List ℕ → ℕ → ℕ → Type 0
Leaves text tokens rest at line = LexedTo (λ r a l. (r ≡ rest) × (a ≡ at) × (l ≡ line)) text 0 1 tokens

-- How many bytes stand before the next token, and the line behind them: they go up to the end, or to a byte that does not stand between tokens. Or a byte that may not stand in a text, in a comment.
abbrev pub Skips : Result (ℕ × ℕ) LexFault → List ℕ → ℕ → Type 0
Skips (Ok x) text line =
    (x.0 ≤ length text) × (x.1 ≡ line + feeds (take x.0 text)) × ((inside : Bool) × (gap false (take x.0 text) ≡ Some inside)
    × ((x.0 ≡ length text) ⊎ ((inside ≡ false) × (x.0 < length text) × (gap_step false (slice_index text x.0) ≡ None))))
Skips (Err f) text line =
    (n : ℕ) × (n < length text) × (gap false (take n text) ≡ Some true) × (gap_step true (slice_index text n) ≡ None) × (f ≡ fault.Byte (line + feeds (take n text)))

-- a token at the front and its length, or a fault there
abbrev pub Takes : Result (TokenKind × ℕ) LexFault → List ℕ → ℕ → Type 0
Takes (Ok x) text line = (x.1 ≤ length text) × (0 < x.1) × IsToken (word_of x.0) (take x.1 text) (drop x.1 text)
Takes (Err f) text line = IsFault f false text × (line_of f ≡ line)
