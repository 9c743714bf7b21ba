-- Which bytes may stand where: white bytes, comments, words.
use Rattle.std.specs.Prelude.{◌≡◌, ℕ, ◌==◌, ◌&&◌, ◌||◌, nat_le, Bool, true, false, if◌then◌else◌, List, [], ◌∷◌, Option, Some, None, option_and_then, count_by}

abbrev pub is_white : ℕ → Bool
is_white b = b == 9 || b == 10 || b == 13 || b == 32

-- the bytes that may stand in a text
abbrev pub is_allowed : ℕ → Bool
is_allowed b = b == 9 || b == 10 || b == 13 || (nat_le 32 b && nat_le b 126)

abbrev pub is_digit : ℕ → Bool
is_digit b = nat_le 48 b && nat_le b 57

-- a letter or `_`
abbrev pub is_letter : ℕ → Bool
is_letter b = (nat_le 65 b && nat_le b 90) || (nat_le 97 b && nat_le b 122) || b == 95

-- the bytes that names and numbers go on over
abbrev pub is_word : ℕ → Bool
is_word b = is_letter b || is_digit b

-- the bytes that are symbols where no second one makes a pair of them
abbrev pub is_symbol : ℕ → Bool
is_symbol b = b == 123 || b == 125 || b == 40 || b == 41 || b == 59 || b == 58 || b == 44 || b == 46 || b == 61 || b == 60 || b == 62 || b == 43 || b == 45 || b == 42 || b == 47 || b == 37

-- the two bytes are one symbol: `==`, `!=`, `<=` or `>=`
abbrev pub is_pair : ℕ → ℕ → Bool
is_pair a b = (a == 61 || a == 33 || a == 60 || a == 62) && b == 61

-- One byte between tokens, inside a comment or not: whether the next is inside one. A comment goes from `#` up to the next line feed. None: the byte does not stand between tokens.
abbrev pub gap_step : Bool → ℕ → Option Bool
gap_step false b = if is_white b then Some false else (if b == 35 then Some true else None)
gap_step true b = if b == 10 then Some false else (if is_allowed b then Some true else None)

-- the bytes between two tokens: whether the place behind them is inside a comment
abbrev pub gap : Bool → List ℕ → Option Bool
gap inside [] = Some inside
gap inside (b ∷ bs) = option_and_then (λ i. gap i bs) (gap_step inside b)

-- no more of a word stands in front
abbrev pub EndsWord : List ℕ → Type 0
EndsWord [] = Unit {0}
EndsWord (b ∷ rest) = is_word b ≡ false

-- the byte makes no pair with the next one
abbrev pub NoPair : ℕ → List ℕ → Type 0
NoPair a [] = Unit {0}
NoPair a (b ∷ rest) = is_pair a b ≡ false

abbrev pub StartsWithLetter : List ℕ → Type 0
StartsWithLetter [] = ⊥
StartsWithLetter (b ∷ bs) = is_letter b ≡ true

abbrev pub StartsWithDigit : List ℕ → Type 0
StartsWithDigit [] = ⊥
StartsWithDigit (b ∷ bs) = is_digit b ≡ true

-- how many line feeds
abbrev pub feeds : List ℕ → ℕ
feeds bs = count_by (λ b. b == 10) bs
