-- The words of the language itself.
use Rattle.std.specs.Prelude.{◌≡◌, ℕ, Bool, false, not, ◌==◌, ◌&&◌, ◌||◌, List, [], ◌∷◌, length, nat_le, Option, Some, None, codes, All, IsSomeAnd, slice_get}
use Rattle.std.specs.Char.{is_ascii_alphabetic, is_ascii_alphanumeric}
use Rattle.std.specs.List.{list_all, list_any}
use Rattle.std.specs.Str.{bytes_eq}

-- the keywords
abbrev pub keywords : List (List ℕ)
keywords = codes "record" ∷ codes "val" ∷ codes "ptr" ∷ codes "root" ∷ codes "proc" ∷ codes "query" ∷ codes "var" ∷ codes "new"
    ∷ codes "call" ∷ codes "print" ∷ codes "if" ∷ codes "else" ∷ codes "while" ∷ codes "return" ∷ codes "null" ∷ codes "and"
    ∷ codes "or" ∷ codes "not" ∷ codes "int" ∷ []

-- whether a word is one of them
abbrev pub is_keyword : List ℕ → Bool
is_keyword word = list_any (λ keyword. bytes_eq keyword word) keywords

-- ---- names

-- a letter or an underscore
abbrev pub is_name_start : ℕ → Bool
is_name_start b = is_ascii_alphabetic b || b == 95

-- a letter, a digit or an underscore
abbrev pub is_name_byte : ℕ → Bool
is_name_byte b = is_ascii_alphanumeric b || b == 95

-- letters, digits and underscores, of which the first is no digit
abbrev pub has_name_bytes : List ℕ → Bool
has_name_bytes [] = false
has_name_bytes (first ∷ rest) = is_name_start first && list_all is_name_byte rest

-- a name that a program can give: at most 32 such bytes, and no keyword
unfoldable pub is_name : List ℕ → Bool
is_name word = nat_le (length word) 32 && (has_name_bytes word && not (is_keyword word))
