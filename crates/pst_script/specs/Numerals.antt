-- Numerals, and the arguments of a call: how numbers are written.
use Rattle.std.specs.Prelude.{ℕ, zero, suc, Bool, false, ◌==◌, ◌&&◌, List, [], ◌∷◌, length, ℤ, pos, negsuc, Option, Some, None, if◌then◌else◌, ◌^◌, nat_lt, nat_le}
use Rattle.std.specs.Option.{option_map}
use Rattle.std.specs.Char.{is_ascii_digit}
use Rattle.std.specs.List.{list_all}
use Rattle.std.specs.Str.Parse.{digits_value}
use Rattle.pst_script.specs.declared.numerals.TheConstants.{MOST_CHARGES}

-- 0 alone, or a digit from 1 to 9 and then digits
abbrev pub is_numeral : List ℕ → Bool
is_numeral [] = false
is_numeral (first ∷ rest) = if first == 48 then length rest == 0 else is_ascii_digit first && list_all is_ascii_digit rest

-- the number that a numeral writes; none where the word is no numeral
abbrev pub number_of : List ℕ → Option ℕ
number_of word = if is_numeral word then Some (digits_value 10 word) else None

-- minus a number; there is no minus zero
abbrev pub minus : Option ℕ → Option ℤ
minus None = None
minus (Some zero) = None
minus (Some (suc n)) = Some (negsuc n)

-- the number that an argument writes: a numeral, or `-` and a numeral other than 0
abbrev pub argument_of : List ℕ → Option ℤ
argument_of [] = None
argument_of (first ∷ rest) = if first == 45 then minus (number_of rest) else option_map pos (number_of (first ∷ rest))

-- the number is one of 64 bits with a sign
abbrev pub fits_64_bits : ℤ → Bool
fits_64_bits (pos n) = nat_lt n (2 ^ 63)
fits_64_bits (negsuc n) = nat_lt n (2 ^ 63)

-- a value that passes a test
abbrev pub passing : {A : Type 0} → (A → Bool) → Option A → Option A
passing test None = None
passing test (Some a) = if test a then Some a else None

-- the number of a version or of a run
abbrev pub fits_32_bits : ℕ → Bool
fits_32_bits n = nat_lt n (2 ^ 32)

-- a number of charges
abbrev pub fits_charges : ℕ → Bool
fits_charges n = nat_le 1 n && nat_le n MOST_CHARGES
