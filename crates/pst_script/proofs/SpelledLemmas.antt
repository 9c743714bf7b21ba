-- How numbers and commands are written.
use Rattle.std.proofs.Common.{◌≡◌, ℕ, suc, zero, ◌<◌, ◌^◌, Bool, true, false, cond, List, [], ◌∷◌, length, get_or, refl, sym, ap, ◌∙◌, arith, rules, tests, Option, Some, None}
use Rattle.std.specs.Prelude.{if◌then◌else◌, ◌==◌, ◌&&◌, ℤ, pos, negsuc}
use Rattle.std.specs.Option.{option_map}
use Rattle.std.specs.Char.{is_ascii_digit}
use Rattle.std.specs.List.{list_all}
use Rattle.std.specs.Fmt.{decimal, signed_decimal}
use Rattle.std.specs.Str.Parse.{digits_value}
use Rattle.std.proofs.lemmas.Bool.{false≢true}
use Rattle.std.proofs.lemmas.Bool.Decides.{nat_tests}
use Rattle.std.proofs.lemmas.Fmt.{decimal_digit, first_decimal, digits_decimal, digits_value-decimal, decimal-digits_value}
use Rattle.pst_script.specs.Numerals.{is_numeral, number_of, minus, argument_of, fits_64_bits}
use Rattle.pst_script.proofs.NumeralLemmas.{AreDigits, own, numeral_digits, numeral_some, number_of-numeral}

-- ---- numbers

zero_alone : (word : List ℕ) → is_numeral word ≡ true → get_or word 0 0 ≡ 48 → length word ≡ 1
zero_alone [] h e = absurd (false≢true h)
zero_alone (first ∷ rest) h e = by_first (first == 48) (search (rules, tests, nat_tests)) h
  where
    by_first : (b : Bool) → b ≡ true → cond b (length rest == 0) (is_ascii_digit first && list_all is_ascii_digit rest) ≡ true → length (first ∷ rest) ≡ 1
    by_first true is k = grind (arith, nat_tests)
    by_first false is k = absurd (false≢true is)

-- digits of which the first is not 0 are a numeral
digits_numeral : (word : List ℕ) → AreDigits word → 48 < get_or word 0 0 → is_numeral word ≡ true
digits_numeral [] digits h = absurd (omega arith)
digits_numeral (first ∷ rest) digits h = let other : (first == 48) ≡ false = grind (arith, nat_tests) in
    ap (λ (b : Bool). cond b (length rest == 0) (is_ascii_digit first && list_all is_ascii_digit rest)) other ∙ digits

pub decimal_numeral : (n : ℕ) → n < 2 ^ 64 → is_numeral (decimal n) ≡ true
decimal_numeral zero h = ap is_numeral (decimal_digit 0 (omega arith))
decimal_numeral (suc n) h = digits_numeral (decimal (suc n)) (digits_decimal own (suc n) h) (first_decimal (suc n) (omega arith) h)

pub number_of-decimal : (n : ℕ) → n < 2 ^ 64 → number_of (decimal n) ≡ Some n
number_of-decimal n h = number_of-numeral (decimal n) (decimal_numeral n h) ∙ ap Some (digits_value-decimal own n h)

pub number_written : (word : List ℕ) (n : ℕ) → n < 2 ^ 64 → number_of word ≡ Some n → word ≡ decimal n
number_written word n small h = by_form (is_numeral word) refl h
  where
    by_form : (b : Bool) → is_numeral word ≡ b → (if b then Some (digits_value 10 word) else None) ≡ Some n → word ≡ decimal n
    by_form true is k =
        let value : digits_value 10 word ≡ n = cc in
        sym (decimal-digits_value own word (numeral_digits word is) (numeral_some word is) (zero_alone word is) (omega arith)) ∙ ap decimal value
    by_form false is k = let clash : None ≡ Some n = k in cc

-- ---- arguments

no_minus : (word : List ℕ) → is_numeral word ≡ true → argument_of word ≡ option_map pos (number_of word)
no_minus [] h = absurd (false≢true h)
no_minus (first ∷ rest) h = let digits : AreDigits (first ∷ rest) = numeral_digits (first ∷ rest) h in
    let other : (first == 45) ≡ false = grind (arith, nat_tests) in
    ap (λ (b : Bool). if b then minus (number_of rest) else option_map pos (number_of (first ∷ rest))) other

pub argument_of-decimal : (z : ℤ) → fits_64_bits z ≡ true → argument_of (signed_decimal z) ≡ Some z
argument_of-decimal (pos n) h = let small : n < 2 ^ 64 = grind (arith, nat_tests) in no_minus (decimal n) (decimal_numeral n small) ∙ ap (λ o. option_map pos o) (number_of-decimal n small)
argument_of-decimal (negsuc n) h = let small : suc n < 2 ^ 64 = grind (arith, nat_tests) in ap minus (number_of-decimal (suc n) small)

minus_written : (rest : List ℕ) (o : Option ℕ) (z : ℤ) → fits_64_bits z ≡ true → number_of rest ≡ o → minus o ≡ Some z → 45 ∷ rest ≡ signed_decimal z
minus_written rest None z fit is h = let clash : None ≡ Some z = h in cc
minus_written rest (Some zero) z fit is h = let clash : None ≡ Some z = h in cc
minus_written rest (Some (suc n)) z fit is h =
    let value : negsuc n ≡ z = cc in
    let fits : fits_64_bits (negsuc n) ≡ true = ap fits_64_bits value ∙ fit in
    let small : suc n < 2 ^ 64 = grind (arith, nat_tests) in
    ap (λ (ds : List ℕ). 45 ∷ ds) (number_written rest (suc n) small is) ∙ ap signed_decimal value

plain_written : (word : List ℕ) (o : Option ℕ) (z : ℤ) → fits_64_bits z ≡ true → number_of word ≡ o → option_map pos o ≡ Some z → word ≡ signed_decimal z
plain_written word None z fit is h = let clash : None ≡ Some z = h in cc
plain_written word (Some n) z fit is h =
    let value : pos n ≡ z = cc in
    let fits : fits_64_bits (pos n) ≡ true = ap fits_64_bits value ∙ fit in
    let small : n < 2 ^ 64 = grind (arith, nat_tests) in
    number_written word n small is ∙ ap signed_decimal value

pub argument_written : (word : List ℕ) (z : ℤ) → fits_64_bits z ≡ true → argument_of word ≡ Some z → word ≡ signed_decimal z
argument_written [] z fit h = let clash : None ≡ Some z = h in cc
argument_written (first ∷ rest) z fit h = by_first (first == 45) refl h
  where
    by_first : (b : Bool) → (first == 45) ≡ b → (if b then minus (number_of rest) else option_map pos (number_of (first ∷ rest))) ≡ Some z → first ∷ rest ≡ signed_decimal z
    by_first true is k = let begins : first ≡ 45 = grind (arith, nat_tests) in ap (λ (b : ℕ). b ∷ rest) begins ∙ minus_written rest (number_of rest) z fit refl k
    by_first false is k = plain_written (first ∷ rest) (number_of (first ∷ rest)) z fit refl k
