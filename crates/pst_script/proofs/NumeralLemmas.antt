-- Numerals against what std reads.
use Rattle.std.proofs.Common.{◌≡◌, ℕ, suc, zero, ◌+◌, ◌-◌, ◌*◌, ◌<◌, ◌≤◌, ◌^◌, take, get_or, Bool, true, false, cond, not, List, [], ◌∷◌, length, refl, sym, ap}
use Rattle.std.proofs.Common.{◌∙◌, subst, arith, rules, tests, Option, Some, None, Result, Ok, Err, Bor}
use Rattle.std.specs.Prelude.{if◌then◌else◌, ◌==◌, nat_lt, ◌&&◌, IsUtf8, MatchResult, ℤ, pos, neg_ℤ, is_some, nat_le}
use Rattle.std.specs.Option.{option_map}
use Rattle.std.specs.Result.{OkIff, result_ok}
use Rattle.std.specs.Char.{is_ascii_digit, digit_value}
use Rattle.std.specs.Str.{bytes_eq}
use Rattle.std.specs.List.{list_all}
use Rattle.std.specs.Str.Parse.{digits_value, digits_value_after, ParsesSigned}
use Rattle.std.proofs.lemmas.Bool.{false≢true}
use Rattle.std.proofs.lemmas.Int.Digits.{digits_value_more}
use Rattle.std.proofs.lemmas.Str.{digit_value_digit}
use Rattle.std.proofs.lemmas.Str.Parse.{IsNumeralModel, numerals_by_value, digit_at, digits_value-take-le, parse_signed_digits, parse_signed_minus}
use Rattle.std.proofs.lemmas.Fmt.{IsAscii-from_digits}
use Rattle.std.proofs.lemmas.Str.{IsUtf8-from_ascii}
use Rattle.std.proofs.lemmas.Str.Ascii.{IsAscii-cons}
use Rattle.std.proofs.lemmas.Bool.Decides.{nat_tests}
use mir.Syntax.{w64}
use Rattle.pst_script.specs.Numerals.{is_numeral, number_of, minus, argument_of, passing, fits_32_bits, fits_64_bits}

-- ---- what `from_utf8` answers

pub never_none : {X E : Type 0} (P : X → Type 0) (Q : E → Type 0) (U : Type 0) (o : Option X) (r : Result X E) → o ≡ result_ok r → o ≡ None → MatchResult r P (λ e. (U → ⊥) × Q e) → U → ⊥
never_none P Q U o (Ok x) e none h u = let clash : Some x ≡ None = sym e ∙ none in cc
never_none P Q U o (Err x) e none h u = h.0 u

pub text_now : {E : Type 0} (bytes : List ℕ) (U : Type 0) (Q : E → Type 0) (o : Option (Bor (List ℕ))) (r : Result (Bor (List ℕ)) E)
    (x : Bor (List ℕ)) → o ≡ result_ok r → o ≡ Some x → MatchResult r (λ s. (s.now ≡ bytes) × U) Q → x.now ≡ bytes
text_now bytes U Q o (Ok s) x e some h = let same : s ≡ x = cc in ap (λ (b : Bor (List ℕ)). b.now) (sym same) ∙ h.0
text_now bytes U Q o (Err s) x e some h = let clash : None ≡ Some x = sym e ∙ some in cc

-- an answer that comes exactly where a test is passed
ok_if : {T E : Type 0} (Q : Type 0) (v : T) (r : Result T E) (t : Bool) → OkIff r Q v → (t ≡ true → Q) → (Q → t ≡ true) → result_ok r ≡ (if t then Some v else None)
ok_if Q v (Ok x) true h to from = ap Some h.1
ok_if Q v (Ok x) false h to from = absurd (false≢true (from h.0))
ok_if Q v (Err e) true h to from = absurd (h (to refl))
ok_if Q v (Err e) false h to from = refl

-- ---- numerals

abbrev pub AreDigits : List ℕ → Type 0
AreDigits bytes = list_all is_ascii_digit bytes ≡ true

-- what std says of digits holds of these
pub own : IsNumeralModel AreDigits (digits_value 10)
own = numerals_by_value AreDigits (search rules)

zero_digits : (first : ℕ) (rest : List ℕ) → first ≡ 48 → length rest ≡ 0 → AreDigits (first ∷ rest)
zero_digits first [] e h = grind (arith, nat_tests)
zero_digits first (b ∷ rest) e h = absurd (omega arith)

pub numeral_digits : (word : List ℕ) → is_numeral word ≡ true → AreDigits word
numeral_digits [] h = refl
numeral_digits (first ∷ rest) h = by_first (first == 48) refl h
  where
    by_first : (b : Bool) → (first == 48) ≡ b → cond b (length rest == 0) (is_ascii_digit first && list_all is_ascii_digit rest) ≡ true → AreDigits (first ∷ rest)
    by_first true e h = zero_digits first rest (grind (arith, nat_tests)) (grind (arith, nat_tests))
    by_first false e h = h

pub numeral_some : (word : List ℕ) → is_numeral word ≡ true → 0 < length word
numeral_some [] h = absurd (false≢true h)
numeral_some (first ∷ rest) h = omega arith

pub numeral_utf8 : (word : List ℕ) → is_numeral word ≡ true → IsUtf8 word
numeral_utf8 word h = IsUtf8-from_ascii word (IsAscii-from_digits word (own.to word (numeral_digits word h)))

pub number_of-numeral : (word : List ℕ) → is_numeral word ≡ true → number_of word ≡ Some (digits_value 10 word)
number_of-numeral word h = rw h

-- one more digit makes the value ten times as great, and adds the digit
pub numeral_more : (word : List ℕ) (i : ℕ) → is_numeral word ≡ true → i < length word → digits_value 10 (take (i + 1) word) ≡ digits_value 10 (take i word) * 10 + (get_or word i 0 - 48)
numeral_more word i h lt = omega (arith, digits_value_more 10 word i lt, digit_value_digit (get_or word i 0) (digit_at word i (own.to word (numeral_digits word h)) lt))

-- where the first digits are too great a number, all are
pub numeral_great : (word : List ℕ) (i : ℕ) → is_numeral word ≡ true → 2 ^ 32 ≤ digits_value 10 (take i word) → None ≡ passing fits_32_bits (number_of word)
numeral_great word i h great =
    let whole = digits_value-take-le 10 word i (omega arith) in
    let no : nat_lt (digits_value 10 word) (2 ^ 32) ≡ false = search (rules, tests) in
    rw (number_of-numeral word h, no) refl

-- ---- minus

and_left : (a b : Bool) → (a && b) ≡ true → a ≡ true
and_left true b h = refl
and_left false b h = h

grows : (n : ℕ) (rest : List ℕ) → n ≤ digits_value_after 10 n rest
grows n [] = omega arith
grows n (b ∷ rest) = let more = grows (n * 10 + digit_value b) rest in omega arith

positive : (first : ℕ) (rest : List ℕ) → is_ascii_digit first ≡ true → (first == 48) ≡ false → 0 < digits_value 10 (first ∷ rest)
positive first rest digit other =
    let least = grows (0 * 10 + digit_value first) rest in
    let some : 0 < digit_value first = grind (arith, nat_tests) in
    omega arith

some_minus : (n : ℕ) → 0 < n → is_some (minus (Some n)) ≡ true
some_minus zero h = absurd (omega arith)
some_minus (suc n) h = refl

-- a numeral behind a minus is an argument, but for 0
pub minus_some : (rest : List ℕ) → is_numeral rest ≡ true → not (bytes_eq rest (48 ∷ [])) ≡ is_some (minus (number_of rest))
minus_some [] h = absurd (false≢true h)
minus_some (first ∷ rest) h = by_first (first == 48) refl h
  where
    zero_alone : (tail : List ℕ) → length tail ≡ 0 → first ≡ 48 → is_numeral (first ∷ tail) ≡ true → not (bytes_eq (first ∷ tail) (48 ∷ [])) ≡ is_some (minus (number_of (first ∷ tail)))
    zero_alone [] none e k = rw e
    zero_alone (b ∷ tail) none e k = absurd (omega arith)

    by_first : (b : Bool) → (first == 48) ≡ b → cond b (length rest == 0) (is_ascii_digit first && list_all is_ascii_digit rest) ≡ true
        → not (bytes_eq (first ∷ rest) (48 ∷ [])) ≡ is_some (minus (number_of (first ∷ rest)))
    by_first true e k = zero_alone rest (grind (arith, nat_tests)) (grind (arith, nat_tests)) h
    by_first false e k =
        let left : not (bytes_eq (first ∷ rest) (48 ∷ [])) ≡ true = ap (λ (b : Bool). not (b && bytes_eq rest [])) e in
        let right : is_some (minus (number_of (first ∷ rest))) ≡ true = ap (λ o. is_some (minus o)) (number_of-numeral (first ∷ rest) h)
        ∙ some_minus (digits_value 10 (first ∷ rest)) (positive first rest (and_left (is_ascii_digit first) (list_all is_ascii_digit rest) k) e) in
        left ∙ sym right

-- ---- arguments

-- the numeral behind a minus, and its number
pub behind_minus : (rest : List ℕ) → is_some (minus (number_of rest)) ≡ true → is_numeral rest ≡ true
behind_minus rest h = by_form (is_numeral rest) refl h
  where
    by_form : (b : Bool) → is_numeral rest ≡ b → is_some (minus (if b then Some (digits_value 10 rest) else None)) ≡ true → is_numeral rest ≡ true
    by_form true e k = e
    by_form false e k = absurd (false≢true k)

plain_numeral : (word : List ℕ) → is_some (option_map pos (number_of word)) ≡ true → is_numeral word ≡ true
plain_numeral word h = by_form (is_numeral word) refl h
  where
    by_form : (b : Bool) → is_numeral word ≡ b → is_some (option_map pos (if b then Some (digits_value 10 word) else None)) ≡ true → is_numeral word ≡ true
    by_form true e k = e
    by_form false e k = absurd (false≢true k)

pub argument_utf8 : (word : List ℕ) → is_some (argument_of word) ≡ true → IsUtf8 word
argument_utf8 [] h = absurd (false≢true h)
argument_utf8 (first ∷ rest) h = by_first (first == 45) refl h
  where
    by_first : (b : Bool) → (first == 45) ≡ b → is_some (if b then minus (number_of rest) else option_map pos (number_of (first ∷ rest))) ≡ true → IsUtf8 (first ∷ rest)
    by_first true e k = IsUtf8-from_ascii (first ∷ rest) (IsAscii-cons first rest (grind (arith, nat_tests)) (IsAscii-from_digits rest (own.to rest (numeral_digits rest (behind_minus rest k)))))
    by_first false e k = numeral_utf8 (first ∷ rest) (plain_numeral (first ∷ rest) k)

-- what `parse` gives of an argument
fits_minus : (n : ℕ) → 0 < n → passing fits_64_bits (minus (Some n)) ≡ (if nat_le n (2 ^ 63) then Some (neg_ℤ (pos n)) else None)
fits_minus zero h = absurd (omega arith)
fits_minus (suc n) h = refl

minus_positive : (n : ℕ) → is_some (minus (Some n)) ≡ true → 0 < n
minus_positive zero h = absurd (false≢true h)
minus_positive (suc n) h = omega arith

pub argument_read : {E : Type 0} (word text : List ℕ) (r : Result ℤ E) → is_some (argument_of word) ≡ true → text ≡ word → ParsesSigned w64 10 text r
    → result_ok r ≡ passing fits_64_bits (argument_of word)
argument_read [] text r h e p = absurd (false≢true h)
argument_read (first ∷ rest) text r h e p = by_first (first == 45) refl h
  where
    q : ParsesSigned w64 10 (first ∷ rest) r
    q = subst (λ (t : List ℕ). ParsesSigned w64 10 t r) e p

    by_first : (b : Bool) → (first == 45) ≡ b → is_some (if b then minus (number_of rest) else option_map pos (number_of (first ∷ rest))) ≡ true
        → result_ok r ≡ passing fits_64_bits (if b then minus (number_of rest) else option_map pos (number_of (first ∷ rest)))
    by_first true f k =
        let numeral : is_numeral rest ≡ true = behind_minus rest k in
        let some : 0 < digits_value 10 rest = minus_positive (digits_value 10 rest) (ap (λ o. is_some (minus o)) (sym (number_of-numeral rest numeral)) ∙ k) in
        let begins : first ≡ 45 = grind (arith, nat_tests) in
        ok_if (AreDigits rest × (0 < length rest) × (digits_value 10 rest ≤ 2 ^ 63)) (neg_ℤ (pos (digits_value 10 rest))) r
        (nat_le (digits_value 10 rest) (2 ^ 63)) (parse_signed_minus own w64 (first ∷ rest) r q begins)
        (λ t. (numeral_digits rest numeral, numeral_some rest numeral, search (rules, tests))) (λ t. search (rules, tests))
        ∙ sym (ap (λ o. passing fits_64_bits (minus o)) (number_of-numeral rest numeral) ∙ fits_minus (digits_value 10 rest) some)
    by_first false f k =
        let word : List ℕ = first ∷ rest in
        let numeral : is_numeral word ≡ true = plain_numeral word k in
        ok_if ((0 < length word) × (digits_value 10 word < 2 ^ 63)) (pos (digits_value 10 word)) r (nat_lt (digits_value 10 word) (2 ^ 63))
        (parse_signed_digits own w64 word r q (numeral_digits word numeral)) (λ t. (numeral_some word numeral, search (rules, tests)))
        (λ t. search (rules, tests))
        ∙ sym (ap (λ o. passing fits_64_bits (option_map pos o)) (number_of-numeral word numeral))
