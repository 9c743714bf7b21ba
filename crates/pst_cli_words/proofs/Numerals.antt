-- The number of a word against what std reads.
use Rattle.std.proofs.Common.{◌≡◌, ℕ, ◌<◌, ◌^◌, Bool, true, false, List, length, refl, sym, ap, ◌∙◌, arith, rules, tests, Option, Some, None, Result, Ok, Err}
use Rattle.std.specs.Prelude.{if◌then◌else◌, nat_lt}
use Rattle.std.specs.Result.{OkIff, result_ok}
use Rattle.std.specs.Str.Parse.{digits_value, ParsesUnsigned}
use Rattle.std.proofs.lemmas.Bool.{false≢true}
use Rattle.std.proofs.lemmas.Str.Parse.{parse_digits}
use Rattle.pst_script.specs.Numerals.{is_numeral, number_of, passing, fits_32_bits}
use Rattle.pst_script.proofs.NumeralLemmas.{own, numeral_digits, numeral_some, number_of-numeral}
use Rattle.pst_cli_words.specs.Jobs.{fits_64_bits, long_number, version_number}
use Rattle.std.specs.Option.{option_map}

-- an answer that comes exactly where a test is passed
ok_if : {T E : Type 0} (Q : Type 0) (v : T) (r : Result T E) (t : Bool) → OkIff r Q v → (t ≡ true → Q) → (Q → t ≡ true) → result_ok r ≡ (if t then Some v else None)
ok_if Q v (Ok x) true h to from = ap Some h.1
ok_if Q v (Ok x) false h to from = absurd (false≢true (from h.0))
ok_if Q v (Err e) true h to from = absurd (h (to refl))
ok_if Q v (Err e) false h to from = refl

pub number_read : {E : Type 0} (word : List ℕ) (r : Result ℕ E) → is_numeral word ≡ true → ParsesUnsigned 64 10 word r → result_ok r ≡ long_number word
number_read word r h p =
    rw (number_of-numeral word h) (ok_if ((0 < length word) × (digits_value 10 word < 2 ^ 64)) (digits_value 10 word) r
    (nat_lt (digits_value 10 word) (2 ^ 64)) (parse_digits own 64 word r p (numeral_digits word h))
    (λ t. (numeral_some word h, search (rules, tests))) (λ t. search (rules, tests)))

-- ---- versions

-- what fits 32 bits fits 64
shorter_none : (n : ℕ) (long short : Bool) → (short ≡ true → long ≡ true) → (if long then Some n else None) ≡ None → (if short then Some n else None) ≡ None
shorter_none n long false h e = refl
shorter_none n true true h e = absurd (cc)
shorter_none n false true h e = absurd (false≢true (h refl))

fits_longer : (n : ℕ) → nat_lt n (2 ^ 32) ≡ true → nat_lt n (2 ^ 64) ≡ true
fits_longer n h = let short : n < 2 ^ 32 = search (rules, tests) in let long : n < 2 ^ 64 = omega (arith, short) in search (rules, tests)

none_shorter : (o : Option ℕ) → passing fits_64_bits o ≡ None → passing fits_32_bits o ≡ None
none_shorter None e = refl
none_shorter (Some n) e = shorter_none n (nat_lt n (2 ^ 64)) (nat_lt n (2 ^ 32)) (fits_longer n) e

same_number : (n k : ℕ) (long : Bool) → (if long then Some n else None) ≡ Some k → n ≡ k
same_number n k true e = cc
same_number n k false e = absurd (cc)

some_shorter : (o : Option ℕ) (k : ℕ) → passing fits_64_bits o ≡ Some k → passing fits_32_bits o ≡ (if nat_lt k (2 ^ 32) then Some k else None)
some_shorter None k e = absurd (cc)
some_shorter (Some n) k e = ap (λ v. if nat_lt v (2 ^ 32) then Some v else None) (same_number n k (nat_lt n (2 ^ 64)) e)

-- no number of 64 bits is read, and so none of 32
pub no_version : (word : List ℕ) → long_number word ≡ None → version_number word ≡ None
no_version word e = ap (option_map (λ n. record { 0 = n })) (none_shorter (number_of word) e)

-- the number that is read, where 32 bits hold it
pub version_read : {E : Type 0} (word : List ℕ) (n : ℕ) (r : Result ℕ E) → long_number word ≡ Some n → OkIff r (n < 2 ^ 32) n → option_map (λ n. record { 0 = n }) (result_ok r) ≡ version_number word
version_read word n r e p =
    ap (option_map (λ n. record { 0 = n }))
    (ok_if (n < 2 ^ 32) n r (nat_lt n (2 ^ 32)) p (λ t. search (rules, tests)) (λ t. search (rules, tests)) ∙ sym (some_shorter (number_of word) n e))
