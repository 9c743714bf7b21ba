-- Lemmas on the digits of numbers.
use Rattle.std.specs.Prelude.{◌≡◌, ℕ, ◌+◌, ◌*◌, ◌-◌, ◌^◌, ◌≤◌, ◌<◌, true, false, nat_le, List, length, take, slice_index, [], ◌∷◌}
use Rattle.std.proofs.Common.{suc, zero, refl, sym, ap, ◌∙◌, arith, get_or, subst}
use Rattle.std.specs.List.{list_all}
use Rattle.std.specs.Int.{IsInRange}
use Rattle.std.specs.Fmt.{decimal}
use Rattle.std.specs.Str.Parse.{digits_value}
use Rattle.std.proofs.lemmas.Bool.Decides.{nat_tests}
use Rattle.std.proofs.lemmas.Fmt.{digits_decimal, digits_value-decimal, decimal-digits_value, decimal_digit, first_decimal}
use Rattle.std.proofs.lemmas.Int.Digits.{digits_value_more}
use Rattle.std.proofs.lemmas.List.Folds.{list_all_at}
use Rattle.std.proofs.lemmas.Str.{digit_value_digit}
use Rattle.std.proofs.lemmas.Str.Parse.{IsDigitsTest, IsNumeralModel, numerals_by_value, digits_value-take-le}
use Rattle.pst_lex.specs.Bytes.{is_digit}
use Rattle.pst_lex.specs.Pieces.{leading_zero}
use Rattle.pst_lex.proofs.Comparing.{and_true, le_true, le_test}

pub digit_range : (b : ℕ) → is_digit b ≡ true → IsInRange 48 57 b
digit_range b e = let t = and_true (nat_le 48 b) (nat_le b 57) e in (le_true 48 b t.0, le_true b 57 t.1)

pub range_digit : (b : ℕ) → IsInRange 48 57 b → is_digit b ≡ true
range_digit b h = rw (le_test 48 b h.0, le_test b 57 h.1) refl

tells : IsDigitsTest (λ ds. list_all is_digit ds ≡ true)
tells = record {
  empty = refl;
  parts = λ c cs e. let k = and_true (is_digit c) (list_all is_digit cs) e in (digit_range c k.0, k.1);
  more = λ c cs k e. rw (range_digit c k) e;
}

pub own : IsNumeralModel (λ ds. list_all is_digit ds ≡ true) (digits_value 10)
own = numerals_by_value (λ ds. list_all is_digit ds ≡ true) tells

-- digits with no zero in front are the text of their value
pub number_text : (w : List ℕ) (v : ℕ) → 0 < length w → list_all is_digit w ≡ true → leading_zero w ≡ false → digits_value 10 w ≡ v → v < 2 ^ 63 → w ≡ decimal v
number_text w v some all plain e fits =
    let small : digits_value 10 w < 2 ^ 64 = omega arith in
    sym (ap decimal (sym e) ∙ decimal-digits_value own w all some (one w plain) small)
  where
    one : (x : List ℕ) → leading_zero x ≡ false → get_or x 0 0 ≡ 48 → length x ≡ 1
    one [] h z = absurd (omega arith)
    one (b ∷ []) h z = refl
    one (b ∷ c ∷ x) h z = absurd (grind (arith, nat_tests))

-- a text with a zero in front of more is no number's
pub zero_leads : (w : List ℕ) (n : ℕ) → leading_zero w ≡ true → n < 2 ^ 63 → w ≡ decimal n → ⊥
zero_leads [] n h fits e = cc
zero_leads (b ∷ []) n h fits e = cc
zero_leads (b ∷ c ∷ w) zero h fits e =
    let same : length (b ∷ c ∷ w) ≡ 1 = ap length (e ∙ decimal_digit 0 (omega arith)) in
    omega arith
zero_leads (b ∷ c ∷ w) (suc n) h fits e =
    let first : 48 < get_or (decimal (suc n)) 0 0 = first_decimal (suc n) (omega arith) (omega arith) in
    let same : b ≡ get_or (decimal (suc n)) 0 0 = ap (λ x. get_or x 0 0) e in
    grind (arith, nat_tests)

-- a number's text has digits alone
pub digits_alone : (w : List ℕ) (n i : ℕ) → i < length w → is_digit (slice_index w i) ≡ false → n < 2 ^ 63 → w ≡ decimal n → ⊥
digits_alone w n i lt bad fits e =
    let all : list_all is_digit w ≡ true = subst (λ x. list_all is_digit x ≡ true) (sym e) (digits_decimal own n (omega arith)) in
    let none : list_all is_digit w ≡ false = list_all_at is_digit w i 0 lt bad in
    cc

-- one more digit makes the value ten times as great, and adds the digit
pub value_more : (w : List ℕ) (i : ℕ) → i < length w → is_digit (slice_index w i) ≡ true → digits_value 10 (take (i + 1) w) ≡ digits_value 10 (take i w) * 10 + (slice_index w i - 48)
value_more w i lt d = omega (arith, digits_value_more 10 w i lt, digit_value_digit (slice_index w i) (digit_range (slice_index w i) d))

-- the value of digits in front is no greater than the number
pub value_below : (w : List ℕ) (n i : ℕ) → n < 2 ^ 63 → w ≡ decimal n → digits_value 10 (take i w) ≤ n
value_below w n i fits e =
    let whole : digits_value 10 w ≡ n = ap (digits_value 10) e ∙ digits_value-decimal own n (omega arith) in
    omega (arith, digits_value-take-le 10 w i (omega arith))
