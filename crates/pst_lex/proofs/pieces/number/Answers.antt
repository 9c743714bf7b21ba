use Rattle.std.proofs.Common.{◌≡◌, ◌+◌, ◌∙◌, take, sym, ap, arith, refl}
use Rattle.std.specs.List.{list_all}
use Rattle.std.proofs.lemmas.List.Folds.{list_all_more}
use Rattle.std.proofs.lemmas.List.{take_all}
use Rattle.std.specs.Str.Parse.{digits_value}
use Rattle.pst_lex.specs.Bytes.{is_digit}
use Rattle.pst_lex.proofs.Numbers.{zero_leads, digits_alone, value_more, value_below, number_text}
use Rattle.pst_lex.proofs.pieces.number.Goals as goal

pub returns-then-has_leading_zero : goal.returns-then-has_leading_zero
returns-then-has_leading_zero c = λ n fits e. zero_leads c.args.word.now n (sym c.has_leading_zero.ensures ∙ c.if-has_leading_zero.true) fits e

pub returns-then-not-is_digit : goal.returns-then-not-is_digit
returns-then-not-is_digit c = λ n fits e. digits_alone c.args.word.now n c.loop-b.b-index c.loop-b-test.true (sym c.is_digit.ensures ∙ c.if-not-is_digit.true) fits e

pub returns-then-value-digit : goal.returns-then-value-digit
returns-then-value-digit c = λ n fits e.
    let more = value_more c.args.word.now c.loop-b.b-index c.loop-b-test.true (sym c.is_digit.ensures ∙ c.if-not-is_digit.false) in
    let part = value_below c.args.word.now n (c.loop-b.b-index + 1) fits e in
    omega (arith, c.from-digit.ensures)

pub loop-b-preserved : goal.loop-b-preserved
loop-b-preserved c =
    let is = sym c.is_digit.ensures ∙ c.if-not-is_digit.false in
    let more = value_more c.args.word.now c.loop-b.b-index c.loop-b-test.true is in
    (rw (list_all_more is_digit c.args.word.now c.loop-b.b-index 0 c.loop-b-test.true, c.loop-b.invariant.0, is) refl, omega (arith, c.from-digit.ensures), omega (arith, c.from-digit.ensures))

pub returns : goal.returns
returns c =
    let inv = c.loop-b.invariant in
    let w = c.args.word.now in
    let whole : take c.loop-b.b-index w ≡ w = take_all c.loop-b.b-index w c.loop-b-test.false in
    let plain = sym c.has_leading_zero.ensures ∙ c.if-has_leading_zero.false in
    (inv.2, number_text w c.loop-b.value c.requires (sym (ap (list_all is_digit) whole) ∙ inv.0) plain (sym (ap (digits_value 10) whole) ∙ inv.1) inv.2)
