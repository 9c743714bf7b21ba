use Rattle.std.proofs.Common.{◌≡◌, ℕ, List, ◌∷◌, [], Bool, true, not, ap, sym, ◌∙◌}
use Rattle.std.specs.Prelude.{is_some}
use Rattle.std.specs.Str.{bytes_eq}
use Rattle.pst_script.specs.Numerals.{argument_of, is_numeral}
use Rattle.pst_script.proofs.NumeralLemmas.{minus_some}
use Rattle.pst_script.proofs.numerals.is_argument.Goals as goal

with_minus : (word zero rest : List ℕ) (first : ℕ) (numeral other : Bool) → word ≡ first ∷ rest → first ≡ 45 → zero ≡ 48 ∷ [] → numeral ≡ true
    → numeral ≡ is_numeral rest → other ≡ not (bytes_eq rest zero) → other ≡ is_some (argument_of word)
with_minus word zero rest first numeral other w f z n is o = rw (w, f) (o ∙ (ap (λ (bytes : List ℕ). not (bytes_eq rest bytes)) z ∙ minus_some rest (sym is ∙ n)))

pub returns-then-is_numeral : goal.returns-then-is_numeral
returns-then-is_numeral c = with_minus _ _ _ _ _ _ c.in-Some-eq45-default.ensures.cases.0 c.in-Some-eq45-default.field-0-0-test c.as_slice.ensures
    c.if-is_numeral.true c.is_numeral.ensures c.ne.ensures
