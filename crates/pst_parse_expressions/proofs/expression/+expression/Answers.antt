use Rattle.std.proofs.Common.{arith, ◌≡◌, ◌∷◌, ◌∙◌, ap}
use Rattle.pst_grammar.specs.Lexemes.{Plain, Operator}
use Rattle.pst_parse_expressions.specs.View.{as_read, lexemes_of}
use Rattle.pst_parse_expressions.proofs.Equations.{read-other_operator, read-other_sign, going-other_sign, going-other}
use Rattle.pst_parse_expressions.proofs.expression.+expression.Goals as goal

pub more-returns-in_default-sign : goal.more-returns-in_default-sign
more-returns-in_default-sign t c =
    let at : lexemes_of c.args.tokens.now ≡ Plain c.in-Plain.sign ∷ lexemes_of c.in-Some.rest.now = c.in-Some.ensures.seen ∙ ap (λ x. as_read x ∷ lexemes_of c.in-Some.rest.now) c.in-Plain.is in
    record {
      given = (rw at (going-other_sign _ _ _ _ _ _ c.in_default-sign.not-Dot), c.requires.measured);
      low = c.requires.low;
      shorter = omega arith;
    }

pub more-returns-in_default-first : goal.more-returns-in_default-first
more-returns-in_default-first t c =
    record {
      given = (rw c.in-Some.ensures.seen (going-other _ _ _ _ _ _ c.in_default-first.not-Operator c.in_default-first.not-Plain), c.requires.measured);
      low = c.requires.low;
      shorter = omega arith;
    }

pub operand-returns-in_default-op : goal.operand-returns-in_default-op
operand-returns-in_default-op t c =
    let at : lexemes_of c.args.tokens.now ≡ Operator c.in-Operator.op ∷ lexemes_of c.in-Some.rest.now = c.in-Some.ensures.seen ∙ ap (λ x. as_read x ∷ lexemes_of c.in-Some.rest.now) c.in-Operator.is in
    record { given = rw at (read-other_operator _ _ _ _ _ c.in_default-op.not-Sub); low = tt; shorter = tt }

pub operand-returns-in_default-sign : goal.operand-returns-in_default-sign
operand-returns-in_default-sign t c =
    let at : lexemes_of c.args.tokens.now ≡ Plain c.in-Plain.sign ∷ lexemes_of c.in-Some.rest.now = c.in-Some.ensures.seen ∙ ap (λ x. as_read x ∷ lexemes_of c.in-Some.rest.now) c.in-Plain.is in
    record { given = rw at (read-other_sign _ _ _ _ _ c.in_default-sign.not-Null c.in_default-sign.not-OpenParen c.in_default-sign.not-Not); low = tt; shorter = tt }
