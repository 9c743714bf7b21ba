use Rattle.std.proofs.Common.{arith}
use Rattle.std.proofs.lemmas.Result.{err_from_is_err_and}
use Rattle.pst_grammar.specs.View.{expr_of}
use Rattle.pst_grammar.specs.Reading.{read}
use Rattle.pst_parse_statements.proofs.Loops.{comma_more, comma_bad, comma_closed, comma_unclosed}
use Rattle.pst_grammar.proofs.StatementAgain.{argument_short}
use Rattle.pst_parse_statements.proofs.statements.arguments.Goals as goal

pub returns-in_err-argument-clause-given : goal.returns-in_err-argument-clause-given
returns-in_err-argument-clause-given c =
    let p = err_from_is_err_and c.from_residual-in_err-argument.result c.from_residual-in_err-argument.ensures.1 in
    rw (p.1, p.2) (comma_bad (read c.args.language c.args.height 0) expr_of _ _ _ _ _ (argument_short c.args.language c.args.height)
    c.in-Some-after.ensures.seen c.in_err-argument.ensures.given c.loop-next.invariant.1)

pub loop-next-preserved : goal.loop-next-preserved
loop-next-preserved c = (
  omega (arith, c.in_ok-argument.ensures.shorter, c.in-Some-after.ensures.shorter, c.loop-next.invariant.0),
  comma_more (read c.args.language c.args.height 0) expr_of _ _ c.in_ok-argument.argument _ _ _ _ (argument_short c.args.language c.args.height)
      c.in_ok-push-2.ensures.items c.in-Some-after.ensures.seen c.in_ok-argument.ensures.given.0 c.loop-next.invariant.1,
)

pub returns-in_err-rest-clause-given : goal.returns-in_err-rest-clause-given
returns-in_err-rest-clause-given c =
    let p = err_from_is_err_and c.from_residual-in_err-rest.result c.from_residual-in_err-rest.ensures.1 in
    rw (p.1, p.2) (comma_unclosed (read c.args.language c.args.height 0) expr_of _ _ _ _ c.in_default-after.ensures.seen c.in_err-rest.ensures.given c.loop-next.invariant.1)

pub returns-clause-given : goal.returns-clause-given
returns-clause-given c =
    rw c.from_vec-2.ensures (comma_closed (read c.args.language c.args.height 0) expr_of _ _ _ _ c.in_default-after.ensures.seen c.in_ok-rest.ensures.given c.loop-next.invariant.1)
