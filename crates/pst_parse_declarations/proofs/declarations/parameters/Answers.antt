use Rattle.std.proofs.Common.{ap, arith}
use Rattle.std.proofs.lemmas.Result.{err_from_is_err_and}
use Rattle.pst_grammar.specs.View.{local_of}
use Rattle.pst_grammar.specs.Declarations.{parameter}
use Rattle.pst_parse_statements.proofs.Loops.{comma_more, comma_bad}
use Rattle.pst_grammar.proofs.DeclarationAgain.{parameter_short}
use Rattle.pst_parse_declarations.specs.View.{locals_of}
use Rattle.pst_parse_declarations.proofs.Parts.{listed_followed}
use Rattle.pst_parse_declarations.proofs.declarations.parameters.Goals as goal

pub returns-in_err-parameter-clause-given : goal.returns-in_err-parameter-clause-given
returns-in_err-parameter-clause-given c =
    let p = err_from_is_err_and c.from_residual-in_err-parameter.result c.from_residual-in_err-parameter.ensures.1 in
    rw (p.1, p.2) (comma_bad parameter local_of _ _ _ _ _ parameter_short c.in-Some-after.ensures.seen c.in_err-parameter.ensures.given c.loop-next.invariant.1)

pub loop-next-preserved : goal.loop-next-preserved
loop-next-preserved c = (
  omega (arith, c.in_ok-parameter.ensures.shorter, c.in-Some-after.ensures.shorter, c.loop-next.invariant.0),
  comma_more parameter local_of _ _ c.in_ok-parameter.parameter _ _ _ _ parameter_short c.in_ok-push-2.ensures.items c.in-Some-after.ensures.seen
      c.in_ok-parameter.ensures.given c.loop-next.invariant.1,
)

pub returns-clause-given : goal.returns-clause-given
returns-clause-given c =
    listed_followed parameter local_of _ _ _ locals_of _ _ (ap locals_of c.from_vec-2.ensures) c.in_default-after.ensures.seen c.loop-next.invariant.1 c.followed.ensures.given c.followed.ensures.kept
