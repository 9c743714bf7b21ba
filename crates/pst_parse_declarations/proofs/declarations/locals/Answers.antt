use Rattle.std.proofs.Common.{arith}
use Rattle.std.proofs.lemmas.Result.{err_from_is_err_and}
use Rattle.pst_grammar.specs.View.{local_of}
use Rattle.pst_grammar.specs.Declarations.{local, starts_local}
use Rattle.pst_parse_statements.proofs.Loops.{loop_more, loop_done, loop_bad}
use Rattle.pst_grammar.proofs.DeclarationLaw.{local_short}
use Rattle.pst_parse_declarations.proofs.declarations.locals.Goals as goal

pub returns-in_err-local-clause-given : goal.returns-in_err-local-clause-given
returns-in_err-local-clause-given c =
    let p = err_from_is_err_and c.from_residual.result c.from_residual.ensures.1 in
    rw (p.1, p.2) (loop_bad starts_local local local_of _ _ _ _ local_short c.loop-alloc-test.ensures c.in_err-local.ensures.given c.loop-alloc.invariant.1)

pub loop-alloc-preserved : goal.loop-alloc-preserved
loop-alloc-preserved c = (
  omega (arith, c.in_ok-local.ensures.shorter, c.loop-alloc.invariant.0),
  loop_more starts_local local local_of _ _ c.in_ok-local.local _ _ _ local_short c.in_ok-push.ensures.items c.loop-alloc-test.ensures c.in_ok-local.ensures.given c.loop-alloc.invariant.1,
)

pub returns-clause-given : goal.returns-clause-given
returns-clause-given c =
    rw c.from_vec.ensures (loop_done starts_local local local_of c.loop-alloc.items.items _ _ c.loop-alloc-test.ensures c.loop-alloc.invariant.1)
