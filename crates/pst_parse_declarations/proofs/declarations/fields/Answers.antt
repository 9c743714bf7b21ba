use Rattle.std.proofs.Common.{arith}
use Rattle.std.proofs.lemmas.Result.{err_from_is_err_and}
use Rattle.pst_grammar.specs.View.{field_of}
use Rattle.pst_grammar.specs.Declarations.{field, starts_field}
use Rattle.pst_parse_statements.proofs.Loops.{loop_more, loop_done, loop_bad}
use Rattle.pst_grammar.proofs.DeclarationLaw.{field_short}
use Rattle.pst_parse_declarations.proofs.declarations.fields.Goals as goal

pub returns-in_err-field-clause-given : goal.returns-in_err-field-clause-given
returns-in_err-field-clause-given c =
    let p = err_from_is_err_and c.from_residual.result c.from_residual.ensures.1 in
    rw (p.1, p.2) (loop_bad starts_field (field c.args.language) field_of _ _ _ _ (field_short c.args.language) c.loop-alloc-test.ensures c.in_err-field.ensures.given c.loop-alloc.invariant.1)

pub loop-alloc-preserved : goal.loop-alloc-preserved
loop-alloc-preserved c = (
  omega (arith, c.in_ok-field.ensures.shorter, c.loop-alloc.invariant.0),
  loop_more starts_field (field c.args.language) field_of _ _ c.in_ok-field.field _ _ _ (field_short c.args.language) c.in_ok-push.ensures.items
      c.loop-alloc-test.ensures c.in_ok-field.ensures.given c.loop-alloc.invariant.1,
)

pub returns-clause-given : goal.returns-clause-given
returns-clause-given c =
    rw c.from_vec.ensures (loop_done starts_field (field c.args.language) field_of c.loop-alloc.items.items _ _ c.loop-alloc-test.ensures c.loop-alloc.invariant.1)
