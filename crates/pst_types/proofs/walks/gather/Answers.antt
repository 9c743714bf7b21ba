use Rattle.std.proofs.lemmas.Result.{err_from_is_err_and}
use Rattle.pst_grammar.specs.View as tree_view
use Rattle.pst_typing.specs.Declarations.{noted}
use Rattle.pst_types_scope.specs.View.{scope_of}
use Rattle.pst_typing.proofs.Through.{fails_there}
use Rattle.pst_types.proofs.walks.gather.Goals as goal

pub returns-in_err-note : goal.returns-in_err-note
returns-in_err-note c =
    let p = err_from_is_err_and c.from_residual.result c.from_residual.ensures.1 in
    rw (p.1, p.2) (fails_there noted tree_view.item_of c.args.declarations.now _ c.loop-declaration.declaration-index c.declaration-item.result
    (scope_of c.loop-declaration.scope) c.in_err-note.field-0.0
    c.loop-declaration-test.true c.declaration-item.is c.loop-declaration.invariant c.in_err-note.ensures)
