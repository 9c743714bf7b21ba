use Rattle.std.proofs.Common.{map, ap}
use Rattle.pst_grammar.specs.View.{item_of, items_of}
use Rattle.pst_typing.specs.Declarations.{root_alone}
use Rattle.pst_types_scope.specs.View.{scope_of}
use Rattle.pst_types.proofs.Verdicts.{approved_checked}
use Rattle.pst_types.proofs.walks.approve.Goals as goal

pub returns : goal.returns
returns c =
    let scope = scope_of c.in_ok-scope.scope in
    approved_checked (map item_of c.as_slice-declarations.result.now) (items_of c.args.tree.now) scope c.approve_all.result
    (ap (map item_of) c.as_slice-declarations.ensures.value) c.in_ok-scope.ensures (c.approve_all.ensures (root_alone scope))
