use Rattle.std.proofs.Common.{◌≡◌, map, drop}
use Rattle.pst_grammar.specs.View as tree_view
use Rattle.pst_program.specs.View as typed_view
use Rattle.pst_typing.specs.Statements.{arguments}
use Rattle.pst_types_scope.specs.View.{setting_of}
use Rattle.pst_types_statements.proofs.Blocks.{ahead}
use Rattle.pst_types_statements.proofs.statement.pass.Given as goal

abbrev pub invariant-loop-index : goal.invariant-loop-index
invariant-loop-index l =
    ahead (map typed_view.expr_of l.items.items) (arguments (setting_of l.setting) l.line (map tree_view.local_of (drop l.index l.parameters)) (map tree_view.expr_of (drop l.index l.values)))
    ≡ arguments (setting_of l.setting) l.line (map tree_view.local_of l.parameters) (map tree_view.expr_of l.values)
