use Rattle.std.proofs.Common.{map}
use Rattle.pst_grammar.specs.View as tree_view
use Rattle.pst_typing.specs.Answers.{through}
use Rattle.pst_typing.specs.Declarations.{noted}
use Rattle.pst_typing.specs.Names.{nothing_declared}
use Rattle.pst_types_scope.specs.View.{scope_of}
use Rattle.pst_typing.proofs.Through.{Left}
use Rattle.pst_types.proofs.walks.gather.Given as goal

abbrev pub invariant-loop-declaration : goal.invariant-loop-declaration
invariant-loop-declaration l = Left noted tree_view.item_of l.declarations (through noted nothing_declared (map tree_view.item_of l.declarations)) l.declaration-index (scope_of l.scope)
