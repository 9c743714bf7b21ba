use Rattle.std.proofs.Common.{map}
use Rattle.pst_grammar.specs.View as tree_view
use Rattle.pst_typing.specs.Answers.{through}
use Rattle.pst_typing.specs.Declarations.{variable}
use Rattle.pst_types_scope.specs.View.{entries_of, local_of, scope_of}
use Rattle.pst_typing.proofs.Through.{Left}
use Rattle.pst_types_procedures.proofs.procedure.add_variables.Given as goal

abbrev pub invariant-loop-local : goal.invariant-loop-local
invariant-loop-local l =
    Left (variable (scope_of l.scope) l.most) tree_view.local_of l.locals
    (through (variable (scope_of l.scope) l.most) (entries_of local_of l.initial.variables.entries) (map tree_view.local_of l.locals))
    l.local-index (entries_of local_of l.variables.entries)
