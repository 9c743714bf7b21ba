use Rattle.std.proofs.Common.{map}
use Rattle.pst_grammar.specs.View as tree_view
use Rattle.pst_typing.specs.Answers.{through}
use Rattle.pst_typing.specs.Declarations.{field}
use Rattle.pst_typing.specs.Names.{no_members}
use Rattle.pst_types_scope.specs.View.{members_of, scope_of}
use Rattle.pst_typing.proofs.Through.{Left}
use Rattle.pst_types_scope.proofs.fields.judge_fields.Given as goal

abbrev pub invariant-loop-field : goal.invariant-loop-field
invariant-loop-field l = Left (field (scope_of l.scope)) tree_view.field_of l.fields
    (through (field (scope_of l.scope)) no_members (map tree_view.field_of l.fields)) l.field-index (members_of l.members)
