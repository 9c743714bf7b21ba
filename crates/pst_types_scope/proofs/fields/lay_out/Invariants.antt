use Rattle.std.proofs.Common.{◌≡◌, map, drop}
use Rattle.pst_grammar.specs.View as tree_view
use Rattle.pst_typing.specs.Names.{no_members, members_from}
use Rattle.pst_types_scope.specs.View.{members_of}
use Rattle.pst_types_scope.proofs.fields.lay_out.Given as goal

abbrev pub invariant-loop-field : goal.invariant-loop-field
invariant-loop-field l = members_from (members_of l.members) (map tree_view.field_of (drop l.field-index l.fields)) ≡ members_from no_members (map tree_view.field_of l.fields)
