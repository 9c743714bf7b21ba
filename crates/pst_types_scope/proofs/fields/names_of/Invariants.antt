use Rattle.std.proofs.Common.{◌≡◌, ◌++◌, drop}
use Rattle.pst_types_scope.specs.View.{members_of}
use Rattle.pst_types_scope.proofs.Added.{field_names}
use Rattle.pst_types_scope.proofs.fields.names_of.Given as goal

abbrev pub invariant-loop-index : goal.invariant-loop-index
invariant-loop-index l = l.fields.items ++ field_names (members_of l.members) (drop l.index l.members.list.entries) ≡ field_names (members_of l.members) l.members.list.entries
