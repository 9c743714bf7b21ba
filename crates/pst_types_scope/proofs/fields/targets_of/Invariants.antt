use Rattle.std.proofs.Common.{◌≡◌, ◌++◌, drop}
use Rattle.pst_types_scope.specs.View.{scope_of}
use Rattle.pst_types_scope.proofs.Targets.{targets_in}
use Rattle.pst_types_scope.proofs.fields.targets_of.Given as goal

abbrev pub invariant-loop-member : goal.invariant-loop-member
invariant-loop-member l = l.items.items ++ targets_in (scope_of l.scope) (drop l.member-index l.member-items) ≡ targets_in (scope_of l.scope) l.member-items
