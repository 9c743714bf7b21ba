use Rattle.std.proofs.Common.{◌≡◌, ◌++◌, replicate}
use Rattle.pst_types_scope.proofs.fields.add_targets.Given as goal

abbrev pub invariant-loop : goal.invariant-loop
invariant-loop l = l.items.items ≡ l.initial.items.items ++ replicate l.counter l.ty
