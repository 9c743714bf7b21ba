use Rattle.std.proofs.Common.{◌≡◌, map, take}
use Rattle.pst_typing.specs.Names.{kind_of}
use Rattle.pst_types_scope.specs.View.{kind_word, scope_of}
use Rattle.pst_types_procedures.proofs.procedure.kinds_of.Given as goal

abbrev pub invariant-loop-variable : goal.invariant-loop-variable
invariant-loop-variable l = l.items.items ≡ map (λ v. kind_of (scope_of l.scope) (kind_word v.kind)) (take l.variable-index l.variable-items)
