use Rattle.std.proofs.Common.{◌≡◌, ◌++◌, map, take}
use Rattle.pst_translation.specs.declared.need.Need.{Need}
use Rattle.pst_codegen.proofs.compiler.register_kinds.Given as goal

abbrev pub invariant-loop-need : goal.invariant-loop-need
invariant-loop-need l = l.kinds.items ≡ l.locals ++ map (λ (n : Need). n.kind) (take l.need-index l.table)
