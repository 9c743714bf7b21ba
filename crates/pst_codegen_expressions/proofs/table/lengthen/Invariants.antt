use Rattle.std.proofs.Common.{◌≡◌, ℕ, ◌-◌, ◌+◌, length}
use Rattle.pst_codegen_expressions.specs.Rows.{row_at}
use Rattle.pst_codegen_expressions.proofs.table.lengthen.Given as goal

abbrev pub invariant-loop-alloc : goal.invariant-loop-alloc
invariant-loop-alloc l = (level : ℕ) → row_at l.rows.items level ≡ row_at l.fn.rows.items level

abbrev pub decreases-loop-alloc : goal.decreases-loop-alloc
decreases-loop-alloc l = l.row + 1 - length l.rows.items
