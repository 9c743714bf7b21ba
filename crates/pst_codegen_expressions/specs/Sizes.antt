-- How many instructions an operand takes, whatever its level and its registers are.
use Rattle.std.specs.Prelude.{ℕ, ◌+◌, length}
use Rattle.pst_program.specs.Syntax.{Expr, Number, Null, Local, Root, Parens, Load, LoadIndexed, Negate, Not, Binary}
use Rattle.pst_translation.specs.Code.{arithmetic, reg}

-- how many instructions an operand takes
abbrev pub expr_size : Expr → ℕ
expr_size (Number n) = 1
expr_size (Null ty) = 1
expr_size (Local x) = 0
expr_size (Root slot) = 1
expr_size (Parens e) = expr_size e
expr_size (Load e slot kind) = expr_size e + 1
expr_size (LoadIndexed e slot elements i kind) = expr_size e + (expr_size i + 2)
expr_size (Negate e) = expr_size e + 1
expr_size (Not e) = 0
expr_size (Binary operator a b) = expr_size a + (expr_size b + length (arithmetic operator (reg 0) (reg 0) (reg 0)))
