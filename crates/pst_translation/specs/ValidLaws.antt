-- That the code of a program is valid, and that its registers are few.
use Rattle.std.specs.Prelude.{◌≡◌, ℕ, ◌+◌, ◌≤◌, List, ◌++◌, length, Some, slice_get}
use Rattle.std.specs.List.{AllByRecursion}
use Rattle.pst_base.specs.declared.shape.TypeShape.{TypeShape}
use Rattle.pst_program.specs.Syntax as syntax
use Rattle.pst_program.specs.Syntax.{Routines}
use Rattle.pst_program.specs.Typed.{IsTyped}
use Rattle.pst_code.specs.declared.procedure.TheConstants.{MOST_REGISTERS}
use Rattle.pst_code.specs.Valid.{IsValidCode}
use Rattle.pst_translation.specs.declared.need.Need.{Need}
use Rattle.pst_translation.specs.Needs.{block_needs, end_needs, table_of}
use Rattle.pst_translation.specs.Compiled.{code_of}

-- the code of a well-typed program is valid
abbrev pub CompiledIsValid : Type 0
CompiledIsValid = (r : Routines) → IsTyped r → IsValidCode (code_of r)

-- a level that an expression of a statement can have: the depth of an expression and the number of arguments bound it
abbrev pub IsLow : Need → Type 0
IsLow n = n.level ≤ 72

-- the temporary registers of a procedure are of low levels, and all its registers have numbers of 16 bits
pub record HasFewRegisters (shape : List TypeShape) (p : syntax.Procedure) : Type 0 where
  pub levels : AllByRecursion IsLow (block_needs shape p.body ++ end_needs p.result)
  pub registers : length p.kinds + length (table_of shape p) ≤ MOST_REGISTERS

-- of each procedure of a well-typed program
abbrev pub RegistersAreFew : Type 0
RegistersAreFew = (r : Routines) → IsTyped r → (i : ℕ) (p : syntax.Procedure) → slice_get r.procedures i ≡ Some p → HasFewRegisters r.shape p
