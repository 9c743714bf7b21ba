-- What the compiler makes of expressions, with the record types and the registers of their procedure.
use Rattle.std.specs.Prelude.{◌≡◌, ℕ, Bool, List, ◌++◌}
use Rattle.std.specs.declared.vec.Vec.{Vec}
use Rattle.std.specs.declared.alloc.Global.{Global}
use Rattle.pst_base.specs.declared.names.Op.{Op}
use Rattle.pst_code.specs.declared.instr.Reg.{Reg}
use Rattle.pst_code.specs.declared.instr.Instr.{Instr}
use Rattle.pst_program.specs.Syntax.{Expr}
use Rattle.pst_translation.specs.Code.{Temp, register, expr_code, compare_code, test_size, test_code}
use Rattle.pst_translation.specs.Needs.{temp_of}
use Rattle.pst_codegen_expressions.specs.declared.layout.Layout.{Layout}

-- the code has become longer by these instructions
abbrev pub Emits : (old new : Vec Instr Global) → (added : List Instr) → Type 0
Emits old new added = new.items ≡ old.items ++ added

-- the temporary registers of a procedure, by level and kind
abbrev pub temps_of : Layout → Temp
temps_of l = temp_of l.locals l.table

-- the code of an operand of a level
abbrev pub operand_code : Layout → Expr → (level : ℕ) → List Instr
operand_code l e level = expr_code l.shape.now (temps_of l) e level

-- the register that holds the value of an operand of a level
abbrev pub operand_register : Layout → Expr → (level : ℕ) → Reg
operand_register l e level = register l.shape.now (temps_of l) e level

-- the code of a comparison: its operands, and a jump to an index where it comes out as wanted
abbrev pub comparison_code : Layout → (operator : Op) → (a b : Expr) → (want : Bool) → (to : ℕ) → List Instr
comparison_code l operator a b want to =
    operand_code l a 0 ++ (operand_code l b 1 ++ compare_code operator want (operand_register l a 0) (operand_register l b 1) to)

-- how many instructions a condition takes
abbrev pub condition_size : Layout → Expr → ℕ
condition_size l e = test_size l.shape.now (temps_of l) e

-- the code of a condition that stands at an index: a jump to another one where its truth is the wanted one
abbrev pub condition_code : Layout → Expr → (want : Bool) → (to at : ℕ) → List Instr
condition_code l e want to at = test_code l.shape.now (temps_of l) e want to at
