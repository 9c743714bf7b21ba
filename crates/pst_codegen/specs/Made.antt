-- What the compiler makes of a statement, with the record types and the registers of its procedure.
use Rattle.std.specs.Prelude.{ℕ, List, ◌∷◌, ◌++◌, false}
use Rattle.std.specs.declared.vec.Vec.{Vec}
use Rattle.std.specs.declared.alloc.Global.{Global}
use Rattle.pst_program.specs.Syntax.{Expr, Action, Actions}
use Rattle.pst_code.specs.declared.instr.Reg.{Reg}
use Rattle.pst_code.specs.declared.instr.Instr.{Instr}
use Rattle.pst_code.specs.declared.instr.Instr.TheVariants as code
use Rattle.pst_translation.specs.Code.{action_code, block_code, arguments_code, registers}
use Rattle.pst_codegen_expressions.specs.declared.layout.Layout.{Layout}
use Rattle.pst_codegen_expressions.specs.Emitted.{Emits, temps_of, condition_code}

-- the code of a statement of a line that stands at an index
abbrev pub code_by : Layout → Action → (line at : ℕ) → List Instr
code_by l action line at = action_code l.shape.now (temps_of l) action line at

-- the code has become longer by that of one statement of a line, which holds no others: it is the same wherever it stands
abbrev pub EmitsOne : Layout → (old new : Vec Instr Global) → Action → (line : ℕ) → Type 0
EmitsOne l old new action line = Emits old new (code_by l action line 0)

-- the code of a block that stands at an index
abbrev pub block_by : Layout → Actions → (at : ℕ) → List Instr
block_by l actions at = block_code l.shape.now (temps_of l) actions at

-- the code of the arguments of a call
abbrev pub arguments_by : Layout → List Expr → List Instr
arguments_by l es = arguments_code l.shape.now (temps_of l) es 0

-- the registers that hold the arguments of a call
abbrev pub argument_registers : Layout → List Expr → List Reg
argument_registers l es = registers l.shape.now (temps_of l) es 0

-- a charge, a condition that stands at the index `test` and goes to the index `to` where it does not hold, and what is behind it
abbrev pub guarded_code : Layout → Expr → (body : List Instr) → (line test to : ℕ) → List Instr
guarded_code l e body line test to = code.Charge line ∷ (condition_code l e false to test ++ body)

-- a choice with two sides: its condition stands at the index `test`, its second side at `middle`, and what follows it at `end`
abbrev pub choice_code : Layout → Expr → (first other : List Instr) → (line test middle end : ℕ) → List Instr
choice_code l e first other line test middle end = guarded_code l e (first ++ (code.Jump end ∷ other)) line test middle
