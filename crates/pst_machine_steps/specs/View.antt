-- What the frames and registers of a running machine mean: frames of the machine's definition, whose pointers are names.
use Rattle.std.specs.Prelude.{◌≡◌, ℤ, List, [], map, reverse, Option, Some, None, Result, Ok, Err, unwrap_or, slice_get, false}
use Rattle.std.specs.Option.{option_map}
use Rattle.pst_base.specs.declared.names.Name.{Name}
use Rattle.pst_base.specs.declared.names.ProcNo.{ProcNo}
use Rattle.pst_base.specs.declared.names.Op.{Op}
use Rattle.pst_base.specs.declared.names.Op.TheVariants as op
use Rattle.pst_base.specs.declared.names.TrapKind.{TrapKind}
use Rattle.pst_base.specs.declared.names.TrapKind.TheVariants.{Overflow}
use Rattle.pst_program.specs.declared.meaning.Value.{Value}
use Rattle.pst_program.specs.declared.meaning.Value.TheVariants.{Number as ANumber, Null as ANull, Record as ARecord}
use Rattle.pst_program.specs.Value.{Answer, Gives, Traps, number_of}
use Rattle.pst_program.specs.Meaning.{World, Returned, Trapped}
use Rattle.pst_code.specs.declared.instr.Reg.{Reg}
use Rattle.pst_code.specs.declared.instr.Instr.{Instr}
use Rattle.pst_code.specs.declared.procedure.Procedure.{Procedure}
use Rattle.pst_code.specs.declared.procedure.Parts.{Parts}
use Rattle.pst_code.specs.Machine.{Frame, Caller, Move, Goes, Waits as WaitsFor, Over, act, after_effect, behind, held, put_answer}
use Rattle.pst_machine_steps.specs.declared.register.Register.{Register}
use Rattle.pst_machine_steps.specs.declared.register.Register.TheVariants.{Number, Null, Reference}
use Rattle.pst_machine_steps.specs.declared.standing.CallFrame.{CallFrame}
use Rattle.pst_machine_steps.specs.declared.standing.Waiting.{Waiting}
use Rattle.pst_machine_steps.specs.declared.standing.Step.{Step}
use Rattle.pst_machine_steps.specs.declared.standing.Step.TheVariants.{Next, Here, Switched, Waits, Ends, Trap}

-- the value that a register holds, where references have names
abbrev pub value_of : {R : Type 0} → (R → Name) → Register R → Value
value_of name (Number n) = ANumber n
value_of name Null = ANull
value_of name (Reference r) = ARecord (name r)

-- a procedure without code, for a number that no procedure has
abbrev pub no_procedure : Procedure
no_procedure = record { name = []; query = false; arguments = 0; result = None; kinds = []; instructions = [] }

-- the procedure with a number
abbrev pub procedure_of : Parts → ProcNo → Procedure
procedure_of parts p = unwrap_or (slice_get parts.procedures p.0) no_procedure

abbrev pub frame_of : {R : Type 0} → Parts → (R → Name) → CallFrame R → Frame
frame_of parts name f = record { procedure = procedure_of parts f.procedure; at = f.at; registers = map (value_of name) f.registers.items; line = f.line }

abbrev pub caller_of : {R : Type 0} → Parts → (R → Name) → Waiting R → Caller
caller_of parts name w = record { frame = frame_of parts name w.frame; into = w.into }

-- the last of the list waits for the current frame
abbrev pub callers_of : {R : Type 0} → Parts → (R → Name) → List (Waiting R) → List Caller
callers_of parts name ws = map (caller_of parts name) (reverse ws)

-- what a step comes to, with the frames and the world that it leaves
abbrev pub move_of : Step → Frame → List Caller → World → Move
move_of Next f c w = Goes (behind f f.registers) c w
move_of Here f c w = Goes f c w
move_of Switched f c w = Goes f c w
move_of (Waits line) f c w = WaitsFor line f c w
move_of (Ends r) f c w = Over (Returned (option_map (held f.registers) r) w)
move_of (Trap kind) f c w = Over (Trapped kind f.line w)

-- A step in a frame does what this move of the definition does there: in every code, whatever frames wait, in every world.
abbrev pub ActsAs : {R : Type 0} → (R → Name) → (old : CallFrame R) → (Parts → Frame → List Caller → World → Move) → Step → (new : CallFrame R) → Type 0
ActsAs name old move step new = (parts : Parts) (c : List Caller) (w : World) → move parts (frame_of parts name old) c w ≡ move_of step (frame_of parts name new) c w

-- so with the move of this instruction: the step carries it out
abbrev pub Performs : {R : Type 0} → (R → Name) → (old : CallFrame R) → Instr → Step → (new : CallFrame R) → Type 0
Performs name old instr step new = ActsAs name old (λ parts. act parts (Some instr)) step new

-- a step that goes on behind its instruction leaves the frame at it
abbrev pub StaysAt : {R : Type 0} → (old : CallFrame R) → Step → (new : CallFrame R) → Type 0
StaysAt old step new = step ≡ Next → new.at ≡ old.at

-- what is so of a frame at each of its meanings: in every code, whatever names its references have
abbrev pub AtEachMeaning : {R : Type 0} → CallFrame R → (Frame → Type 0) → Type 0
AtEachMeaning {R} frame fact = (parts : Parts) (name : R → Name) → fact (frame_of parts name frame)

-- the number that a register of a frame holds
abbrev pub number_in : Frame → Reg → ℤ
number_in f r = number_of (held f.registers r)

-- a register of the frame is set to an answer, or the run traps
abbrev pub set_to : Reg → Answer → Frame → List Caller → World → Move
set_to d x f c w = after_effect (put_answer d x f.line f.registers w) f c

-- ---- arithmetic

-- a number, or why there is none
abbrev pub answer_of : Result ℤ TrapKind → Answer
answer_of (Ok n) = Gives (ANumber n)
answer_of (Err kind) = Traps kind

-- an exact result, if it is a number of 64 bits
abbrev pub given_of : Option ℤ → Result ℤ TrapKind
given_of (Some n) = Ok n
given_of None = Err Overflow

-- the operators that give numbers
abbrev pub IsArithmetic : Op → Type 0
IsArithmetic op.Add = Unit {0}
IsArithmetic op.Sub = Unit {0}
IsArithmetic op.Mul = Unit {0}
IsArithmetic op.Div = Unit {0}
IsArithmetic op.Rem = Unit {0}
IsArithmetic op.Equal = ⊥
IsArithmetic op.NotEqual = ⊥
IsArithmetic op.Less = ⊥
IsArithmetic op.LessEqual = ⊥
IsArithmetic op.Greater = ⊥
IsArithmetic op.GreaterEqual = ⊥
IsArithmetic op.And = ⊥
IsArithmetic op.Or = ⊥
