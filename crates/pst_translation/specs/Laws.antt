-- The code of a well-typed program does what the program does: the usual statement of a correct compiler.
use Rattle.std.specs.Prelude.{◌≡◌, ℕ, min, nat_le, List, length, Some, slice_get}
use Rattle.pst_base.specs.Heap.{Heap}
use Rattle.pst_program.specs.declared.meaning.Value.{Value}
use Rattle.pst_program.specs.Syntax.{Procedure, Routines}
use Rattle.pst_program.specs.Meaning.{World, Ending, run_body, call}
use Rattle.pst_program.specs.Typed.{IsTyped}
use Rattle.pst_program.specs.Outcome.{TaskCall, Task, first_world, outcome_of, outcome}
use Rattle.pst_code.specs.Machine.{EndsIn}
use Rattle.pst_code.specs.Calls.{CallsEndIn}
use Rattle.pst_code.specs.declared.procedure.Parts.{Parts}
use Rattle.pst_translation.specs.Compiled.{procedure_code, code_of}

-- ---- one call

-- the machine on the code of a procedure ends as the procedure does: with the same end, line, heap, printed numbers, counts
-- and charges left
abbrev pub EndsAsTheProcedure : Routines → Procedure → List Value → World → Type 0
EndsAsTheProcedure r p arguments w = EndsIn (code_of r) (procedure_code r.shape p) arguments w (run_body r.shape (call r 255) (Some p) arguments w)

-- each procedure with its arguments, whatever was printed, made and counted before
abbrev pub CodeDoesWhatTheProgramDoes : Type 0
CodeDoesWhatTheProgramDoes = (r : Routines) → IsTyped r → (i : ℕ) (p : Procedure) → slice_get r.procedures i ≡ Some p →
    (vs : List Value) → length vs ≡ p.arguments → (w : World) → EndsAsTheProcedure r p vs w

-- ---- calls in order

-- the call is of a procedure of the program, with as many arguments as it has parameters
pub record IsCallOf (r : Routines) (c : TaskCall) : Type 0 where
  pub procedure : Procedure
  pub found : slice_get r.procedures c.procedure ≡ Some procedure
  pub fits : length c.arguments ≡ procedure.arguments

abbrev pub AreCallsOf : Routines → List TaskCall → Type 0
AreCallsOf r calls = (i : ℕ) (c : TaskCall) → slice_get calls i ≡ Some c → IsCallOf r c

-- the machine carries out the calls of a task, on this heap and with so many charges granted, and comes to this end
abbrev pub TaskEndsIn : Parts → Task → (granted : ℕ) → Heap → (o : Ending) → Type 0
TaskEndsIn parts task granted heap o = CallsEndIn parts task.calls (first_world task.run (min granted task.budget) heap) o

-- the outcome of this end is that of the task by the program
abbrev pub IsOutcome : Routines → Task → (granted : ℕ) → Heap → Ending → Type 0
IsOutcome r task granted heap o = outcome_of (nat_le task.budget granted) o ≡ outcome r task granted heap

-- the calls of a task come by the machine to an end whose outcome is the task's
abbrev pub CodeComesToTheOutcome : Type 0
CodeComesToTheOutcome = (r : Routines) → IsTyped r → (task : Task) → AreCallsOf r task.calls → (granted : ℕ) (heap : Heap) →
    (o : Ending) × TaskEndsIn (code_of r) task granted heap o × IsOutcome r task granted heap o

-- and to no other
abbrev pub CodeHasTheOutcome : Type 0
CodeHasTheOutcome = (r : Routines) → IsTyped r → (task : Task) (granted : ℕ) (heap : Heap) (o : Ending) →
    TaskEndsIn (code_of r) task granted heap o → IsOutcome r task granted heap o
