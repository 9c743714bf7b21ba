-- The meaning of valid code by its machine alone, with no program behind it.
use Rattle.std.specs.Prelude.{◌≡◌, ℕ, ◌+◌, List, [], map, Option, Some, None, true, false, slice_get}
use Rattle.pst_base.specs.Heap.{Heap}
use Rattle.pst_program.specs.declared.meaning.Value.{Value}
use Rattle.pst_program.specs.declared.meaning.Value.TheVariants.{Number as ANumber}
use Rattle.pst_program.specs.Meaning.{World, Ending, Returned}
use Rattle.pst_program.specs.Outcome.{TaskCall, outcome_by}
use Rattle.pst_program.specs.Syntax.{Routines}
use Rattle.pst_program.specs.Typed.{IsTyped}
use Rattle.pst_code.specs.declared.procedure.Procedure.{Procedure}
use Rattle.pst_code.specs.declared.procedure.Parts.{Parts}
use Rattle.pst_code.specs.Machine.{Move, Goes, Waits, Over, Stuck, first_frame, steps, spent}
use Rattle.pst_code.specs.Falls.{total}
use Rattle.pst_code.specs.Valid.{IsValidCode}
use Rattle.pst_translation.specs.Compiled.{code_of}
use Rattle.pst_history.specs.Meaning.{Meaning, Work, CanBeDone, IsLawful}
use Rattle.pst_history.specs.Direct.{direct}
use Rattle.pst_engine_runs.specs.Coded.{code_call, code_parameters, IsMeaningOf, MeantCode}

-- the end to which a run came, or this world where it came to none
abbrev pub end_or : World → Move → Ending
end_or w (Over o) = o
end_or w (Goes f callers v) = Returned None w
end_or w (Waits line f callers v) = Returned None w
end_or w Stuck = Returned None w

-- what a procedure comes to on the machine, in as many instructions as it can have before it ends
unfoldable pub machine_run : Parts → Option Procedure → List Value → World → Ending
machine_run parts None arguments w = Returned None w
machine_run parts (Some p) arguments w = end_or w (spent (steps parts (total parts (first_frame p arguments) [] w + 1) (first_frame p arguments) [] w))

-- what a call comes to
abbrev pub machine_call : Parts → TaskCall → World → Ending
machine_call parts c w = machine_run parts (slice_get parts.procedures c.procedure) (map ANumber c.arguments) w

-- procedures are found by their names in the code, and the machine carries out its instructions
unfoldable pub by_machine : Parts → Meaning
by_machine parts = record {
  shape = parts.shape;
  proc = code_parameters false parts;
  query = code_parameters true parts;
  outcome = λ w granted heap. outcome_by (machine_call parts) w.run (map (code_call parts) w.calls) w.budget granted heap;
}

-- valid code by itself, with that meaning
abbrev pub meant_by_machine : Parts → MeantCode
meant_by_machine parts = record { meaning = by_machine parts; parts = parts }

-- all valid code has this meaning, which is lawful
abbrev pub ValidCodeHasAMeaning : Type 0
ValidCodeHasAMeaning = (parts : Parts) → IsValidCode parts → IsMeaningOf parts (by_machine parts) × IsLawful (by_machine parts)

-- two meanings are one for histories: the same record types, procedures and queries, and the same outcome of work that can be done
pub record AreOneMeaning (m n : Meaning) : Type 0 where
  pub shape : m.shape ≡ n.shape
  pub proc : (name : List ℕ) → m.proc name ≡ n.proc name
  pub query : (name : List ℕ) → m.query name ≡ n.query name
  pub outcome : (w : Work) (granted : ℕ) (heap : Heap) → CanBeDone m w heap → m.outcome w granted heap ≡ n.outcome w granted heap

-- code has one meaning
abbrev pub CodeHasOneMeaning : Type 0
CodeHasOneMeaning = (parts : Parts) (m n : Meaning) → IsMeaningOf parts m → IsMeaningOf parts n → AreOneMeaning m n

-- so the code of a well-typed program means by its machine alone what the program means by its tree
abbrev pub TheMachineMeansTheProgram : Type 0
TheMachineMeansTheProgram = (r : Routines) → IsTyped r → AreOneMeaning (by_machine (code_of r)) (direct r)
