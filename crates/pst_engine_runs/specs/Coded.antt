-- The meaning of code by its machine.
use Rattle.std.specs.Prelude.{◌≡◌, ℕ, List, length, map, min, nat_le, Option, Bool, true, false, unwrap_or}
use Rattle.pst_base.specs.declared.names.Kind.{Kind}
use Rattle.pst_base.specs.Heap.{Heap}
use Rattle.pst_program.specs.declared.program.Program.{Program}
use Rattle.pst_program.specs.Syntax.{Routines}
use Rattle.pst_program.specs.Meaning.{Ending}
use Rattle.pst_program.specs.Outcome.{TaskCall, first_world, outcome_of}
use Rattle.pst_program.specs.Procedures.{parameters_with_name}
use Rattle.pst_program.specs.Typed.{IsTyped}
use Rattle.pst_program.specs.View.{routines_of}
use Rattle.pst_code.specs.declared.procedure.Parts.{Parts}
use Rattle.pst_code.specs.Calls.{CallsEndIn}
use Rattle.pst_code.specs.Procedures.{procedure_named}
use Rattle.pst_code.specs.Valid.{signature}
use Rattle.pst_translation.specs.Compiled.{code_of}
use Rattle.pst_history.specs.declared.history.NamedCall.{NamedCall}
use Rattle.pst_history.specs.Meaning.{Meaning, Work, CanBeDone, IsLawful, ReadsOnly}
use Rattle.pst_history.specs.Direct.{direct, meaning_of}

-- the number of the procedure or query with a name; past the last, where there is none
abbrev pub code_number : Parts → List ℕ → ℕ
code_number parts name = unwrap_or (procedure_named parts name) (length parts.procedures)

-- a call by its number
abbrev pub code_call : Parts → NamedCall → TaskCall
code_call parts c = record { procedure = code_number parts c.procedure; arguments = c.arguments }

-- the parameters of the query, or of the procedure that is none, with a name
abbrev pub code_parameters : (query : Bool) → Parts → List ℕ → Option (List Kind)
code_parameters query parts name = parameters_with_name signature query parts.procedures name

-- the machine carries out the calls of work, on this heap and with so many charges granted, and comes to this end
abbrev pub WorkEndsIn : Parts → Work → (granted : ℕ) → Heap → (o : Ending) → Type 0
WorkEndsIn parts w granted heap o = CallsEndIn parts (map (code_call parts) w.calls) (first_world w.run (min granted w.budget) heap) o

-- A meaning is that of code where its outcomes are those of the machine: work that can be done comes to an end, and an end
-- that the machine comes to has the outcome.
pub record IsMeaningOf (parts : Parts) (m : Meaning) : Type 0 where
  pub shape : m.shape ≡ parts.shape
  pub proc : (name : List ℕ) → m.proc name ≡ code_parameters false parts name
  pub query : (name : List ℕ) → m.query name ≡ code_parameters true parts name
  pub comes : (w : Work) (granted : ℕ) (heap : Heap) → CanBeDone m w heap → (o : Ending) × WorkEndsIn parts w granted heap o
  pub outcome : (w : Work) (granted : ℕ) (heap : Heap) (o : Ending) → WorkEndsIn parts w granted heap o → m.outcome w granted heap ≡ outcome_of (nat_le w.budget granted) o

-- code with a meaning: what it means, and the parts by which the machine runs it
pub record MeantCode : Type 0 where
  pub meaning : Meaning
  pub parts : Parts

-- the code of a program, with the meaning of the program
abbrev pub meant_by : Program → MeantCode
meant_by program = record { meaning = meaning_of program; parts = code_of (routines_of program) }

-- the code of a well-typed program has the program's meaning, which is lawful, and its queries write nothing
abbrev pub CompiledCodeMeansTheProgram : Type 0
CompiledCodeMeansTheProgram = (r : Routines) → IsTyped r → IsMeaningOf (code_of r) (direct r) × IsLawful (direct r) × ReadsOnly (direct r)
