-- The meaning of a program by its tree.
use Rattle.std.specs.Prelude.{ℕ, List, length, map, unwrap_or, true, false}
use Rattle.pst_program.specs.declared.program.Program.{Program}
use Rattle.pst_program.specs.Syntax.{Routines}
use Rattle.pst_program.specs.Outcome.{TaskCall, Task, outcome}
use Rattle.pst_program.specs.Typed.{procedure_named, parameters_named}
use Rattle.pst_program.specs.View.{routines_of}
use Rattle.pst_history.specs.declared.history.NamedCall.{NamedCall}
use Rattle.pst_history.specs.Meaning.{Meaning, Work}

-- the number of the procedure or query with a name; past the last, where there is none
abbrev pub procedure_number : Routines → List ℕ → ℕ
procedure_number r name = unwrap_or (procedure_named r name) (length r.procedures)

-- a call by its number
abbrev pub direct_call : Routines → NamedCall → TaskCall
direct_call r c = record { procedure = procedure_number r c.procedure; arguments = c.arguments }

abbrev pub task_of : Routines → Work → Task
task_of r w = record { run = w.run; calls = map (direct_call r) w.calls; budget = w.budget }

-- procedures are found by their names, and statements do what the tree says
unfoldable pub direct : Routines → Meaning
direct r = record { shape = r.shape; proc = parameters_named false r; query = parameters_named true r; outcome = λ w granted heap. outcome r (task_of r w) granted heap }

abbrev pub meaning_of : Program → Meaning
meaning_of program = direct (routines_of program)
