-- What has happened since version 0 was alone, as a history, and how it changes.
use Rattle.std.specs.Prelude.{◌≡◌, ℕ, List}
use Rattle.pst_base.specs.declared.names.VersionNo.{VersionNo}
use Rattle.pst_base.specs.declared.shape.TypeShape.{TypeShape}
use Rattle.pst_program.specs.declared.program.Program.{Program}
use Rattle.pst_history.specs.declared.history.NamedCall.{NamedCall}
use Rattle.pst_history.specs.declared.history.Run.{Run}
use Rattle.pst_history.specs.declared.history.Since.{Since}
use Rattle.pst_history.specs.History.{History, opening, since, with_run, run_at, opened}
use Rattle.pst_history.specs.Direct.{meaning_of}

-- what has happened since version 0 was alone, as a history of a program
abbrev pub history_for : Program → Since → History
history_for program s = since (opening (meaning_of program).shape) s

-- a run more, and nothing else
abbrev pub Opens : VersionNo → List NamedCall → (old new : Since) → Type 0
Opens version calls old new = (shape : List TypeShape) → since (opening shape) new ≡ opened (since (opening shape) old) version calls

-- the run with a number is changed, and nothing else
abbrev pub Changes : (Run → Run) → ℕ → (old new : Since) → Type 0
Changes f n old new = (shape : List TypeShape) → since (opening shape) new ≡ with_run (since (opening shape) old) n f (run_at (since (opening shape) old) n)
