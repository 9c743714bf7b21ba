-- How commands are written: the words of each, and that there are no others.
use Rattle.std.specs.Prelude.{◌≡◌, ◌↔◌, ℕ, ℤ, Bool, true, List, [], ◌∷◌, map, codes, Some, Ok}
use Rattle.std.specs.Fmt.{decimal, signed_decimal}
use Rattle.pst_script.specs.Words.{words}
use Rattle.pst_base.specs.Words.{is_name}
use Rattle.pst_script.specs.Commands.{in_range, reading}
use Rattle.pst_script.specs.declared.command.Call.{Call}
use Rattle.pst_script.specs.declared.command.Command.{Command}
use Rattle.pst_script.specs.declared.command.Command.TheVariants.{Run, Query, OpenRun, OpenEmpty, CallRun, StepRun, CloseRun, DropRun, Budget, Versions, Stats}

-- the words of a call behind its verb: the number of a version or of a run, the name of a procedure, and arguments
abbrev pub call_words : ℕ → List ℕ → List ℤ → List (List ℕ)
call_words number procedure arguments = decimal number ∷ procedure ∷ map signed_decimal arguments

abbrev pub words_on_version : Call → List (List ℕ)
words_on_version call = call_words call.version.0 call.procedure call.arguments

-- the words of a command
abbrev pub words_of : Command → List (List ℕ)
words_of (Run call) = codes "run" ∷ words_on_version call
words_of (Query call) = codes "query" ∷ words_on_version call
words_of (OpenRun call) = codes "open" ∷ words_on_version call
words_of (OpenEmpty version) = codes "open" ∷ decimal version.0 ∷ []
words_of (CallRun run procedure arguments) = codes "call" ∷ call_words run.0 procedure arguments
words_of (StepRun run charges) = codes "step" ∷ decimal run.0 ∷ decimal charges ∷ []
words_of (CloseRun run) = codes "close" ∷ decimal run.0 ∷ []
words_of (DropRun run) = codes "drop" ∷ decimal run.0 ∷ []
words_of (Budget charges) = codes "budget" ∷ decimal charges ∷ []
words_of Versions = codes "versions" ∷ []
words_of Stats = codes "stats" ∷ []

-- the procedure of the command, if it has one, has a name that a program can give
abbrev pub has_name : Command → Bool
has_name (Run call) = is_name call.procedure
has_name (Query call) = is_name call.procedure
has_name (OpenRun call) = is_name call.procedure
has_name (OpenEmpty version) = true
has_name (CallRun run procedure arguments) = is_name procedure
has_name (StepRun run charges) = true
has_name (CloseRun run) = true
has_name (DropRun run) = true
has_name (Budget charges) = true
has_name Versions = true
has_name Stats = true

-- the command can stand in a script
pub record CanBeWritten (command : Command) : Type 0 where
  pub name : has_name command ≡ true
  pub range : in_range command ≡ true

-- a line is a command exactly where its words are those of the command
abbrev pub IsWrittenOneWay : List ℕ → Command → Type 0
IsWrittenOneWay line command = (reading line ≡ Ok (Some command)) ↔ (CanBeWritten command × (words line ≡ words_of command))
