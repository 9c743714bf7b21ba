-- What the calls of a replayer come to.
use Rattle.std.specs.Prelude.{◌≡◌, ◌<◌, ◌≤◌, ℕ, ◌+◌, ◌-◌, List, [], ◌∷◌, Option, Some, None, length, map, zero, suc, slice_get, count_by}
use Rattle.pst_base.specs.declared.names.RunNo.{RunNo}
use Rattle.pst_base.specs.declared.names.VersionNo.{VersionNo}
use Rattle.pst_base.specs.declared.shape.TypeShape.{TypeShape}
use Rattle.pst_program.specs.declared.program.Program.{Program}
use Rattle.pst_program.specs.declared.meaning.Ended.{Ended}
use Rattle.pst_program.specs.Outcome.{Outcome, TaskCall, calls_of}
use Rattle.pst_program.specs.View.{routines_of}
use Rattle.pst_script.specs.declared.command.Command.{Command}
use Rattle.pst_script.specs.declared.command.Command.TheVariants as command
use Rattle.pst_script.specs.declared.reply.Reply.{Reply}
use Rattle.pst_history.specs.declared.history.Descent.{Descent}
use Rattle.pst_history.specs.declared.history.Run.{Run}
use Rattle.pst_history.specs.declared.history.Since.{Since}
use Rattle.pst_history.specs.Meaning.{Meaning}
use Rattle.pst_history.specs.History.{History, opening, since, is_open, run_at, outcome_of, stepped, reply, after, refusal, answered, changed, with_version}
use Rattle.pst_history.specs.Sound.{IsSoundHistory}
use Rattle.pst_history.specs.Direct.{direct_call, meaning_of}
use Rattle.pst_history.specs.Since.{history_for}
use Rattle.pst_eval.specs.declared.whole.Outcome.{Outcome as Told}
use Rattle.pst_replay.specs.declared.history.NumberedHistory.{NumberedHistory}
use Rattle.pst_replay.specs.declared.replayer.Replayer.{Replayer}

-- what is kept, as a history
abbrev pub kept : List TypeShape → NumberedHistory → History
kept shape k = since (opening shape) k.since

-- the history that is kept for a program
abbrev pub kept_for : Program → NumberedHistory → History
kept_for program k = history_for program k.since

-- the calls of a run by the numbers of their procedures
abbrev pub direct_calls : Program → Run → List TaskCall
direct_calls program r = map (direct_call (routines_of program)) r.calls

-- the calls that are kept by number are those of the runs
abbrev pub IsNumbered : Program → NumberedHistory → Type 0
IsNumbered program k = map calls_of k.calls ≡ map (direct_calls program) k.since.runs

-- a replayer that may answer another command of a program: it keeps a history, its calls by number, and how many of its runs are open
pub record MayApply (program : Program) (r : Replayer) : Type 0 where
  pub sound : IsSoundHistory (meaning_of program) (kept_for program r.history)
  pub numbered : IsNumbered program r.history
  pub counted : r.open_runs ≡ count_by is_open r.history.since.runs

-- how many runs are open after a command that is not refused
abbrev pub open_after : ℕ → Command → ℕ
open_after n (command.Run call) = n
open_after n (command.Query call) = n
open_after n (command.OpenRun call) = n + 1
open_after n (command.OpenEmpty version) = n + 1
open_after n (command.CallRun run procedure arguments) = n
open_after n (command.StepRun run charges) = n
open_after n (command.CloseRun run) = n - 1
open_after n (command.DropRun run) = n - 1
open_after n (command.Budget charges) = n
open_after n command.Versions = n
open_after n command.Stats = n

-- the command is answered, and the history is that after it
pub record Answers (m : Meaning) (old : History) (c : Command) (r : Reply) (new : History) : Type 0 where
  pub reply : r ≡ reply m old c
  pub after : new ≡ after m old c

-- a command is answered for a program, and what is kept then is the history after it
abbrev pub AnswersFor : Program → (old : NumberedHistory) → Command → Reply → (new : NumberedHistory) → Type 0
AnswersFor program old c r new = Answers (meaning_of program) (kept_for program old) c r (kept_for program new)

-- a command is not refused
abbrev pub Accepts : Program → NumberedHistory → Command → Type 0
Accepts program k c = refusal (meaning_of program) (kept_for program k) c ≡ None

-- the reply to a command that is not refused
abbrev pub reply_for : Program → NumberedHistory → Command → Reply
reply_for program k c = answered (meaning_of program) (kept_for program k) c

-- the history after it
abbrev pub changed_for : Program → NumberedHistory → Command → History
changed_for program k c = changed (meaning_of program) (kept_for program k) c

-- a version more, where the run with a number ended so that it makes one on this parent, and nothing else
abbrev pub Finishes : (run : ℕ) → (parent : VersionNo) → Ended → (old new : Since) → Type 0
Finishes run parent ended old new = (shape : List TypeShape) → since (opening shape) new ≡ with_version (since (opening shape) old) run parent ended

-- what is told of an outcome: all but its heap
pub record IsEnd (o : Outcome) (e : Told) : Type 0 where
  pub end : e.ended ≡ o.end
  pub printed : e.printed ≡ o.printed
  pub counts : e.counts ≡ o.counts

-- what is told of the end of a run of the history that is kept, under its grant
abbrev pub IsEndOfRun : Program → NumberedHistory → (number : ℕ) → Told → Type 0
IsEndOfRun program k n told = (r : Run) → run_at (kept_for program k) n ≡ Some r → IsEnd (outcome_of (meaning_of program) (kept_for program k) n r r.granted) told

-- whether a run of the history that is kept has ended under its grant
abbrev pub TellsProgress : Program → NumberedHistory → RunNo → Reply → Type 0
TellsProgress program k run reply =
    (r : Run) → run_at (kept_for program k) run.0 ≡ Some r → reply ≡ stepped run (outcome_of (meaning_of program) (kept_for program k) run.0 r r.granted).end

-- ---- paths

abbrev pub parent_number : Option Descent → ℕ
parent_number None = 0
parent_number (Some v) = v.parent.0

-- the number of the parent of a version
abbrev pub parent_in : List Descent → ℕ → ℕ
parent_in versions zero = 0
parent_in versions (suc i) = parent_number (slice_get versions i)

-- the versions from one down to another, without the other, each followed by its parent
abbrev pub IsPath : List Descent → (from to : ℕ) → List ℕ → Type 0
IsPath versions from to [] = to ≡ from
IsPath versions from to (v ∷ path) = (v ≡ to) × (0 < v) × (v ≤ length versions) × IsPath versions from (parent_in versions v) path

-- the last version of a path that ends with this one
pub record IsFirst (versions : List Descent) (from to : ℕ) (path : List ℕ) (v : ℕ) : Type 0 where
  pub parent : parent_in versions v ≡ from
  pub above : 0 < v
  pub there : v ≤ length versions
  pub rest : IsPath versions v to path
