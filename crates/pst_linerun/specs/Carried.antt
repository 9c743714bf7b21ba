-- What the calls behind the commands need and do.
-- Letters: m is the meaning of a program, h a history, s the state of the store before and t after, w the work.
use Rattle.std.specs.Prelude.{◌≡◌, ◌⊎◌, ℕ, ◌+◌, List, [], ◌∷◌, length, ℤ, IsTrue, true, None, Option, nat_eq, not, Some}
use Rattle.pst_base.specs.Counts.{counts_plus}
use Rattle.pst_base.specs.declared.names.NodeId.{NodeId}
use Rattle.pst_base.specs.declared.names.RunNo.{RunNo}
use Rattle.pst_base.specs.declared.names.VersionNo.{VersionNo}
use Rattle.pst_program.specs.declared.meaning.Ended.{Ended}
use Rattle.pst_program.specs.declared.meaning.Ended.TheVariants.{Done, Trapped, Stopped}
use Rattle.pst_script.specs.Commands.{in_range}
use Rattle.pst_script.specs.declared.command.Call.{Call}
use Rattle.pst_script.specs.declared.command.Command.{Command}
use Rattle.pst_script.specs.declared.command.Command.TheVariants as command
use Rattle.pst_script.specs.declared.reply.Reply.{Reply}
use Rattle.pst_script.specs.declared.reply.Reply.TheVariants as answer
use Rattle.pst_script.specs.declared.reply.Refusal.{Refusal}
use Rattle.pst_script.specs.declared.reply.Refusal.TheVariants as because
use Rattle.pst_versions.specs.State.{State}
use Rattle.pst_machine.specs.Advance.{HasFewCounts}
use Rattle.pst_history.specs.declared.history.NamedCall.{NamedCall}
use Rattle.pst_history.specs.Meaning.{Meaning, Work, CanBeDone, fits_one, when, kinds_refusal}
use Rattle.pst_history.specs.History.{History, changed, first}
use Rattle.pst_engine_runs.specs.Runs.{IsFreeFor}
use Rattle.pst_engine_runs.specs.Refused.{call_by, runs_by}
use Rattle.pst_engine_runs.specs.Stands.{HoldsVersions}
use Rattle.pst_line.specs.declared.place.LinePlace.{LinePlace}
use Rattle.pst_line.specs.Store.{Stored, LinePublished, Undone}
use Rattle.pst_linerun.specs.declared.session.LineSession.{LineSession}
use Rattle.pst_linerun.specs.Linear.{line_refusal, line_answered, line_reply, line_after}
use Rattle.pst_linerun.specs.Standing.{LineStands, SessionStands}

-- ---- why a command is refused, by what a session and a store hold

abbrev pub old_by : {P R : Type 0} → State P R → VersionNo → Option Refusal
old_by s version = when (not (nat_eq (version.0 + 1) (length s.versions))) because.Old

abbrev pub line_refusal_by : {P R : Type 0} → Meaning → State P R → (next : ℕ) → Command → Option Refusal
line_refusal_by m s next (command.Run call) = first (call_by s (kinds_refusal (m.proc call.procedure) call.arguments) call.version) (first (old_by s call.version) (runs_by next))
line_refusal_by m s next (command.Query call) = call_by s (kinds_refusal (m.query call.procedure) call.arguments) call.version
line_refusal_by m s next (command.OpenRun call) = Some because.Line
line_refusal_by m s next (command.OpenEmpty version) = Some because.Line
line_refusal_by m s next (command.CallRun run procedure arguments) = Some because.Line
line_refusal_by m s next (command.StepRun run charges) = Some because.Line
line_refusal_by m s next (command.CloseRun run) = Some because.Line
line_refusal_by m s next (command.DropRun run) = Some because.Line
line_refusal_by m s next (command.Budget charges) = None
line_refusal_by m s next command.Versions = None
line_refusal_by m s next command.Stats = None

-- ---- one call at a place, with the whole budget

abbrev pub one_call : RunNo → (budget : ℕ) → NamedCall → Work
one_call run budget call = record { run = run; calls = call ∷ []; budget = budget }

-- a call can be carried out at a place: no record has the run's number, and the call is a query's, or the place can be written
pub record MayCarryOut {P R : Type 0} (m : Meaning) (s : State P R) (at : P) (run : RunNo) (budget : ℕ) (call : NamedCall) : Type 0 where
  pub free : IsFreeFor m s at run
  pub ready : CanBeDone m (one_call run budget call) (s.heap at)
  pub writable : IsTrue (fits_one (m.query call.procedure) call.arguments) ⊎ s.writable at
  pub few : HasFewCounts s

-- it came to the outcome of its work
pub record CameTo {P R : Type 0} (m : Meaning) (s : State P R) (at : P) (w : Work) (printed : List ℤ) (end : Ended) (t : State P R) : Type 0 where
  pub heap : t.heap at ≡ (m.outcome w w.budget (s.heap at)).heap
  pub printed_is : printed ≡ (m.outcome w w.budget (s.heap at)).printed
  pub end_is : end ≡ (m.outcome w w.budget (s.heap at)).end
  pub counts : t.counts ≡ counts_plus s.counts (m.outcome w w.budget (s.heap at)).counts

-- ---- the end of a run

-- The open run is the next version where it is done, and is undone where it has trapped.
abbrev pub Settled : (s : State LinePlace NodeId) → RunNo → (printed : List ℤ) → Ended → Reply → (t : State LinePlace NodeId) → Type 0
Settled s run printed Done r t = (v : VersionNo) × LinePublished s t run v × (r ≡ answer.Version printed v)
Settled s run printed (Trapped trap) r t = Undone s t × (r ≡ answer.Trapped printed trap)
Settled s run printed Stopped r t = Undone s t × (r ≡ answer.Answer printed)

-- ---- what a session answers

-- they stand for a history that does not refuse the command
pub record MayCarry (m : Meaning) (budget next : ℕ) (s : State LinePlace NodeId) (stored : Stored) (line : Command) : Type 0 where
  pub history : History
  pub stands : LineStands m budget next s stored history
  pub accepted : line_refusal m history line ≡ None

-- the answer to a command is that of the history, and they stand for the history after it, if a line can give it
pub record IsCarried (m : Meaning) (line : Command) (r : Reply) (budget next : ℕ) (t : State LinePlace NodeId) (stored : Stored) (h : History) : Type 0 where
  pub stands : in_range line ≡ true → LineStands m budget next t stored (changed m h line)
  pub reply : r ≡ line_answered m h line

-- so for every history for which they stood and that does not refuse the command; the budget and the next run number after it come last
abbrev pub Carries : Meaning → (budget next : ℕ) → (s : State LinePlace NodeId) → Stored → Command → Reply → (t : State LinePlace NodeId) → Stored → (budget_after next_after : ℕ) → Type 0
Carries m budget next s stored line r t stored_t budget_after next_after =
    (h : History) → LineStands m budget next s stored h → line_refusal m h line ≡ None → IsCarried m line r budget_after next_after t stored_t h

-- So of a run, which takes the next run number. Here and below state and stored say what a store holds, the store after the command
-- is that with a dash, and the reply comes last.
abbrev pub CarriesRun : {S : Type 0} → (S → State LinePlace NodeId) → (S → Stored) → Meaning → (budget number : ℕ) → (store : S) → Call → (store_after : S) → Reply → Type 0
CarriesRun state stored m budget number store call store' r =
    Carries m budget number (state store) (stored store) (command.Run call) r (state store') (stored store') budget (number + 1)

-- so of a query, which does not
abbrev pub CarriesQuery : {S : Type 0} → (S → State LinePlace NodeId) → (S → Stored) → Meaning → (budget number : ℕ) → (store : S) → Call → (store_after : S) → Reply → Type 0
CarriesQuery state stored m budget number store call store' r =
    Carries m budget number (state store) (stored store) (command.Query call) r (state store') (stored store') budget number

-- so of the session with this budget and next run number
abbrev pub SessionCarries : {S : Type 0} → (S → State LinePlace NodeId) → (S → Stored) → Meaning → (old : LineSession) → (store : S) → Command → (new : LineSession) → (store_after : S) → Reply → Type 0
SessionCarries state stored m old store line new store' r =
    Carries m old.budget old.next_run.0 (state store) (stored store) line r (state store') (stored store') new.budget new.next_run.0

-- the answer to a command is the reply, and session and store stand for the history after it, if a line can give it
pub record IsAnswered (m : Meaning) (line : Command) (r : Reply) (new : LineSession) (t : State LinePlace NodeId) (stored : Stored) (h : History) : Type 0 where
  pub stands : in_range line ≡ true → SessionStands m new t stored (line_after m h line)
  pub reply : r ≡ line_reply m h line

-- so for every history for which they stood
abbrev pub Answers : {S : Type 0} → (S → State LinePlace NodeId) → (S → Stored) → Meaning → (old : LineSession) → (store : S) → Command → (new : LineSession) → (store_after : S) → Reply → Type 0
Answers state stored m old store line new store' r =
    (h : History) → SessionStands m old (state store) (stored store) h → IsAnswered m line r new (state store') (stored store') h

-- after want of memory the store's versions are those of every history for which they stood
abbrev pub Wants : Meaning → (old : LineSession) → (s : State LinePlace NodeId) → Stored → (t : State LinePlace NodeId) → Type 0
Wants m old s stored t = (h : History) → SessionStands m old s stored h → HoldsVersions m t h

-- they stand for some history
pub record MayApply (m : Meaning) (session : LineSession) (s : State LinePlace NodeId) (stored : Stored) : Type 0 where
  pub history : History
  pub stands : SessionStands m session s stored history
