-- The history of a script: what each command makes of it, and what it is answered.
-- The versions form a tree, as those of a fully persistent structure do (Driscoll, Sarnak, Sleator and Tarjan): each is made by
-- one run on the heap of its parent, and any version may be worked on again. No heap is kept but those of the opening: each
-- further one follows from the runs.
use Rattle.std.specs.Prelude.{◌≡◌, ℕ, ◌+◌, List, [], ◌∷◌, ◌++◌, length, map, Option, Some, None, Bool, true, false, not, ℤ, zero, suc, slice_get, slice_set, slice_index_or, min, count_by, nat_lt, nat_le, All}
use Rattle.pst_base.specs.declared.names.RunNo.{RunNo}
use Rattle.pst_base.specs.declared.names.VersionNo.{VersionNo}
use Rattle.pst_base.specs.declared.names.Kind.{Kind}
use Rattle.pst_base.specs.declared.names.Counts.{Counts}
use Rattle.std.specs.Option.{option_and_then}
use Rattle.pst_base.specs.declared.shape.TypeShape.{TypeShape}
use Rattle.pst_base.specs.Heap.{Heap, initial_heap}
use Rattle.pst_program.specs.declared.meaning.Ended.{Ended}
use Rattle.pst_program.specs.declared.meaning.Ended.TheVariants.{Stopped, Done, Trapped}
use Rattle.pst_script.specs.declared.command.Call.{Call}
use Rattle.pst_script.specs.declared.command.Command.{Command}
use Rattle.pst_script.specs.declared.command.Command.TheVariants as command
use Rattle.pst_script.specs.Commands.{in_range}
use Rattle.pst_script.specs.declared.reply.Reply.{Reply}
use Rattle.pst_script.specs.declared.reply.Reply.TheVariants as answer
use Rattle.pst_script.specs.declared.reply.Refusal.{Refusal}
use Rattle.pst_script.specs.declared.reply.Refusal.TheVariants as because
use Rattle.pst_history.specs.declared.history.RunState.{RunState}
use Rattle.pst_history.specs.declared.history.RunState.TheVariants.{Open, Closed, Dropped}
use Rattle.pst_history.specs.declared.history.Run.{Run}
use Rattle.pst_history.specs.declared.history.Descent.{Descent}
use Rattle.pst_history.specs.declared.history.NamedCall.{NamedCall}
use Rattle.pst_history.specs.declared.history.Since.{Since}
use Rattle.pst_program.specs.Outcome.{Outcome, no_counts}
use Rattle.pst_base.specs.Counts.{counts_plus}
use Rattle.pst_history.specs.Meaning.{Meaning, Work, when, kinds_refusal}
use Rattle.pst_history.specs.declared.history.TheConstants.{BUDGET, RUNS, OPEN_RUNS, CALLS}

-- ---- openings

-- What a script begins with: the versions after 0, the heaps of all versions from 0, the next run number, the budget that
-- stands, and what was counted.
pub record Opening : Type 0 where
  pub versions : List Descent
  pub heaps : List Heap
  pub next_run : ℕ
  pub budget : ℕ
  pub counts : Counts

-- that of `run` and `replay`: version 0 alone with the root record, which is counted
abbrev pub opening : (shape : List TypeShape) → Opening
opening shape = record { versions = []; heaps = initial_heap shape ∷ []; next_run = 1; budget = BUDGET; counts = record { records = 1; pointer_writes = 0; value_writes = 0 } }

-- an opening, with the budget that stands and the runs and versions since
pub record History : Type 0 where
  pub start : Opening
  pub budget : ℕ
  pub runs : List Run
  pub versions : List Descent

-- the history before the first command
abbrev pub begun : Opening → History
begun o = record { start = o; budget = o.budget; runs = []; versions = [] }

-- what has happened since an opening, as a history
abbrev pub since : Opening → Since → History
since o s = record { start = o; budget = s.budget; runs = s.runs; versions = s.versions }

-- ---- numbered lists

-- the index of a number, where the numbers begin with this one
abbrev pub index_from : (first : ℕ) → ℕ → Option ℕ
index_from zero n = Some n
index_from (suc first) zero = None
index_from (suc first) (suc n) = index_from first n

-- what has a number in a list, where the numbers begin with this one
abbrev pub numbered : {A : Type 0} → (first : ℕ) → List A → ℕ → Option A
numbered first xs n = option_and_then (slice_get xs) (index_from first n)

-- ---- runs

abbrev pub run_at : History → ℕ → Option Run
run_at h n = numbered h.start.next_run h.runs n

abbrev pub next_run : History → ℕ
next_run h = h.start.next_run + length h.runs

-- only an open run may be granted more
abbrev pub is_open_state : RunState → Bool
is_open_state Open = true
is_open_state Closed = false
is_open_state Dropped = false

abbrev pub is_open : Run → Bool
is_open r = is_open_state r.state

abbrev pub is_open_run : Option Run → Bool
is_open_run None = false
is_open_run (Some r) = is_open r

-- what a run with this number executes
abbrev pub work_of : ℕ → Run → Work
work_of n r = record { run = record { 0 = n }; calls = r.calls; budget = r.budget }

-- ---- the heap of a version

-- what a run makes of a heap with its whole budget
abbrev pub made_by : Meaning → ℕ → Option Run → Heap → Heap
made_by m n None heap = heap
made_by m n (Some r) heap = (m.outcome (work_of n r) r.budget heap).heap

-- the heap of one more version, from those of the versions before
abbrev pub made : Meaning → (first : ℕ) → List Run → List Heap → Descent → Heap
made m first runs heaps v = made_by m v.run.0 (numbered first runs v.run.0) (slice_index_or heaps v.parent.0 (initial_heap m.shape))

abbrev pub heaps_from : Meaning → (first : ℕ) → List Run → List Heap → List Descent → List Heap
heaps_from m first runs heaps [] = heaps
heaps_from m first runs heaps (v ∷ versions) = heaps_from m first runs (heaps ++ made m first runs heaps v ∷ []) versions

-- the heaps of all versions, from 0: those of the opening are given
unfoldable pub heaps_of : Meaning → History → List Heap
heaps_of m h = heaps_from m h.start.next_run h.runs h.start.heaps h.versions

-- how many versions there are, version 0 among them
abbrev pub version_count : History → ℕ
version_count h = length h.start.heaps + length h.versions

-- the heap of a version (carried out by `pst_replay`, which replays the runs on its path)
abbrev pub heap_of : Meaning → History → ℕ → Heap
heap_of m h v = slice_index_or (heaps_of m h) v (initial_heap m.shape)

-- ---- what a run came to, and the counts

-- what a run comes to under a grant, on the heap of its parent
abbrev pub outcome_of : Meaning → History → ℕ → Run → ℕ → Outcome
outcome_of m h n r granted = m.outcome (work_of n r) granted (heap_of m h r.parent.0)

-- what runs counted together, the first of which has number n
abbrev pub total_counts : (ℕ → Run → Counts) → ℕ → List Run → Counts
total_counts f n [] = no_counts
total_counts f n (r ∷ runs) = counts_plus (f n r) (total_counts f (suc n) runs)

-- what a run counted under its grant
abbrev pub run_counts : Meaning → History → ℕ → Run → Counts
run_counts m h n r = (outcome_of m h n r r.granted).counts

-- what the opening counted, and all runs since
unfoldable pub counts_of : Meaning → History → Counts
counts_of m h = counts_plus h.start.counts (total_counts (run_counts m h) h.start.next_run h.runs)

-- ---- refusals

-- the first of two refusals that holds
abbrev pub first : Option Refusal → Option Refusal → Option Refusal
first None next = next
first (Some r) next = Some r

-- no version has the number
abbrev pub version_refusal : History → VersionNo → Option Refusal
version_refusal h version = when (nat_le (version_count h) version.0) because.Version

-- a procedure is called on a version: it has to be there, its parameters have to fit, and then the version has to be there
abbrev pub call_refusal : History → Option (List Kind) → Call → Option Refusal
call_refusal h kinds call = first (kinds_refusal kinds call.arguments) (version_refusal h call.version)

-- as many run numbers are taken as there are
abbrev pub runs_refusal : History → Option Refusal
runs_refusal h = when (nat_lt RUNS (next_run h)) because.Runs

-- as many runs are open as may be
abbrev pub open_refusal : History → Option Refusal
open_refusal h = when (nat_le OPEN_RUNS (count_by is_open h.runs)) because.RunsOpen

-- no open run has the number
abbrev pub run_refusal : History → RunNo → Option Refusal
run_refusal h run = when (not (is_open_run (run_at h run.0))) because.Run

-- the run has as many calls as may be
abbrev pub is_full_run : Option Run → Bool
is_full_run None = false
is_full_run (Some r) = nat_le CALLS (length r.calls)

abbrev pub calls_refusal : History → RunNo → Option Refusal
calls_refusal h run = when (is_full_run (run_at h run.0)) because.Calls

-- the first refusal of a command that holds, if one does
unfoldable pub refusal : Meaning → History → Command → Option Refusal
refusal m h (command.Run call) = first (call_refusal h (m.proc call.procedure) call) (runs_refusal h)
refusal m h (command.Query call) = call_refusal h (m.query call.procedure) call
refusal m h (command.OpenRun call) = first (call_refusal h (m.proc call.procedure) call) (first (runs_refusal h) (open_refusal h))
refusal m h (command.OpenEmpty version) = first (version_refusal h version) (first (runs_refusal h) (open_refusal h))
refusal m h (command.CallRun run procedure arguments) = first (kinds_refusal (m.proc procedure) arguments) (first (run_refusal h run) (calls_refusal h run))
refusal m h (command.StepRun run charges) = run_refusal h run
refusal m h (command.CloseRun run) = run_refusal h run
refusal m h (command.DropRun run) = run_refusal h run
refusal m h (command.Budget charges) = None
refusal m h command.Versions = None
refusal m h command.Stats = None

-- ---- the history after a command

-- the call of a procedure on a version, without the version
abbrev pub call_of : Call → NamedCall
call_of call = record { procedure = call.procedure; arguments = call.arguments }

-- an opened run: under the budget that stands, and without a charge
abbrev pub new_run : History → VersionNo → List NamedCall → Run
new_run h version calls = record { parent = version; calls = calls; budget = h.budget; granted = 0; state = Open }

abbrev pub opened : History → VersionNo → List NamedCall → History
opened h version calls = record h { runs = h.runs ++ new_run h version calls ∷ [] }

-- a list with another element at an index, if one is given
abbrev pub with_index : {A : Type 0} → List A → Option ℕ → A → List A
with_index xs None x = xs
with_index xs (Some i) x = slice_set xs i x

-- the runs with another one under a number, where the numbers begin with this one
abbrev pub with_numbered : (first : ℕ) → List Run → ℕ → Run → List Run
with_numbered first runs n r = with_index runs (index_from first n) r

-- a change of the run with a number
abbrev pub with_run : History → ℕ → (Run → Run) → Option Run → History
with_run h n f None = h
with_run h n f (Some r) = record h { runs = with_numbered h.start.next_run h.runs n (f r) }

-- more charges, but never more than the budget in all
abbrev pub granted_more : ℕ → Run → Run
granted_more charges r = record r { granted = min (r.granted + charges) r.budget }

-- one call more
abbrev pub called_more : NamedCall → Run → Run
called_more call r = record r { calls = r.calls ++ call ∷ [] }

-- carried to its end under the whole budget
abbrev pub closed_run : Run → Run
closed_run r = record r { granted = r.budget; state = Closed }

abbrev pub dropped_run : Run → Run
dropped_run r = record r { state = Dropped }

-- one version more, where the run is done
abbrev pub with_version : History → ℕ → VersionNo → Ended → History
with_version h n parent Stopped = h
with_version h n parent (Trapped trap) = h
with_version h n parent Done = record h { versions = h.versions ++ record { run = record { 0 = n }; parent = parent } ∷ [] }

-- how far a run comes with its whole budget
abbrev pub end_of : Meaning → History → ℕ → Option Run → Ended
end_of m h n None = Stopped
end_of m h n (Some r) = (outcome_of m h n r r.budget).end

abbrev pub parent_of : Option Run → VersionNo
parent_of None = record { 0 = 0 }
parent_of (Some r) = r.parent

-- an open run is carried to its end, and makes a version exactly where it is done
abbrev pub closed : Meaning → History → ℕ → History
closed m h n = with_version (with_run h n closed_run (run_at h n)) n (parent_of (run_at h n)) (end_of m h n (run_at h n))

-- a run line opens a run and closes it at once; a query, `versions` and `stats` change nothing
abbrev pub changed : Meaning → History → Command → History
changed m h (command.Run call) = closed m (opened h call.version (call_of call ∷ [])) (next_run h)
changed m h (command.Query call) = h
changed m h (command.OpenRun call) = opened h call.version (call_of call ∷ [])
changed m h (command.OpenEmpty version) = opened h version []
changed m h (command.CallRun run procedure arguments) = with_run h run.0 (called_more record { procedure = procedure; arguments = arguments }) (run_at h run.0)
changed m h (command.StepRun run charges) = with_run h run.0 (granted_more charges) (run_at h run.0)
changed m h (command.CloseRun run) = closed m h run.0
changed m h (command.DropRun run) = with_run h run.0 dropped_run (run_at h run.0)
changed m h (command.Budget charges) = record h { budget = charges }
changed m h command.Versions = h
changed m h command.Stats = h

abbrev pub unless : Option Refusal → History → History → History
unless None new old = new
unless (Some r) new old = old

-- a refused command changes nothing
-- (carried out by `pst_replay::Replayer::apply`)
unfoldable pub after : Meaning → History → Command → History
after m h c = unless (refusal m h c) (changed m h c) h

-- ---- the reply

-- the answer to a run that was carried to its end
abbrev pub ended : ℕ → List ℤ → Ended → Reply
ended version printed Done = answer.Version printed (record { 0 = version })
ended version printed (Trapped trap) = answer.Trapped printed trap
ended version printed Stopped = answer.Answer printed

abbrev pub ended_as : History → Outcome → Reply
ended_as h o = ended (version_count h) o.printed o.end

-- the answer to a query, which makes no version
abbrev pub queried : List ℤ → Ended → Reply
queried printed Done = answer.Answer printed
queried printed (Trapped trap) = answer.Trapped printed trap
queried printed Stopped = answer.Answer printed

abbrev pub queried_as : Outcome → Reply
queried_as o = queried o.printed o.end

-- a run is finished unless it would take another charge
abbrev pub stepped : RunNo → Ended → Reply
stepped run Stopped = answer.Running run
stepped run Done = answer.Finished run
stepped run (Trapped trap) = answer.Finished run

-- the answer to a run that is changed and executed as far as its grant reaches
abbrev pub step_reply : Meaning → History → RunNo → (Run → Run) → Option Run → Reply
step_reply m h run f None = answer.Refused because.Run
step_reply m h run f (Some r) = stepped run (outcome_of m h run.0 (f r) (f r).granted).end

abbrev pub close_reply : Meaning → History → RunNo → Option Run → Reply
close_reply m h run None = answer.Refused because.Run
close_reply m h run (Some r) = ended_as h (outcome_of m h run.0 r r.budget)

-- the answer to a command that is not refused; a query is given the next run number and does not take it
abbrev pub answered : Meaning → History → Command → Reply
answered m h (command.Run call) = ended_as h (outcome_of m h (next_run h) (new_run h call.version (call_of call ∷ [])) h.budget)
answered m h (command.Query call) = queried_as (outcome_of m h (next_run h) (new_run h call.version (call_of call ∷ [])) h.budget)
answered m h (command.OpenRun call) = answer.Opened (record { 0 = next_run h })
answered m h (command.OpenEmpty version) = answer.Opened (record { 0 = next_run h })
answered m h (command.CallRun run procedure arguments) = step_reply m h run (called_more record { procedure = procedure; arguments = arguments }) (run_at h run.0)
answered m h (command.StepRun run charges) = step_reply m h run (granted_more charges) (run_at h run.0)
answered m h (command.CloseRun run) = close_reply m h run (run_at h run.0)
answered m h (command.DropRun run) = answer.Dropped run
answered m h (command.Budget charges) = answer.BudgetSet charges
answered m h command.Versions = answer.VersionList (map (λ v. v.parent) (h.start.versions ++ h.versions))
answered m h command.Stats = answer.StatsAre (counts_of m h)

abbrev pub unless_refused : Option Refusal → Reply → Reply
unless_refused None r = r
unless_refused (Some why) r = answer.Refused why

-- the reply to a command
-- (carried out by `pst_replay::Replayer::apply`)
unfoldable pub reply : Meaning → History → Command → Reply
reply m h c = unless_refused (refusal m h c) (answered m h c)

-- ---- which histories there are

abbrev pub after_all : Meaning → History → List Command → History
after_all m h [] = h
after_all m h (c ∷ commands) = after_all m (after m h c) commands

-- a history of a program is what a list of commands, each with numbers that a line of a script can give, makes of an opening
pub record IsHistory (m : Meaning) (o : Opening) (h : History) : Type 0 where
  pub commands : List Command
  pub given : All (λ c. in_range c ≡ true) commands
  pub made : h ≡ after_all m (begun o) commands
