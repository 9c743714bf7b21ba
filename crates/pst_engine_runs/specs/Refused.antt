-- Why a command is refused, by what open runs and a heap hold.
use Rattle.std.specs.Prelude.{ℕ, List, length, Option, Some, None, Bool, nat_eq, nat_lt, nat_le, slice_get, position}
use Rattle.std.specs.Option.{option_and_then}
use Rattle.pst_base.specs.declared.names.RunNo.{RunNo}
use Rattle.pst_base.specs.declared.names.VersionNo.{VersionNo}
use Rattle.pst_versions.specs.State.{State}
use Rattle.pst_script.specs.declared.command.Command.{Command}
use Rattle.pst_script.specs.declared.command.Command.TheVariants as command
use Rattle.pst_script.specs.declared.reply.Refusal.{Refusal}
use Rattle.pst_script.specs.declared.reply.Refusal.TheVariants as because
use Rattle.pst_history.specs.Meaning.{Meaning, when, kinds_refusal}
use Rattle.pst_history.specs.History.{first}
use Rattle.pst_engine_runs.specs.declared.entry.OpenEntry.{OpenEntry}
use Rattle.pst_history.specs.declared.history.TheConstants.{RUNS, OPEN_RUNS, CALLS}

-- whether an entry is that of a run
abbrev pub is_run : {H P R : Type 0} → RunNo → OpenEntry H R P → Bool
is_run run e = nat_eq e.run.0 run.0

-- the entry of a run
abbrev pub entry_of : {H P R : Type 0} → List (OpenEntry H R P) → RunNo → Option (OpenEntry H R P)
entry_of active run = option_and_then (slice_get active) (position (is_run run) active)

abbrev pub version_by : {P R : Type 0} → State P R → VersionNo → Option Refusal
version_by s version = when (nat_le (length s.versions) version.0) because.Version

abbrev pub call_by : {P R : Type 0} → State P R → Option Refusal → VersionNo → Option Refusal
call_by s procedure version = first procedure (version_by s version)

abbrev pub runs_by : (next : ℕ) → Option Refusal
runs_by next = when (nat_lt RUNS next) because.Runs

abbrev pub open_by : {H P R : Type 0} → List (OpenEntry H R P) → Option Refusal
open_by active = when (nat_le OPEN_RUNS (length active)) because.RunsOpen

abbrev pub run_by : {H P R : Type 0} → Option (OpenEntry H R P) → Option Refusal
run_by None = Some because.Run
run_by (Some e) = None

-- a run that is to have one call more
abbrev pub calls_by : {H P R : Type 0} → Option (OpenEntry H R P) → Option Refusal
calls_by None = Some because.Run
calls_by (Some e) = when (nat_le CALLS e.calls) because.Calls

abbrev pub refusal_by : {H P R : Type 0} → Meaning → State P R → List (OpenEntry H R P) → (next : ℕ) → Command → Option Refusal
refusal_by m s active next (command.Run call) = first (call_by s (kinds_refusal (m.proc call.procedure) call.arguments) call.version) (runs_by next)
refusal_by m s active next (command.Query call) = call_by s (kinds_refusal (m.query call.procedure) call.arguments) call.version
refusal_by m s active next (command.OpenRun call) = first (call_by s (kinds_refusal (m.proc call.procedure) call.arguments) call.version) (first (runs_by next) (open_by active))
refusal_by m s active next (command.OpenEmpty version) = first (version_by s version) (first (runs_by next) (open_by active))
refusal_by m s active next (command.CallRun run procedure arguments) = first (kinds_refusal (m.proc procedure) arguments) (calls_by (entry_of active run))
refusal_by m s active next (command.StepRun run charges) = run_by (entry_of active run)
refusal_by m s active next (command.CloseRun run) = run_by (entry_of active run)
refusal_by m s active next (command.DropRun run) = run_by (entry_of active run)
refusal_by m s active next (command.Budget charges) = None
refusal_by m s active next command.Versions = None
refusal_by m s active next command.Stats = None
