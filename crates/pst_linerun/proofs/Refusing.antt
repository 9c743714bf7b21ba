-- The refusal by what a session and a store hold is that of the history.
use Rattle.std.proofs.Common.{◌≡◌, ℕ, refl, ap, sym, ◌∙◌, Some, None}
use Rattle.std.specs.Prelude.{nat_eq, nat_le, nat_lt, not, ◌+◌}
use Rattle.pst_base.specs.declared.names.NodeId.{NodeId}
use Rattle.pst_versions.specs.State.{State}
use Rattle.pst_script.specs.declared.command.Call.{Call}
use Rattle.pst_script.specs.declared.command.Command.{Command}
use Rattle.pst_script.specs.declared.command.Command.TheVariants as command
use Rattle.pst_script.specs.declared.reply.Refusal.{Refusal}
use Rattle.pst_script.specs.declared.reply.Refusal.TheVariants as because
use Rattle.pst_script.specs.declared.reply.Reply.{Reply}
use Rattle.pst_script.specs.declared.reply.Reply.TheVariants as answer
use Rattle.pst_history.specs.Meaning.{Meaning, when, kinds_refusal}
use Rattle.pst_history.specs.History.{History, refusal, call_refusal, runs_refusal, first, unless, unless_refused, changed}
use Rattle.pst_history.proofs.Refusals.{first-none}
use Rattle.pst_line.specs.declared.place.LinePlace.{LinePlace}
use Rattle.pst_line.specs.Store.{Stored}
use Rattle.pst_engine_runs.specs.Refused.{runs_by}
use Rattle.pst_linerun.specs.Linear.{old_refusal, line_refusal, line_answered, line_reply, line_after}
use Rattle.pst_linerun.specs.Standing.{LineStands}
use Rattle.pst_linerun.specs.Carried.{line_refusal_by}
use Rattle.pst_history.specs.declared.history.TheConstants.{RUNS}

pub told : (m : Meaning) (budget next : ℕ) (s : State LinePlace NodeId) (stored : Stored) (h : History) → LineStands m budget next s stored h
    → (c : Command) → line_refusal_by m s next c ≡ line_refusal m h c
told m budget next s stored h stand (command.Run call) =
    let kinds = kinds_refusal (m.proc call.procedure) call.arguments in
    ap (λ n. first (first kinds (when (nat_le n call.version.0) because.Version)) (first (when (not (nat_eq (call.version.0 + 1) n)) because.Old) (runs_by next))) stand.versions.many
    ∙ ap (λ n. first (call_refusal h (m.proc call.procedure) call) (first (old_refusal h call.version) (when (nat_lt RUNS n) because.Runs))) stand.same_next
told m budget next s stored h stand (command.Query call) = ap (λ n. first (kinds_refusal (m.query call.procedure) call.arguments) (when (nat_le n call.version.0) because.Version)) stand.versions.many
told m budget next s stored h stand (command.OpenRun call) = refl
told m budget next s stored h stand (command.OpenEmpty version) = refl
told m budget next s stored h stand (command.CallRun run procedure arguments) = refl
told m budget next s stored h stand (command.StepRun run charges) = refl
told m budget next s stored h stand (command.CloseRun run) = refl
told m budget next s stored h stand (command.DropRun run) = refl
told m budget next s stored h stand (command.Budget charges) = refl
told m budget next s stored h stand command.Versions = refl
told m budget next s stored h stand command.Stats = refl

-- a run that is not refused in a linear history is refused in none
pub run-accepted : (m : Meaning) (h : History) (call : Call) → line_refusal m h (command.Run call) ≡ None → refusal m h (command.Run call) ≡ None
unfolding refusal
run-accepted m h call e =
    let both = first-none (call_refusal h (m.proc call.procedure) call) (first (old_refusal h call.version) (runs_refusal h)) e in
    let more = first-none (old_refusal h call.version) (runs_refusal h) both.1 in
    ap (λ o. first o (runs_refusal h)) both.0 ∙ more.1

pub query-accepted : (m : Meaning) (h : History) (call : Call) → line_refusal m h (command.Query call) ≡ None → refusal m h (command.Query call) ≡ None
unfolding refusal
query-accepted m h call e = e

-- so it is on the newest version
pub run-newest : (m : Meaning) (h : History) (call : Call) → line_refusal m h (command.Run call) ≡ None → old_refusal h call.version ≡ None
run-newest m h call e =
    let both = first-none (call_refusal h (m.proc call.procedure) call) (first (old_refusal h call.version) (runs_refusal h)) e in
    (first-none (old_refusal h call.version) (runs_refusal h) both.1).0

-- ---- the history after, and the reply

pub carried-after : (m : Meaning) (h : History) (line : Command) → line_refusal m h line ≡ None → changed m h line ≡ line_after m h line
carried-after m h line none = ap (λ o. unless o (changed m h line) h) (sym none)

pub carried-reply : (m : Meaning) (h : History) (line : Command) (r : Reply) → line_refusal m h line ≡ None → r ≡ line_answered m h line → r ≡ line_reply m h line
carried-reply m h line r none is = is ∙ ap (λ o. unless_refused o (line_answered m h line)) (sym none)

pub refused-reply : (m : Meaning) (h : History) (line : Command) (why : Refusal) → line_refusal m h line ≡ Some why → answer.Refused why ≡ line_reply m h line
refused-reply m h line why e = ap (λ o. unless_refused o (line_answered m h line)) (sym e)
