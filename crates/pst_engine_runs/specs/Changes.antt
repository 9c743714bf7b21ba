-- What a slice of an open run and a query need and do.
-- Letters: code is code with a meaning, h a history, s the state of the heap before and t after, r a reply.
use Rattle.std.specs.Prelude.{◌≡◌, ℕ, ℤ, List, [], ◌∷◌}
use Rattle.pst_base.specs.declared.names.RunNo.{RunNo}
use Rattle.pst_script.specs.declared.command.Call.{Call}
use Rattle.pst_script.specs.declared.reply.Reply.{Reply}
use Rattle.pst_versions.specs.State.{State}
use Rattle.pst_history.specs.declared.history.NamedCall.{NamedCall}
use Rattle.pst_history.specs.declared.history.Run.{Run}
use Rattle.pst_history.specs.History.{History, call_of, called_more, new_run, next_run, outcome_of, queried_as, run_at, step_reply, with_run}
use Rattle.pst_history.specs.Accepted.{IsAccepted}
use Rattle.pst_engine_runs.specs.declared.entry.OpenEntry.{OpenEntry}
use Rattle.pst_engine_runs.specs.Coded.{MeantCode}
use Rattle.pst_engine_runs.specs.Runs.{named}
use Rattle.pst_engine_runs.specs.Stands.{MayCall, RunsStand}

-- ---- a slice of a run

-- they stand for the history with the run changed, and the answer is that of its slice
pub record IsMoved {H P R : Type 0} (code : MeantCode) (run : RunNo) (change : Run → Run) (r : Reply) (active : List (OpenEntry H R P)) (t : State P R) (budget next : ℕ) (h : History) : Type 0 where
  pub stands : RunsStand code active budget next t (with_run h run.0 change (run_at h run.0))
  pub reply : r ≡ step_reply code.meaning h run change (run_at h run.0)

-- so for every history for which they stood
abbrev pub Steps : {H P R : Type 0} → MeantCode → (old : List (OpenEntry H R P)) → State P R → RunNo → (Run → Run) → (new : List (OpenEntry H R P)) → (t : State P R) → Reply → Type 0
Steps code old s run change new t r =
    (budget next : ℕ) (h : History) → RunsStand code old budget next s h → IsMoved code run change r new t budget next h

-- they stand for a history in which a run can be given this call
pub record MayCallSome {H P R : Type 0} (code : MeantCode) (active : List (OpenEntry H R P)) (s : State P R) (run : RunNo) (call : NamedCall) : Type 0 where
  pub budget : ℕ
  pub next : ℕ
  pub history : History
  pub stands : RunsStand code active budget next s history
  pub may : MayCall code.meaning history run.0 call

-- so for every history for which they stood and in which the run can be given the call
abbrev pub Calls : {H P R : Type 0} → MeantCode → (old : List (OpenEntry H R P)) → State P R → RunNo → (procedure : List ℕ) → (arguments : List ℤ) → (new : List (OpenEntry H R P)) → (t : State P R) → Reply → Type 0
Calls code old s run procedure arguments new t r =
    (budget next : ℕ) (h : History) → RunsStand code old budget next s h → MayCall code.meaning h run.0 (named procedure arguments)
    → IsMoved code run (called_more (named procedure arguments)) r new t budget next h

-- ---- a query

-- they stand, with some open runs, for a history that lets a query be asked
pub record MayAskSome {P R : Type 0} (H : Type 0) (code : MeantCode) (budget next : ℕ) (s : State P R) (call : Call) : Type 0 where
  pub active : List (OpenEntry H R P)
  pub history : History
  pub stands : RunsStand code active budget next s history
  pub accepted : IsAccepted history (code.meaning.query call.procedure) call

-- they stand for the same history as before, and the answer is that of the query's outcome
pub record IsAsked {H P R : Type 0} (code : MeantCode) (active : List (OpenEntry H R P)) (budget next : ℕ) (call : Call) (r : Reply) (t : State P R) (h : History) : Type 0 where
  pub stands : RunsStand code active budget next t h
  pub reply : r ≡ queried_as (outcome_of code.meaning h (next_run h) (new_run h call.version (call_of call ∷ [])) h.budget)

-- so for every history for which they stood and that lets the query be asked
abbrev pub Asks : {P R : Type 0} → (H : Type 0) → MeantCode → (budget next : ℕ) → (s : State P R) → Call → Reply → (t : State P R) → Type 0
Asks {P} {R} H code budget next s call r t =
    (active : List (OpenEntry H R P)) (h : History) → RunsStand code active budget next s h → IsAccepted h (code.meaning.query call.procedure) call
    → IsAsked code active budget next call r t h
