-- What an open run more and the end of one need and do.
-- Letters: code is code with a meaning, h a history, s the state of the heap before and t after, r a reply.
use Rattle.std.specs.Prelude.{◌≡◌, ℕ, ◌+◌, List, [], ◌∷◌}
use Rattle.pst_base.specs.declared.names.RunNo.{RunNo}
use Rattle.pst_base.specs.declared.names.VersionNo.{VersionNo}
use Rattle.pst_script.specs.declared.command.Call.{Call}
use Rattle.pst_script.specs.declared.reply.Reply.{Reply}
use Rattle.pst_versions.specs.State.{State}
use Rattle.pst_history.specs.declared.history.NamedCall.{NamedCall}
use Rattle.pst_history.specs.History.{History, call_of, closed, close_reply, opened, run_at}
use Rattle.pst_history.specs.Accepted.{MayOpen}
use Rattle.pst_engine_runs.specs.declared.entry.OpenEntry.{OpenEntry}
use Rattle.pst_engine_runs.specs.Coded.{MeantCode}
use Rattle.pst_engine_runs.specs.Stands.{RunsStand}

-- ---- a run more

-- they stand for a history in which a run can be opened with these calls
pub record MayOpenSome {H P R : Type 0} (code : MeantCode) (active : List (OpenEntry H R P)) (budget next : ℕ) (s : State P R) (version : VersionNo) (calls : List NamedCall) : Type 0 where
  pub history : History
  pub stands : RunsStand code active budget next s history
  pub may : MayOpen code.meaning history version calls

-- each such history has the run more, and they stand for it
abbrev pub Opens : {H P R : Type 0} → MeantCode → (old : List (OpenEntry H R P)) → (budget next : ℕ) → State P R → VersionNo → List NamedCall → (new : List (OpenEntry H R P)) → (t : State P R) → Type 0
Opens code old budget next s version calls new t =
    (h : History) → RunsStand code old budget next s h → MayOpen code.meaning h version calls
    → RunsStand code new budget (next + 1) t (opened h version calls)

-- so with one call, of the version that it names
abbrev pub OpensWith : {H P R : Type 0} → MeantCode → (old : List (OpenEntry H R P)) → (budget next : ℕ) → State P R → (first : Call) → (new : List (OpenEntry H R P)) → (t : State P R) → Type 0
OpensWith code old budget next s first new t = Opens code old budget next s first.version (call_of first ∷ []) new t

-- ---- the end of a run

-- they stand for the history with the run closed, and the answer is that of its end
pub record IsClosed {H P R : Type 0} (code : MeantCode) (run : RunNo) (r : Reply) (active : List (OpenEntry H R P)) (t : State P R) (budget next : ℕ) (h : History) : Type 0 where
  pub stands : RunsStand code active budget next t (closed code.meaning h run.0)
  pub reply : r ≡ close_reply code.meaning h run (run_at h run.0)

-- so for every history for which they stood
abbrev pub Closes : {H P R : Type 0} → MeantCode → (old : List (OpenEntry H R P)) → State P R → RunNo → Reply → (new : List (OpenEntry H R P)) → (t : State P R) → Type 0
Closes code old s run r new t =
    (budget next : ℕ) (h : History) → RunsStand code old budget next s h → IsClosed code run r new t budget next h
