-- How many runs are open after a command.
use Rattle.std.proofs.Common.{◌≡◌, ℕ, ◌+◌, ◌≤◌, [], ◌∷◌, refl, ap, sym, arith, None, true}
use Rattle.pst_script.specs.declared.command.Command.{Command}
use Rattle.pst_script.specs.declared.command.Command.TheVariants as command
use Rattle.pst_history.specs.Meaning.{Meaning, kinds_refusal}
use Rattle.pst_history.specs.History.{History, refusal, first, run_refusal, calls_refusal, run_at, next_run, opened, new_run, call_of, called_more}
use Rattle.pst_history.specs.History.{granted_more, dropped_run, closed, with_run, changed, is_open}
use Rattle.pst_history.proofs.Sums.{unit_of}
use Rattle.pst_history.proofs.Refusals.{first-none, accepted_run, IsOpenRun}
use Rattle.pst_history.proofs.After.{run_at-new}
use Rattle.pst_history.proofs.Apart.{open_count, open_count-opened, open_count-closed, open_count-with_run}
use Rattle.pst_history.specs.declared.history.Run.{Run}
use Rattle.pst_history.specs.Sound.{IsSoundHistory}
use Rattle.pst_replay.specs.Replay.{open_after}
use Rattle.pst_history.specs.declared.history.TheConstants.{RUNS}

-- a change of an open run that leaves it open
still : (h : History) (n : ℕ) (f : Run → Run) (o : IsOpenRun h n) → is_open (f o.run) ≡ true → open_count h ≡ open_count (with_run h n f (run_at h n))
still h n f o t =
    let all : open_count (with_run h n f (run_at h n)) + 1 ≡ open_count h + unit_of (is_open (f o.run)) = open_count-with_run h n f o in
    let one : unit_of (is_open (f o.run)) ≡ 1 = ap unit_of t in
    omega arith

pub counted-after : (m : Meaning) (h : History) (c : Command) → refusal m h c ≡ None → open_after (open_count h) c ≡ open_count (changed m h c)
unfolding refusal
counted-after m h (command.Run call) e =
    let new = opened h call.version (call_of call ∷ []) in
    let one : open_count new ≡ open_count h + 1 = open_count-opened h call.version (call_of call ∷ []) in
    let two : open_count (closed m new (next_run h)) + 1 ≡ open_count new =
    open_count-closed m new (next_run h) (new_run h call.version (call_of call ∷ [])) (run_at-new h call.version (call_of call ∷ [])) refl in
    omega arith
counted-after m h (command.Query call) e = refl
counted-after m h (command.OpenRun call) e = sym (open_count-opened h call.version (call_of call ∷ []))
counted-after m h (command.OpenEmpty version) e = sym (open_count-opened h version [])
counted-after m h (command.CallRun run procedure arguments) e =
    let both = first-none (kinds_refusal (m.proc procedure) arguments) (first (run_refusal h run) (calls_refusal h run)) e in
    let o = accepted_run h run (first-none (run_refusal h run) (calls_refusal h run) both.1).0 in
    still h run.0 (called_more record { procedure = procedure; arguments = arguments }) o o.is_so
counted-after m h (command.StepRun run charges) e = let o = accepted_run h run e in still h run.0 (granted_more charges) o o.is_so
counted-after m h (command.CloseRun run) e =
    let o = accepted_run h run e in
    let all : open_count (closed m h run.0) + 1 ≡ open_count h = open_count-closed m h run.0 o.run o.found o.is_so in
    omega arith
counted-after m h (command.DropRun run) e =
    let o = accepted_run h run e in
    let all : open_count (with_run h run.0 dropped_run (run_at h run.0)) + 1 ≡ open_count h + 0 = open_count-with_run h run.0 dropped_run o in
    omega arith
counted-after m h (command.Budget charges) e = refl
counted-after m h command.Versions e = refl
counted-after m h command.Stats e = refl

-- there are no more open runs than run numbers
pub few-open_runs : (m : Meaning) (h : History) (open_runs : ℕ) → IsSoundHistory m h → open_runs ≡ open_count h → open_runs ≤ RUNS + 1
few-open_runs m h open_runs sound e =
    let few = sound.few in
    let versions = sound.few_versions in
    omega arith
