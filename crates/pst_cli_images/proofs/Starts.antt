-- A script keeps the opening with which its history begins.
use Rattle.std.proofs.Common.{◌≡◌, ℕ, List, [], ◌∷◌, Option, Some, None, Result, Ok, Err, refl, ◌∙◌}
use Rattle.pst_base.specs.declared.names.VersionNo.{VersionNo}
use Rattle.pst_program.specs.declared.meaning.Ended.{Ended}
use Rattle.pst_program.specs.declared.meaning.Ended.TheVariants.{Done, Trapped, Stopped}
use Rattle.pst_script.specs.declared.command.Command.{Command}
use Rattle.pst_script.specs.declared.command.Command.TheVariants as command
use Rattle.pst_script.specs.declared.command.LineFault.{LineFault}
use Rattle.pst_script.specs.declared.reply.Refusal.{Refusal}
use Rattle.pst_script.specs.Commands.{reading}
use Rattle.pst_history.specs.declared.history.Run.{Run}
use Rattle.pst_history.specs.Meaning.{Meaning}
use Rattle.pst_history.specs.History.{History, opening, with_run, with_version, opened, closed, call_of, changed, next_run, run_at, unless, refusal, after}
use Rattle.pst_history.specs.History.{closed_run, end_of, parent_of, called_more, granted_more, dropped_run}
use Rattle.pst_cli_scripts.specs.Pieces.{state_after}
use Rattle.pst_cli_scripts.specs.Script.{by_tree, next_of, script_of}
use Rattle.pst_cli_scripts.specs.Kept.{first_history, history_after}

with_run-start : (h : History) (n : ℕ) (f : Run → Run) (o : Option Run) → (with_run h n f o).start ≡ h.start
with_run-start h n f None = refl
with_run-start h n f (Some r) = refl

with_version-start : (h : History) (n : ℕ) (parent : VersionNo) (end : Ended) → (with_version h n parent end).start ≡ h.start
with_version-start h n parent Stopped = refl
with_version-start h n parent (Trapped trap) = refl
with_version-start h n parent Done = refl

closed-start : (m : Meaning) (h : History) (n : ℕ) → (closed m h n).start ≡ h.start
closed-start m h n = with_version-start (with_run h n closed_run (run_at h n)) n (parent_of (run_at h n)) (end_of m h n (run_at h n)) ∙ with_run-start h n closed_run (run_at h n)

changed-start : (m : Meaning) (h : History) (c : Command) → (changed m h c).start ≡ h.start
changed-start m h (command.Run call) = closed-start m (opened h call.version (call_of call ∷ [])) (next_run h)
changed-start m h (command.Query call) = refl
changed-start m h (command.OpenRun call) = refl
changed-start m h (command.OpenEmpty version) = refl
changed-start m h (command.CallRun run procedure arguments) = with_run-start h run.0 (called_more record { procedure = procedure; arguments = arguments }) (run_at h run.0)
changed-start m h (command.StepRun run charges) = with_run-start h run.0 (granted_more charges) (run_at h run.0)
changed-start m h (command.CloseRun run) = closed-start m h run.0
changed-start m h (command.DropRun run) = with_run-start h run.0 dropped_run (run_at h run.0)
changed-start m h (command.Budget charges) = refl
changed-start m h command.Versions = refl
changed-start m h command.Stats = refl

unless-start : (o : Option Refusal) (new old : History) → new.start ≡ old.start → (unless o new old).start ≡ old.start
unless-start None new old e = e
unless-start (Some r) new old e = refl

after-start : (m : Meaning) (h : History) (c : Command) → (after m h c).start ≡ h.start
unfolding after
after-start m h c = unless-start (refusal m h c) (changed m h c) h (changed-start m h c)

next-start : (m : Meaning) (h : History) (line : Result (Option Command) LineFault) → (next_of by_tree m h line).start ≡ h.start
next-start m h (Ok None) = refl
next-start m h (Ok (Some c)) = after-start m h c
next-start m h (Err fault) = refl

pub lines-start : (m : Meaning) (h : History) (lines : List (List ℕ)) → (state_after (script_of by_tree m) h lines).start ≡ h.start
lines-start m h [] = refl
lines-start m h (line ∷ lines) = lines-start m (next_of by_tree m h (reading line)) lines ∙ next-start m h (reading line)

pub script-start : (m : Meaning) (lines : List (List ℕ)) → (history_after by_tree m lines).start ≡ opening m.shape
script-start m lines = lines-start m (first_history by_tree m) lines
