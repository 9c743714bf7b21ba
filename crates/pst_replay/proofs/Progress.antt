-- What an open run comes to once it is granted more, called or closed.
use Rattle.std.proofs.Common.{◌≡◌, ℕ, refl, ap, sym, ◌∙◌, subst, Some, None, true}
use Rattle.std.specs.Prelude.{Result, IfOk, OnOk}
use Rattle.std.proofs.lemmas.Result.{IfOk-weaker, on_ok_weaker}
use Rattle.pst_base.specs.declared.names.RunNo.{RunNo}
use Rattle.pst_base.specs.declared.names.VersionNo.{VersionNo}
use Rattle.pst_script.specs.declared.command.Command.TheVariants as command
use Rattle.pst_script.specs.declared.reply.Reply.{Reply}
use Rattle.pst_history.specs.declared.history.Run.{Run}
use Rattle.pst_history.specs.declared.history.Since.{Since}
use Rattle.pst_history.specs.declared.history.NamedCall.{NamedCall}
use Rattle.pst_history.specs.Meaning.{Meaning, kinds_refusal}
use Rattle.pst_history.specs.History.{History, refusal, first, run_refusal, calls_refusal, run_at, is_open_run, outcome_of, work_of, stepped, step_reply}
use Rattle.pst_history.specs.History.{close_reply, closed, closed_run, called_more, granted_more, with_run, with_version, ended, opening, since, version_count}
use Rattle.pst_history.specs.Sound.{IsSoundHistory}
use Rattle.pst_history.proofs.Refusals.{first-none, accepted_kinds, accepted_run, has_calls, open_run, IsOpenRun}
use Rattle.pst_history.proofs.Numbered.{numbered-same}
use Rattle.pst_history.proofs.Steps.{IsRestated, restated, restated-sound, heap_of-restated}
use Rattle.pst_history.proofs.After.{closed-is, closing, granting, calling}
use Rattle.pst_eval.specs.declared.whole.Outcome.{Outcome as Told}
use Rattle.pst_replay.specs.Replay.{IsEnd}

-- a history in which an open run was changed
pub record IsChanged (m : Meaning) (h new : History) (n : ℕ) (f : Run → Run) : Type 0 where
  pub run : Run
  pub found : run_at h n ≡ Some run
  pub is : new ≡ restated h n (f run)
  pub now : run_at new n ≡ Some (f run)
  pub sound : IsSoundHistory m new
  pub same : (granted : ℕ) → outcome_of m new n (f run) granted ≡ outcome_of m h n (f run) granted

is_changed : (m : Meaning) (h new : History) (n : ℕ) (f : Run → Run) → IsSoundHistory m h → (o : IsOpenRun h n) → IsRestated m h n o.run (f o.run)
    → new ≡ with_run h n f (run_at h n) → IsChanged m h new n f
is_changed m h new n f sound o step e =
    let is : new ≡ restated h n (f o.run) = e ∙ ap (with_run h n f) o.found in
    let P : History → Type 0 = λ x. IsSoundHistory m x in
    record {
      run = o.run;
      found = o.found;
      is = is;
      now = ap (λ x. run_at x n) is ∙ numbered-same h.start.next_run h.runs n o.run (f o.run) o.found;
      sound = subst P (sym is) (restated-sound m h n o.run (f o.run) sound step);
      same = λ granted. ap (λ x. outcome_of m x n (f o.run) granted) is ∙ ap (m.outcome (work_of n (f o.run)) granted) (heap_of-restated m h n o.run (f o.run) (f o.run).parent.0 sound step);
    }

pub stepped-changed : (m : Meaning) (h new : History) (run : RunNo) (charges : ℕ) → IsSoundHistory m h
    → refusal m h (command.StepRun run charges) ≡ None → new ≡ with_run h run.0 (granted_more charges) (run_at h run.0)
    → IsChanged m h new run.0 (granted_more charges)
unfolding refusal
stepped-changed m h new run charges sound e is =
    let o = accepted_run h run e in
    is_changed m h new run.0 (granted_more charges) sound o (granting m h run.0 o.run charges sound o.found o.is_so) is

pub called-changed : (m : Meaning) (h new : History) (run : RunNo) (c : NamedCall) → IsSoundHistory m h
    → refusal m h (command.CallRun run c.procedure c.arguments) ≡ None → new ≡ with_run h run.0 (called_more c) (run_at h run.0)
    → IsChanged m h new run.0 (called_more c)
unfolding refusal
called-changed m h new run c sound e is =
    let both = first-none (kinds_refusal (m.proc c.procedure) c.arguments) (first (run_refusal h run) (calls_refusal h run)) e in
    let more = first-none (run_refusal h run) (calls_refusal h run) both.1 in
    let o = accepted_run h run more.0 in
    is_changed m h new run.0 (called_more c) sound o (calling m h run.0 o.run c sound o.found o.is_so (has_calls h run o.run o.found more.1)
    (accepted_kinds (m.proc c.procedure) c.arguments both.0)) is

pub closed-changed : (m : Meaning) (h new : History) (n : ℕ) → IsSoundHistory m h → is_open_run (run_at h n) ≡ true → new ≡ with_run h n closed_run (run_at h n) → IsChanged m h new n closed_run
closed-changed m h new n sound e is =
    let o = open_run h n (run_at h n) refl e in
    is_changed m h new n closed_run sound o (closing m h n o.run sound o.found o.is_so) is

-- the answer to a run that was changed
pub progress-reply : (m : Meaning) (h new : History) (number : RunNo) (f : Run → Run) (reply : Reply) → IsChanged m h new number.0 f
    → ((r : Run) → run_at new number.0 ≡ Some r → reply ≡ stepped number (outcome_of m new number.0 r r.granted).end)
    → reply ≡ step_reply m h number f (run_at h number.0)
progress-reply m h new number f reply x all =
    all (f x.run) x.now ∙ ap (λ o. stepped number o.end) (x.same (f x.run).granted) ∙ ap (step_reply m h number f) (sym x.found)

-- how a run that is closed ended
pub closed-end : (m : Meaning) (h new : History) (n : ℕ) (o : Told) → (x : IsChanged m h new n closed_run)
    → ((r : Run) → run_at new n ≡ Some r → IsEnd (outcome_of m new n r r.granted) o) → IsEnd (outcome_of m h n x.run x.run.budget) o
closed-end m h new n o x all =
    let is = all (closed_run x.run) x.now in
    let same = x.same x.run.budget in
    record { end = is.end ∙ ap (λ y. y.end) same; printed = is.printed ∙ ap (λ y. y.printed) same; counts = is.counts ∙ ap (λ y. y.counts) same }

pub closed-reply : (m : Meaning) (h new : History) (number : RunNo) (o : Told) (reply : Reply) → (x : IsChanged m h new number.0 closed_run)
    → IsEnd (outcome_of m h number.0 x.run x.run.budget) o → reply ≡ ended (version_count new) o.printed o.ended
    → reply ≡ close_reply m h number (run_at h number.0)
closed-reply m h new number o reply x is e =
    let out = outcome_of m h number.0 x.run x.run.budget in
    e ∙ ap (λ (y : History). ended (version_count y) o.printed o.ended) x.is ∙ ap (λ p. ended (version_count h) p o.ended) is.printed
    ∙ ap (ended (version_count h) out.printed) is.end ∙ ap (close_reply m h number) (sym x.found)

pub closed-history : (m : Meaning) (h new last : History) (n : ℕ) (o : Told) (parent : VersionNo) → (x : IsChanged m h new n closed_run)
    → IsEnd (outcome_of m h n x.run x.run.budget) o → parent ≡ x.run.parent → last ≡ with_version new n parent o.ended → last ≡ closed m h n
closed-history m h new last n o parent x is same e =
    e ∙ ap (λ y. with_version y n parent o.ended) x.is ∙ ap (λ p. with_version (restated h n (closed_run x.run)) n p o.ended) same
    ∙ ap (with_version (restated h n (closed_run x.run)) n x.run.parent) is.end ∙ sym (closed-is m h n x.run x.found)

-- ---- where want of memory gives no answer

pub progress-replies : {E : Type 0} (m : Meaning) (h new : History) (number : RunNo) (f : Run → Run) (r : Result Reply E)
    → IsChanged m h new number.0 f → IfOk r (λ reply. (run : Run) → run_at new number.0 ≡ Some run
    → reply ≡ stepped number (outcome_of m new number.0 run run.granted).end) → IfOk r (λ reply. reply ≡ step_reply m h number f (run_at h number.0))
progress-replies m h new number f r x = IfOk-weaker r (λ reply. (run : Run) → run_at new number.0 ≡ Some run
    → reply ≡ stepped number (outcome_of m new number.0 run run.granted).end) (λ reply. reply ≡ step_reply m h number f (run_at h number.0))
    (λ reply all. progress-reply m h new number f reply x all)

pub closed-replies : {E : Type 0} (m : Meaning) (h new : History) (number : RunNo) (o : Told) (r : Result Reply E)
    → (x : IsChanged m h new number.0 closed_run) → IsEnd (outcome_of m h number.0 x.run x.run.budget) o
    → IfOk r (λ reply. reply ≡ ended (version_count new) o.printed o.ended) → IfOk r (λ reply. reply ≡ close_reply m h number (run_at h number.0))
closed-replies m h new number o r x is = IfOk-weaker r (λ reply. reply ≡ ended (version_count new) o.printed o.ended)
    (λ reply. reply ≡ close_reply m h number (run_at h number.0)) (λ reply e. closed-reply m h new number o reply x is e)

pub closed-histories : {E : Type 0} (m : Meaning) (h new : History) (last : Since) (n : ℕ) (o : Told) (parent : VersionNo) (r : Result Reply E)
    → (x : IsChanged m h new n closed_run) → IsEnd (outcome_of m h n x.run x.run.budget) o → parent ≡ x.run.parent
    → OnOk r (since (opening m.shape) last ≡ with_version new n parent o.ended) → OnOk r (since (opening m.shape) last ≡ closed m h n)
closed-histories m h new last n o parent r x is same = on_ok_weaker r (λ e. closed-history m h new (since (opening m.shape) last) n o parent x is same e)
