-- A script goes on alike.
use Rattle.std.proofs.Common.{◌≡◌, ℕ, ◌<◌, ◌≤◌, Option, Some, None, List, [], ◌∷◌, ◌++◌, slice_get, map, refl, sym, ap, ◌∙◌, subst, inl, inr, ⊎_elim, arith, append-nil, append_assoc}
use Rattle.std.specs.Prelude.{not, nat_le, nat_lt}
use Rattle.std.proofs.lemmas.Bool.{cases_lt}
use Rattle.pst_base.specs.declared.names.RunNo.{RunNo}
use Rattle.pst_base.specs.declared.names.VersionNo.{VersionNo}
use Rattle.pst_program.specs.declared.meaning.Ended.{Ended}
use Rattle.pst_program.specs.declared.meaning.Ended.TheVariants.{Stopped, Done, Trapped}
use Rattle.pst_program.specs.Outcome.{Outcome}
use Rattle.pst_script.specs.declared.command.Command.{Command}
use Rattle.pst_script.specs.declared.command.Command.TheVariants as command
use Rattle.pst_script.specs.declared.reply.Reply.TheVariants as answer
use Rattle.pst_script.specs.declared.reply.Refusal.{Refusal}
use Rattle.pst_script.specs.declared.reply.Refusal.TheVariants as because
use Rattle.pst_history.specs.declared.history.Run.{Run}
use Rattle.pst_history.specs.declared.history.Descent.{Descent}
use Rattle.pst_history.specs.declared.history.NamedCall.{NamedCall}
use Rattle.pst_history.specs.declared.history.TheConstants.{RUNS, OPEN_RUNS}
use Rattle.pst_history.specs.Meaning.{Meaning, when, kinds_refusal}
use Rattle.pst_history.specs.History.{History, run_at, next_run, is_open_run, outcome_of, first, version_refusal, call_refusal, runs_refusal, open_refusal}
use Rattle.pst_history.specs.History.{run_refusal, calls_refusal, is_full_run, refusal, call_of, new_run, opened, with_run, granted_more, called_more}
use Rattle.pst_history.specs.History.{closed_run, dropped_run, with_version, end_of, parent_of, closed, changed, unless, after, ended_as, ended, queried_as}
use Rattle.pst_history.specs.History.{stepped, step_reply, close_reply, answered, unless_refused, reply, with_numbered}
use Rattle.pst_history.specs.Sound.{IsSoundHistory}
use Rattle.pst_history.proofs.Lists.{slice_get-of_append}
use Rattle.pst_history_laws.specs.TakenUp.{further, anew, AreAlike, NoneOpen}
use Rattle.pst_history_laws.specs.Openings.{BeginsLaw, RepliesLaw, StaysLaw}
use Rattle.pst_history_laws.proofs.SameParts.{same-next, later-run, earlier-run, same-heap, same-count, same-counts, same-open, same-set}

first-left : (a b : Option Refusal) → first a b ≡ None → a ≡ None
first-left None b e = refl
first-left (Some r) b e = absurd (cc)

first-right : (a b : Option Refusal) → first a b ≡ None → b ≡ None
first-right None b e = e
first-right (Some r) b e = absurd (cc)

pub begins_law : BeginsLaw
begins_law m h = record {
  budget = h.budget;
  runs = [];
  versions = [];
  later = λ i v e. absurd (cc);
  old_is = λ i. record { start = h.start; budget = h.budget; runs = sym (append-nil h.runs) i; versions = sym (append-nil h.versions) i };
  new_is = refl;
}

module _ (m : Meaning) (h0 : History) (sound : IsSoundHistory m h0) (none : NoneOpen h0) (b : ℕ) (runs : List Run) (versions : List Descent)
    (later : (i : ℕ) (v : Descent) → slice_get versions i ≡ Some v → next_run h0 ≤ v.run.0) where
  abbrev h : History
  h = further h0 b runs versions

  abbrev g : History
  g = anew m h0 b runs versions

  -- ---- refusals

  same-run-refusal : (run : RunNo) → run_refusal h run ≡ run_refusal g run
  same-run-refusal run = ⊎_elim
      (λ (l : run.0 < next_run h0).
      let e = earlier-run m h0 sound none b runs versions later run.0 l in
      ap (λ x. when (not x) because.Run) (e.0 ∙ sym (ap is_open_run e.1)))
      (λ (l : next_run h0 ≤ run.0). ap (λ o. when (not (is_open_run o)) because.Run) (later-run m h0 sound none b runs versions later run.0 l))
      (cases_lt run.0 (next_run h0))

  same-calls-refusal : (run : RunNo) → first (run_refusal h run) (calls_refusal h run) ≡ first (run_refusal g run) (calls_refusal g run)
  same-calls-refusal run = ⊎_elim
      (λ (l : run.0 < next_run h0).
      let e = earlier-run m h0 sound none b runs versions later run.0 l in
      let one : run_refusal h run ≡ Some because.Run = ap (λ x. when (not x) because.Run) e.0 in
      let two : run_refusal g run ≡ Some because.Run = ap (λ o. when (not (is_open_run o)) because.Run) e.1 in
      ap (λ r. first r (calls_refusal h run)) one ∙ sym (ap (λ r. first r (calls_refusal g run)) two))
      (λ (l : next_run h0 ≤ run.0). ap (λ o. first (when (not (is_open_run o)) because.Run) (when (is_full_run o) because.Calls)) (later-run m h0 sound none b runs versions later run.0 l))
      (cases_lt run.0 (next_run h0))

  same-version-refusal : (v : VersionNo) → version_refusal h v ≡ version_refusal g v
  same-version-refusal v = ap (λ k. when (nat_le k v.0) because.Version) (same-count m h0 sound none b runs versions later)

  same-runs-refusal : runs_refusal h ≡ runs_refusal g
  same-runs-refusal = ap (λ k. when (nat_lt RUNS k) because.Runs) (same-next m h0 sound none b runs versions later)

  same-open-refusal : open_refusal h ≡ open_refusal g
  same-open-refusal = ap (λ k. when (nat_le OPEN_RUNS k) because.RunsOpen) (same-open m h0 sound none b runs versions later)

  pub same-refusal : (c : Command) → refusal m h c ≡ refusal m g c
  unfolding refusal
  same-refusal (command.Run call) =
      ap (λ r. first (first (kinds_refusal (m.proc call.procedure) call.arguments) r) (runs_refusal h)) (same-version-refusal call.version)
      ∙ ap (first (call_refusal g (m.proc call.procedure) call)) same-runs-refusal
  same-refusal (command.Query call) = ap (first (kinds_refusal (m.query call.procedure) call.arguments)) (same-version-refusal call.version)
  same-refusal (command.OpenRun call) =
      ap (λ r. first (first (kinds_refusal (m.proc call.procedure) call.arguments) r) (first (runs_refusal h) (open_refusal h))) (same-version-refusal call.version)
      ∙ ap (λ r. first (call_refusal g (m.proc call.procedure) call) (first r (open_refusal h))) same-runs-refusal
      ∙ ap (λ r. first (call_refusal g (m.proc call.procedure) call) (first (runs_refusal g) r)) same-open-refusal
  same-refusal (command.OpenEmpty version) =
      ap (λ r. first r (first (runs_refusal h) (open_refusal h))) (same-version-refusal version)
      ∙ ap (λ r. first (version_refusal g version) (first r (open_refusal h))) same-runs-refusal ∙ ap (λ r. first (version_refusal g version) (first (runs_refusal g) r)) same-open-refusal
  same-refusal (command.CallRun run procedure arguments) = ap (first (kinds_refusal (m.proc procedure) arguments)) (same-calls-refusal run)
  same-refusal (command.StepRun run charges) = same-run-refusal run
  same-refusal (command.CloseRun run) = same-run-refusal run
  same-refusal (command.DropRun run) = same-run-refusal run
  same-refusal (command.Budget charges) = refl
  same-refusal command.Versions = refl
  same-refusal command.Stats = refl

  -- a run that is not refused is one since then
  not-earlier : (run : RunNo) → run_refusal g run ≡ None → next_run h0 ≤ run.0
  not-earlier run e = ⊎_elim
      (λ (l : run.0 < next_run h0). absurd (let x = earlier-run m h0 sound none b runs versions later run.0 l in
      let two : run_refusal g run ≡ Some because.Run = ap (λ o. when (not (is_open_run o)) because.Run) x.1 in cc))
      (λ (l : next_run h0 ≤ run.0). l)
      (cases_lt run.0 (next_run h0))

  -- ---- replies

  same-outcome : (n k : ℕ) (r : Run) → outcome_of m h n r k ≡ outcome_of m g n r k
  same-outcome n k r = ap (λ y. m.outcome record { run = record { 0 = n }; calls = r.calls; budget = r.budget } k y) (same-heap m h0 sound none b runs versions later r.parent.0)

  same-step : (run : RunNo) (f : Run → Run) → next_run h0 ≤ run.0 → step_reply m h run f (run_at h run.0) ≡ step_reply m g run f (run_at g run.0)
  same-step run f l = ap (step_reply m h run f) (later-run m h0 sound none b runs versions later run.0 l) ∙ on (run_at g run.0)
    where
      on : (o : Option Run) → step_reply m h run f o ≡ step_reply m g run f o
      on None = refl
      on (Some r) = ap (λ (o : Outcome). stepped run o.end) (same-outcome run.0 (f r).granted (f r))

  same-ended : (o : Outcome) → ended_as h o ≡ ended_as g o
  same-ended o = ap (λ k. ended k o.printed o.end) (same-count m h0 sound none b runs versions later)

  same-close : (run : RunNo) → next_run h0 ≤ run.0 → close_reply m h run (run_at h run.0) ≡ close_reply m g run (run_at g run.0)
  same-close run l = ap (close_reply m h run) (later-run m h0 sound none b runs versions later run.0 l) ∙ on (run_at g run.0)
    where
      on : (o : Option Run) → close_reply m h run o ≡ close_reply m g run o
      on None = refl
      on (Some r) = same-ended (outcome_of m h run.0 r r.budget) ∙ ap (ended_as g) (same-outcome run.0 r.budget r)

  new-outcome : (v : VersionNo) (calls : List NamedCall) → outcome_of m h (next_run h) (new_run h v calls) b ≡ outcome_of m g (next_run g) (new_run g v calls) b
  new-outcome v calls = same-outcome (next_run h) b (new_run h v calls) ∙ ap (λ k. outcome_of m g k (new_run g v calls) b) (same-next m h0 sound none b runs versions later)

  same-answer : (c : Command) → refusal m g c ≡ None → answered m h c ≡ answered m g c
  unfolding refusal
  same-answer (command.Run call) e = same-ended (outcome_of m h (next_run h) (new_run h call.version (call_of call ∷ [])) b) ∙ ap (ended_as g) (new-outcome call.version (call_of call ∷ []))
  same-answer (command.Query call) e = ap queried_as (new-outcome call.version (call_of call ∷ []))
  same-answer (command.OpenRun call) e = ap (λ (k : ℕ). answer.Opened (record { 0 = k })) (same-next m h0 sound none b runs versions later)
  same-answer (command.OpenEmpty version) e = ap (λ (k : ℕ). answer.Opened (record { 0 = k })) (same-next m h0 sound none b runs versions later)
  same-answer (command.CallRun run procedure arguments) e = same-step run (called_more record { procedure = procedure; arguments = arguments })
      (not-earlier run (first-left (run_refusal g run) (calls_refusal g run)
      (first-right (kinds_refusal (m.proc procedure) arguments) (first (run_refusal g run) (calls_refusal g run)) e)))
  same-answer (command.StepRun run charges) e = same-step run (granted_more charges) (not-earlier run e)
  same-answer (command.CloseRun run) e = same-close run (not-earlier run e)
  same-answer (command.DropRun run) e = refl
  same-answer (command.Budget charges) e = refl
  same-answer command.Versions e = ap (λ vs. answer.VersionList (map (λ v. v.parent) vs)) (sym (append_assoc h0.start.versions h0.versions versions))
  same-answer command.Stats e = ap answer.StatsAre (same-counts m h0 sound none b runs versions later)

  pub same-reply : (c : Command) → reply m h c ≡ reply m g c
  unfolding reply
  same-reply c = ap (λ r. unless_refused r (answered m h c)) (same-refusal c) ∙ on (refusal m g c) refl
    where
      on : (r : Option Refusal) → refusal m g c ≡ r → unless_refused r (answered m h c) ≡ unless_refused r (answered m g c)
      on None e = same-answer c e
      on (Some why) e = refl

-- ---- changes

-- one version more, of a run since then
version-alike : (m : Meaning) (h0 x y : History) → AreAlike m h0 x y → (n : ℕ) → next_run h0 ≤ n → (p : VersionNo) (z : Ended) → AreAlike m h0 (with_version x n p z) (with_version y n p z)
version-alike m h0 x y a n l p Stopped = a
version-alike m h0 x y a n l p (Trapped trap) = a
version-alike m h0 x y a n l p Done =
    let v : Descent = record { run = record { 0 = n }; parent = p } in
    subst (λ y. AreAlike m h0 (with_version x n p Done) (with_version y n p Done)) (sym a.new_is)
    (subst (λ x. AreAlike m h0 (with_version x n p Done) (with_version (anew m h0 a.budget a.runs a.versions) n p Done)) (sym a.old_is) (record {
      budget = a.budget;
      runs = a.runs;
      versions = a.versions ++ v ∷ [];
      later = λ i w e. elim (slice_get-of_append a.versions v w i e) [
        | inl u ↦ a.later i w u
        | inr u ↦ subst (λ (w : Descent). next_run h0 ≤ w.run.0) (sym u.1) l
      ];
      old_is = λ i. record { start = h0.start; budget = a.budget; runs = h0.runs ++ a.runs; versions = append_assoc h0.versions a.versions (v ∷ []) i };
      new_is = refl;
    }))

module _ (m : Meaning) (h0 : History) (sound : IsSoundHistory m h0) (none : NoneOpen h0) (b : ℕ) (runs : List Run) (versions : List Descent)
    (later : (i : ℕ) (v : Descent) → slice_get versions i ≡ Some v → next_run h0 ≤ v.run.0) where
  abbrev old : History
  old = further h0 b runs versions

  abbrev new : History
  new = anew m h0 b runs versions

  stays : AreAlike m h0 old new
  stays = record { budget = b; runs = runs; versions = versions; later = later; old_is = refl; new_is = refl }

  opened-alike : (v : VersionNo) (calls : List NamedCall) → AreAlike m h0 (opened old v calls) (opened new v calls)
  opened-alike v calls = record {
    budget = b;
    runs = runs ++ new_run old v calls ∷ [];
    versions = versions;
    later = later;
    old_is = λ i. record { start = h0.start; budget = b; runs = append_assoc h0.runs runs (new_run old v calls ∷ []) i; versions = h0.versions ++ versions };
    new_is = refl;
  }

  with-alike : (n : ℕ) (f : Run → Run) → next_run h0 ≤ n → (o : Option Run) → AreAlike m h0 (with_run old n f o) (with_run new n f o)
  with-alike n f l None = stays
  with-alike n f l (Some r) = record {
    budget = b;
    runs = with_numbered (next_run h0) runs n (f r);
    versions = versions;
    later = later;
    old_is = λ i. record { start = h0.start; budget = b; runs = same-set m h0 sound none b runs versions later n (f r) l i; versions = h0.versions ++ versions };
    new_is = refl;
  }

  run-alike : (n : ℕ) (f : Run → Run) → next_run h0 ≤ n → AreAlike m h0 (with_run old n f (run_at old n)) (with_run new n f (run_at new n))
  run-alike n f l = subst (λ o. AreAlike m h0 (with_run old n f o) (with_run new n f (run_at new n))) (sym (later-run m h0 sound none b runs versions later n l)) (with-alike n f l (run_at new n))

  same-end : (n : ℕ) (o : Option Run) → end_of m old n o ≡ end_of m new n o
  same-end n None = refl
  same-end n (Some r) = ap (λ (o : Outcome). o.end) (same-outcome m h0 sound none b runs versions later n r.budget r)

  closed-alike : (n : ℕ) → next_run h0 ≤ n → AreAlike m h0 (closed m old n) (closed m new n)
  closed-alike n l =
      let same = later-run m h0 sound none b runs versions later n l in
      subst (λ o. AreAlike m h0 (with_version (with_run old n closed_run o) n (parent_of o) (end_of m old n o)) (closed m new n)) (sym same)
      (subst (λ z. AreAlike m h0 (with_version (with_run old n closed_run (run_at new n)) n (parent_of (run_at new n)) z) (closed m new n)) (sym (same-end n (run_at new n)))
      (version-alike m h0 (with_run old n closed_run (run_at new n)) (with_run new n closed_run (run_at new n))
      (with-alike n closed_run l (run_at new n)) n l (parent_of (run_at new n)) (end_of m new n (run_at new n))))

-- a run that is opened and closed at once
line-alike : (m : Meaning) (h0 : History) → IsSoundHistory m h0 → NoneOpen h0 → (x y : History) → AreAlike m h0 x y → (n k : ℕ) → n ≡ k → next_run h0 ≤ k → AreAlike m h0 (closed m x n) (closed m y k)
line-alike m h0 sound none x y a n k e l =
    subst (λ n. AreAlike m h0 (closed m x n) (closed m y k)) (sym e)
    (subst (λ y. AreAlike m h0 (closed m x k) (closed m y k)) (sym a.new_is)
    (subst (λ x. AreAlike m h0 (closed m x k) (closed m (anew m h0 a.budget a.runs a.versions) k)) (sym a.old_is)
    (closed-alike m h0 sound none a.budget a.runs a.versions a.later k l)))

module _ (m : Meaning) (h0 : History) (sound : IsSoundHistory m h0) (none : NoneOpen h0) (b : ℕ) (runs : List Run) (versions : List Descent)
    (later : (i : ℕ) (v : Descent) → slice_get versions i ≡ Some v → next_run h0 ≤ v.run.0) where
  abbrev one : History
  one = further h0 b runs versions

  abbrev two : History
  two = anew m h0 b runs versions

  kept : AreAlike m h0 one two
  kept = stays m h0 sound none b runs versions later

  since : (run : RunNo) → run_refusal two run ≡ None → next_run h0 ≤ run.0
  since run e = not-earlier m h0 sound none b runs versions later run e

  changed-alike : (c : Command) → refusal m two c ≡ None → AreAlike m h0 (changed m one c) (changed m two c)
  unfolding refusal
  changed-alike (command.Run call) e = line-alike m h0 sound none (opened one call.version (call_of call ∷ []))
      (opened two call.version (call_of call ∷ [])) (opened-alike m h0 sound none b runs versions later call.version (call_of call ∷ []))
      (next_run one) (next_run two) (same-next m h0 sound none b runs versions later) (omega arith)
  changed-alike (command.Query call) e = kept
  changed-alike (command.OpenRun call) e = opened-alike m h0 sound none b runs versions later call.version (call_of call ∷ [])
  changed-alike (command.OpenEmpty version) e = opened-alike m h0 sound none b runs versions later version []
  changed-alike (command.CallRun run procedure arguments) e =
      run-alike m h0 sound none b runs versions later run.0 (called_more record { procedure = procedure; arguments = arguments })
      (since run (first-left (run_refusal two run) (calls_refusal two run)
      (first-right (kinds_refusal (m.proc procedure) arguments) (first (run_refusal two run) (calls_refusal two run)) e)))
  changed-alike (command.StepRun run charges) e = run-alike m h0 sound none b runs versions later run.0 (granted_more charges) (since run e)
  changed-alike (command.CloseRun run) e = closed-alike m h0 sound none b runs versions later run.0 (since run e)
  changed-alike (command.DropRun run) e = run-alike m h0 sound none b runs versions later run.0 dropped_run (since run e)
  changed-alike (command.Budget charges) e = record { budget = charges; runs = runs; versions = versions; later = later; old_is = refl; new_is = refl }
  changed-alike command.Versions e = kept
  changed-alike command.Stats e = kept

  after-alike : (c : Command) → AreAlike m h0 (after m one c) (after m two c)
  unfolding after
  after-alike c = subst (λ r. AreAlike m h0 (unless r (changed m one c) one) (after m two c)) (sym (same-refusal m h0 sound none b runs versions later c)) (on (refusal m two c) refl)
    where
      on : (r : Option Refusal) → refusal m two c ≡ r → AreAlike m h0 (unless r (changed m one c) one) (unless r (changed m two c) two)
      on None e = changed-alike c e
      on (Some why) e = kept

pub stays_law : StaysLaw
stays_law m h0 h g c sound none a =
    subst (λ g. AreAlike m h0 (after m h c) (after m g c)) (sym a.new_is)
    (subst (λ h. AreAlike m h0 (after m h c) (after m (anew m h0 a.budget a.runs a.versions) c)) (sym a.old_is)
    (after-alike m h0 sound none a.budget a.runs a.versions a.later c))

pub replies_law : RepliesLaw
replies_law m h0 h g c sound none a = ap (λ x. reply m x c) a.old_is ∙ same-reply m h0 sound none a.budget a.runs a.versions a.later c ∙ sym (ap (λ x. reply m x c) a.new_is)
