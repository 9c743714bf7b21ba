-- An open run is carried to its end, and its place becomes a version where it is done.
use Rattle.std.proofs.Common.{◌≡◌, ℕ, ◌+◌, List, ℤ, [], ◌∷◌, length, min, refl, ap, sym, ◌∙◌, subst, arith, zero, suc, slice_get, Option, Some, None}
use Rattle.std.specs.Prelude.{slice_set, remove}
use Rattle.std.proofs.lemmas.Option.{same_Some, slice_get_within}
use Rattle.pst_base.specs.declared.names.Counts.{Counts}
use Rattle.pst_base.specs.declared.names.RunNo.{RunNo}
use Rattle.pst_base.specs.declared.names.VersionNo.{VersionNo}
use Rattle.pst_base.specs.Heap.{Heap}
use Rattle.pst_program.specs.declared.meaning.Ended.{Ended}
use Rattle.pst_program.specs.declared.meaning.Ended.TheVariants.{Done, Trapped, Stopped}
use Rattle.pst_program.specs.Outcome.{Outcome}
use Rattle.pst_script.specs.declared.reply.Reply.{Reply}
use Rattle.pst_script.specs.declared.reply.Reply.TheVariants as answer
use Rattle.pst_versions.specs.State.{State, WritesStay, IsVersioned, IsOpenFork, Published}
use Rattle.pst_history.specs.declared.history.RunState.TheVariants.{Closed}
use Rattle.pst_history.specs.declared.history.Run.{Run}
use Rattle.pst_history.specs.Meaning.{Meaning, Work, IsLawful}
use Rattle.pst_history.specs.History.{History, run_at, work_of, heap_of, run_counts, outcome_of, closed, closed_run, close_reply, ended, version_count}
use Rattle.pst_history.specs.History.{with_version, with_index, with_numbered, index_from}
use Rattle.pst_history.proofs.Lists.{slice_get-set_same}
use Rattle.pst_history.proofs.Numbered.{numbered-same, numbered-length}
use Rattle.pst_history.proofs.Steps.{restated, run-sound, heap_of-restated}
use Rattle.pst_history.proofs.After.{same_calls, closing, closed-is, closed-publishable}
use Rattle.pst_machine.specs.declared.activation.Activation.{Activation}
use Rattle.pst_engine_runs.specs.declared.entry.OpenEntry.{OpenEntry}
use Rattle.pst_machine_steps.specs.Fields.{KeepsOthers}
use Rattle.pst_engine_runs.specs.Runs.{Runs, IsWaiting, RanOn, StandingWaits, SurvivesOthers}
use Rattle.pst_engine_runs.specs.Stands.{IsEntry, StandsFor}
use Rattle.pst_engine.specs.Stands.{MayPublish, Settled}
use Rattle.pst_engine_runs.proofs.Parts.{IsOpenAt, entry-run, entry-open, entry-writable}
use Rattle.pst_engine_runs.proofs.Moving.{move-keeps, restated-run}
use Rattle.pst_engine.proofs.Leaving.{leave-keeps}
use Rattle.pst_engine.proofs.Publishing.{IsEnded, publish-keeps}
use Rattle.pst_engine_runs.proofs.Slicing.{entry-waits}
use Rattle.pst_engine_runs.proofs.Entries.{if-some}

set-twice : {X : Type 0} (xs : List X) (i : ℕ) (a b : X) → slice_set (slice_set xs i a) i b ≡ slice_set xs i b
set-twice [] i a b = refl
set-twice (x ∷ xs) zero a b = refl
set-twice (x ∷ xs) (suc i) a b = ap (λ ys. x ∷ ys) (set-twice xs i a b)

index-twice : (runs : List Run) (o : Option ℕ) (a b : Run) → with_index (with_index runs o a) o b ≡ with_index runs o b
index-twice runs None a b = refl
index-twice runs (Some i) a b = set-twice runs i a b

numbered-twice : (first : ℕ) (runs : List Run) (n : ℕ) (a b : Run) → with_numbered first (with_numbered first runs n a) n b ≡ with_numbered first runs n b
numbered-twice first runs n a b = index-twice runs (index_from first n) a b

module _ {H P R : Type 0} (m : Meaning) (x : Runs P R (Activation H R P)) (law : IsLawful m) (s : State P R) (waits : StandingWaits x s)
    (known : IsVersioned s) (placed : (p : P) → s.writable p → s.has p)
    (active : List (OpenEntry H R P)) (budget next : ℕ) (h : History) (stand : StandsFor m x active budget next s h) (at : ℕ) (e : OpenEntry H R P) (found : slice_get active at ≡ Some e)
    (t : State P R) (still : SurvivesOthers x s t) (b : Activation H R P) (end : Ended) (kept : KeepsOthers (x.place e.activation) s t) (writes : WritesStay s t)
    (ok : (w : Work) (k : ℕ) (y : Heap) (c : Counts) → IsWaiting m x s e.activation w k y c → RanOn m x s e.activation w (min (k + 4294967295) w.budget) y c end t b) where
  abbrev mine : IsEntry m x s h stand.before e
  mine = stand.entries at e found

  abbrev n : ℕ
  n = e.run.0

  abbrev run : Run
  run = mine.run

  abbrev whole : Run
  whole = record run { granted = run.budget }

  abbrev o : Outcome
  o = outcome_of m h n run run.budget

  run-found : run_at h n ≡ Some run
  run-found = entry-run m x s h stand.before e mine

  pub advanced-whole : RanOn m x s e.activation (work_of n run) run.budget (heap_of m h run.parent.0) (run_counts m h n run) end t b
  advanced-whole =
      let few = (run-sound m h stand.sound n run run-found).budget.1 in
      let all : min (run.granted + 4294967295) run.budget ≡ run.budget = omega arith in
      let S : ℕ → Type 0 = λ k. RanOn m x s e.activation (work_of n run) k (heap_of m h run.parent.0) (run_counts m h n run) end t b in
      subst S all (ok (work_of n run) run.granted (heap_of m h run.parent.0) (run_counts m h n run) (entry-waits m x law s waits known placed active budget next h stand at e found))

  pub carried : StandsFor m x (slice_set active at (record e { activation = b })) budget next t (restated h n whole)
  carried =
      let granted = (run-sound m h stand.sound n run run-found).granted in
      move-keeps m x law s t still known placed active budget next h stand at e found mine whole e.activation b end e.calls mine.calls (record {
        step = same_calls m h n run whole stand.sound run-found mine.is_so refl refl refl (omega arith) granted;
        goes_on = mine.is_so;
        place = refl;
        kept = kept;
        writes = writes;
        advanced = advanced-whole;
      })

  here : slice_get (slice_set active at (record e { activation = b })) at ≡ Some (record e { activation = b })
  here = slice_get-set_same active at (record e { activation = b }) (slice_get_within active at e found)

  -- the run of the entry in the history where it has its whole budget
  whole-is : (i : IsEntry m x t (restated h n whole) carried.before (record e { activation = b })) → i.run ≡ whole
  whole-is i = same_Some i.run whole (sym (entry-run m x t (restated h n whole) carried.before (record e { activation = b }) i) ∙ numbered-same h.start.next_run h.runs n run whole run-found)

  pub ended-there : StandsFor m x (remove (slice_set active at (record e { activation = b })) at) budget next t (restated h n (closed_run run))
  ended-there =
      let i = carried.entries at (record e { activation = b }) here in
      let left = leave-keeps m x t (slice_set active at (record e { activation = b })) budget next (restated h n whole) carried at (record e { activation = b }) here i Closed refl in
      let S : List Run → Type 0 = λ runs. StandsFor m x (remove (slice_set active at (record e { activation = b })) at) budget next t (record h { runs = runs }) in
      subst S (ap (λ (r : Run). with_numbered h.start.next_run (with_numbered h.start.next_run h.runs n whole) n (record r { state = Closed }))
      (whole-is i) ∙ numbered-twice h.start.next_run h.runs n whole (closed_run run)) left

  open-there : IsOpenAt t (restated h n whole) (x.place b) (carried.before + (carried.entries at (record e { activation = b }) here).index) (carried.entries at (record e { activation = b }) here).run
  open-there = entry-open m x t (restated h n whole) carried.before (record e { activation = b }) carried.sound carried.forks (carried.entries at (record e { activation = b }) here)

  pub may-publish : MayPublish t e.parent (x.place b)
  may-publish =
      let i = carried.entries at (record e { activation = b }) here in
      let w = open-there in
      let parent : e.parent ≡ i.run.parent = i.parent in
      let row : slice_get t.versions e.parent.0 ≡ Some w.parent = ap (λ (p : VersionNo). slice_get t.versions p.0) parent ∙ w.parent_found in
      record {
        there = slice_get_within t.versions e.parent.0 w.parent row;
        forked = if-some (λ r. IsOpenFork t (x.place b) r.place) (slice_get t.versions e.parent.0) w.parent row (record { index = carried.before + i.index; row = w.row });
      }

  is-ended : IsEnded m t (restated h n (closed_run run)) ended-there.before n (closed_run run) (x.place b)
  is-ended =
      let i = carried.entries at (record e { activation = b }) here in
      let w = open-there in
      let adv = advanced-whole in
      let step = closing m h n run stand.sound run-found mine.is_so in
      let one = carried.forks.many in
      let two = ended-there.forks.many in
      let len_one : length (restated h n whole).runs ≡ length h.runs = numbered-length h.start.next_run h.runs n whole in
      let len_two : length (restated h n (closed_run run)).runs ≡ length h.runs = numbered-length h.start.next_run h.runs n (closed_run run) in
      let same : carried.before ≡ ended-there.before = omega arith in
      let number : n ≡ h.start.next_run + i.index = i.number in
      let place : x.place b ≡ x.place e.activation = adv.place in
      record {
        closed = closed-publishable m h n run stand.sound run-found mine.is_so;
        index = i.index;
        number = number;
        found = restated-run m h n i.index run (closed_run run) step number;
        from = w.parent.place;
        row = ap (λ k. slice_get t.forks (k + i.index)) (sym same) ∙ w.row;
        has = subst t.has (sym place) (kept.keeps.grows.has (x.place e.activation) (placed (x.place e.activation) (entry-writable m x s h stand.before e known stand.sound stand.forks mine)));
        heap = ap t.heap place ∙ adv.heap ∙ ap (λ y. (m.outcome (work_of n run) run.budget y).heap) (sym (heap_of-restated m h n run (closed_run run) run.parent.0 stand.sound step));
      }

  -- ---- the answer

  module _ (known_t : IsVersioned t) (placed_t : (p : P) → t.writable p → t.has p) (u : State P R) (still_u : SurvivesOthers x t u) (printed : List ℤ)
      (is_printed : printed ≡ x.printed b) (r : Reply) (same : Type 0) (stays : same → (Q : State P R → Type 0) → Q t → Q u) where
    abbrev Result : RunNo → Type 0
    Result number = StandsFor m x (remove (slice_set active at (record e { activation = b })) at) budget next u (closed m h number.0) × (r ≡ close_reply m h number (run_at h number.0))

    -- what there is to show, by how the run ended
    finish : (z : Ended) → o.end ≡ z → StandsFor m x (remove (slice_set active at (record e { activation = b })) at) budget next u
        (with_version (restated h n (closed_run run)) n run.parent z) → r ≡ ended (version_count h) o.printed z → Result e.run
    finish z is stands reply =
        let S : History → Type 0 = λ y. StandsFor m x (remove (slice_set active at (record e { activation = b })) at) budget next u y in (
          subst S (ap (with_version (restated h n (closed_run run)) n run.parent) (sym is) ∙ sym (closed-is m h n run run-found)) stands,
          reply ∙ ap (ended (version_count h) o.printed) (sym is) ∙ ap (close_reply m h e.run) (sym run-found),
        )

    by-end : (z : Ended) → o.end ≡ z → Settled t e.parent e.run (x.place b) printed z r u same → Result e.run
    by-end Done is w =
        let parent : e.parent ≡ run.parent = mine.parent in
        let d : Published t run.parent e.run (x.place b) w.0 u = let S : VersionNo → Type 0 = λ p. Published t p e.run (x.place b) w.0 u in subst S parent w.1 in
        let stands = publish-keeps m x t u still_u known_t placed_t (remove (slice_set active at (record e { activation = b })) at) budget next
        (restated h n (closed_run run)) ended-there n (closed_run run) (x.place b) w.0 is-ended d in
        let number : w.0.0 ≡ version_count h = d.number ∙ ended-there.versions.many in
        finish Done is stands (w.2 ∙ ap (λ (v : ℕ). answer.Version printed (record { 0 = v })) number
        ∙ ap (λ ns. answer.Version ns (record { 0 = version_count h })) (is_printed ∙ advanced-whole.printed))
    by-end (Trapped trap) is w =
        finish (Trapped trap) is (stays w.0 (λ y. StandsFor m x (remove (slice_set active at (record e { activation = b })) at) budget next y (restated h n (closed_run run))) ended-there)
        (w.1 ∙ ap (λ ns. answer.Trapped ns trap) (is_printed ∙ advanced-whole.printed))
    by-end Stopped is w =
        finish Stopped is (stays w.0 (λ y. StandsFor m x (remove (slice_set active at (record e { activation = b })) at) budget next y (restated h n (closed_run run))) ended-there)
        (w.1 ∙ ap answer.Answer (is_printed ∙ advanced-whole.printed))

    pub closed-answers : (number : RunNo) → e.run ≡ number → Settled t e.parent number (x.place b) printed end r u same → Result number
    closed-answers number is settled =
        let at_entry : Settled t e.parent e.run (x.place b) printed end r u same = let S : RunNo → Type 0 = λ k. Settled t e.parent k (x.place b) printed end r u same in subst S (sym is) settled in
        subst Result is (by-end end (sym advanced-whole.is_end) at_entry)
