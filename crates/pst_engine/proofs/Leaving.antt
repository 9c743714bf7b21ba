-- An open run is no longer open: it was dropped, or carried to its end.
use Rattle.std.proofs.Common.{◌≡◌, ◌≢◌, inl, inr, ℕ, ◌+◌, List, length, refl, ap, sym, ◌∙◌, subst, arith, slice_get, Some, true, false}
use Rattle.std.specs.Prelude.{remove, count_by}
use Rattle.std.proofs.lemmas.List.Edits.{length-remove}
use Rattle.std.proofs.lemmas.Option.{same_Some, slice_get_within}
use Rattle.pst_base.specs.Heap.{Heap}
use Rattle.pst_versions.specs.State.{State}
use Rattle.pst_history.specs.declared.history.RunState.{RunState}
use Rattle.pst_history.specs.declared.history.Run.{Run}
use Rattle.pst_history.specs.Meaning.{Meaning}
use Rattle.pst_history.specs.History.{History, run_at, is_open, is_open_state, work_of, heap_of, run_counts, counts_of, with_numbered}
use Rattle.pst_history.specs.Sound.{IsSoundHistory}
use Rattle.pst_history.proofs.Lists.{slice_get-after_remove, same_left, slice_get-kept}
use Rattle.pst_history.proofs.Sums.{unit_of}
use Rattle.pst_history.proofs.Numbered.{numbered-at, numbered-of, numbered-same, numbered-length, numbered-count, at-number}
use Rattle.pst_history.proofs.Steps.{IsRestated, restated, restated-sound, heap_of-restated, counts_of-restated}
use Rattle.pst_history.proofs.After.{same_calls, run-granted}
use Rattle.pst_machine.specs.declared.activation.Activation.{Activation}
use Rattle.pst_engine_runs.specs.declared.entry.OpenEntry.{OpenEntry}
use Rattle.pst_engine_runs.specs.Runs.{Runs}
use Rattle.pst_engine_runs.specs.Stands.{IsEntry, StandsFor}
use Rattle.pst_engine_runs.proofs.Parts.{counts_plus-cancel, versions-same, entry-run}
use Rattle.pst_engine_runs.proofs.Moving.{forks-restated, other-run}

module _ {H P R : Type 0} (m : Meaning) (x : Runs P R (Activation H R P)) (s : State P R) where
  pub leaving : (h : History) (n : ℕ) (r : Run) (state : RunState) → (sound : IsSoundHistory m h) → run_at h n ≡ Some r → is_open r ≡ true → IsRestated m h n r (record r { state = state })
  leaving h n r state sound found is_so = same_calls m h n r (record r { state = state }) sound found is_so refl refl refl (run-granted m h n r sound found) (omega arith)

  pub leave-keeps : (active : List (OpenEntry H R P)) (budget next : ℕ) (h : History) (stand : StandsFor m x active budget next s h) (i : ℕ)
      (e : OpenEntry H R P) → slice_get active i ≡ Some e → (o : IsEntry m x s h stand.before e) (state : RunState) → is_open_state state ≡ false
      → StandsFor m x (remove active i) budget next s (restated h e.run.0 (record o.run { state = state }))
  leave-keeps active budget next h stand i e found o state shut =
      let n = e.run.0 in
      let first = h.start.next_run in
      let new : Run = record o.run { state = state } in
      let sound = stand.sound in
      let step : IsRestated m h n o.run new = leaving h n o.run state sound (entry-run m x s h stand.before e o) o.is_so in
      let len : length (with_numbered first h.runs n new) ≡ length h.runs = numbered-length first h.runs n new in
      let heaps : (k : ℕ) → heap_of m (restated h n new) k ≡ heap_of m h k = λ k. heap_of-restated m h n o.run new k sound step in
      let same_next = stand.same_next in
      let open_old : unit_of (is_open o.run) ≡ 1 = ap unit_of step.was_open in
      let open_new : unit_of (is_open new) ≡ 0 = ap unit_of shut in
      let count : count_by is_open (with_numbered first h.runs n new) + unit_of (is_open o.run) ≡ count_by is_open h.runs + unit_of (is_open new) =
      numbered-count first h.runs is_open n o.run new step.found in
      let many = stand.many in
      let fewer : length (remove active i) + 1 ≡ length active = length-remove active i (slice_get_within active i e found) in
      record {
        sound = restated-sound m h n o.run new sound step;
        same_budget = stand.same_budget;
        same_next = omega arith;
        shape = stand.shape;
        counts = stand.counts ∙ sym (counts_plus-cancel (counts_of m (restated h n new)) (counts_of m h) (run_counts m h n o.run) (counts_of-restated m h n o.run new sound step));
        calls = stand.calls;
        older = stand.older;
        rooted = stand.rooted;
        versions = versions-same m s h (with_numbered first h.runs n new) heaps stand.versions;
        before = stand.before;
        forks = forks-restated m s h stand.before n o.run new step stand.forks;
        many = omega arith;
        entries = λ j f q.
            let l = slice_get-after_remove active i j f q in
            let other = stand.entries l.index f l.found in
            let ne : f.run.0 ≢ n = λ same. l.other (stand.apart l.index i f e l.found found same) in
            let S : Heap → Type 0 = λ y. x.stands f.activation s (work_of f.run.0 other.run) other.run.granted y (m.outcome (work_of f.run.0 other.run) other.run.granted y).counts in
            record {
              run = other.run;
              index = other.index;
              number = other.number;
              found = other-run m h n o.run new step other.index other.run other.found (λ same. ne (other.number ∙ same));
              is_so = other.is_so;
              parent = other.parent;
              calls = other.calls;
              stands = subst S (sym (heaps other.run.parent.0)) other.stands;
              fork = other.fork;
              fork_found = other.fork_found;
              place = other.place;
            };
        all = λ k r q is_so. everyone k r q is_so;
        apart = λ j k f g p q same.
            let one = slice_get-after_remove active i j f p in
            let two = slice_get-after_remove active i k g q in
            same_left active i j k f g one two (stand.apart one.index two.index f g one.found two.found same);
      }
    where
      everyone : (k : ℕ) (r : Run) → run_at (restated h e.run.0 (record o.run { state = state })) k ≡ Some r → is_open r ≡ true → (l : ℕ)
          × (g : OpenEntry H R P) × (slice_get (remove active i) l ≡ Some g) × (g.run.0 ≡ k)
      everyone k r q is_so =
          let first = h.start.next_run in
          let n = e.run.0 in
          let new : Run = record o.run { state = state } in
          let w = at-number first (with_numbered first h.runs n new) k r q in
          elim (numbered-of first h.runs n new r w.index w.found) [
            | inl was ↦
                let found_r : run_at h k ≡ Some r = numbered-at first h.runs k w.index w.number ∙ was in
                let old = stand.all k r found_r is_so in
                let ne : old.0 ≢ i = λ same.
                let one : old.1 ≡ e = same_Some old.1 e (sym old.2 ∙ ap (slice_get active) same ∙ found) in
                let number : n ≡ k = ap (λ z. z.run.0) (sym one) ∙ old.3 in
                let here : run_at (restated h n new) k ≡ Some new = ap (run_at (restated h n new)) (sym number) ∙ numbered-same first h.runs n o.run new (entry-run m x s h stand.before e o) in
                let is : r ≡ new = same_Some r new (sym q ∙ here) in
                let closed : is_open r ≡ false = ap is_open is ∙ shut in
                cc (closed, is_so) in
                let kept = slice_get-kept active i old.0 old.1 old.2 ne in
                (kept.0, old.1, kept.1, old.3)
            | inr u ↦ absurd (let one : is_open r ≡ false = ap is_open u.1 ∙ shut in cc (one, is_so))
          ]
