-- A slice of one open run: more charges, or more calls.
use Rattle.std.proofs.Common.{◌≡◌, ◌≢◌, inl, inr, ℕ, ◌+◌, List, length, refl, ap, sym, ◌∙◌, subst, arith, slice_get, Some, true}
use Rattle.std.specs.Prelude.{slice_set, count_by}
use Rattle.std.proofs.lemmas.Option.{same_Some}
use Rattle.std.proofs.lemmas.List.{length-set}
use Rattle.pst_base.specs.declared.names.Counts.{Counts}
use Rattle.pst_base.specs.declared.names.VersionNo.{VersionNo}
use Rattle.pst_base.specs.declared.names.RunNo.{RunNo}
use Rattle.pst_base.specs.Heap.{Heap}
use Rattle.pst_program.specs.declared.meaning.Ended.{Ended}
use Rattle.pst_program.specs.Sound.{CountsBelow}
use Rattle.pst_program.specs.Laws.{IsOlder}
use Rattle.pst_versions.specs.State.{State, WritesStay, IsVersioned}
use Rattle.pst_history.specs.declared.history.Run.{Run}
use Rattle.pst_base.specs.Counts.{counts_plus}
use Rattle.pst_history.specs.Meaning.{Meaning, IsLawful, CanBeDone}
use Rattle.pst_history.specs.History.{History, run_at, is_open, work_of, heap_of, run_counts, counts_of, numbered, with_numbered}
use Rattle.pst_history.proofs.Lists.{slice_get-after_set, slice_get-set_cases}
use Rattle.pst_history.proofs.Sums.{unit_of}
use Rattle.pst_history.proofs.Numbered.{numbered-is, numbered-at, numbered-of, numbered-other, numbered-same, numbered-length, numbered-count, numbered-within, at-number}
use Rattle.pst_history.proofs.Steps.{IsRestated, restated, restated-sound, heap_of-restated, counts_of-restated}
use Rattle.pst_history.proofs.Sound.{older-more, run-ready}
use Rattle.pst_history.proofs.After.{restated-counts}
use Rattle.pst_machine.specs.declared.activation.Activation.{Activation}
use Rattle.pst_engine_runs.specs.declared.entry.OpenEntry.{OpenEntry}
use Rattle.pst_machine_steps.specs.Fields.{KeepsOthers}
use Rattle.pst_engine_runs.specs.Runs.{Runs, RanOn, SurvivesOthers}
use Rattle.pst_engine_runs.specs.Stands.{IsForkOf, HoldsForks, IsEntry, StandsFor}
use Rattle.pst_engine_runs.proofs.Parts.{counts_plus-cancel, slice-versions, versions-same, forks-kept, entry-writable, entries-apart, entry-kept, slice-alone}

-- ---- the history's side

-- the forks of the runs, where one of these is restated
pub forks-restated : {P R : Type 0} (m : Meaning) (s : State P R) (h : History) (before n : ℕ) (old new : Run) → IsRestated m h n old new
    → HoldsForks s h before → HoldsForks s (restated h n new) before
forks-restated {P = P} {R = R} m s h before n old new step holds =
    let first = h.start.next_run in
    record {
      given = holds.given;
      many = holds.many ∙ ap (λ k. before + k) (sym (numbered-length first h.runs n new));
      forks = λ i r q. elim (numbered-of first h.runs n new r i q) as (λ _. IsForkOf s (restated h n new) (before + i) (first + i) r) [
        | inl was ↦ same r (holds.forks i r was)
        | inr w ↦
            let found : slice_get h.runs i ≡ Some old = sym (numbered-is first h.runs i) ∙ ap (λ k. run_at h k) w.0 ∙ step.found in
            let f = holds.forks i old found in
            let parent : r.parent ≡ old.parent = ap (λ y. y.parent) w.1 ∙ step.parent in
            record {
              row = f.row;
              found = f.found;
              parent = f.parent;
              parent_found = ap (λ p. slice_get s.versions p.0) parent
                  ∙ f.parent_found;
              from = f.from;
              published = f.published;
              has_version = f.has_version;
            }
      ];
      placed = λ i v row q r. let w = holds.placed i v row q r in record { index = w.index; number = w.number; fork = w.fork; found = w.found; place = w.place };
    }
  where
    same : (r : Run) {k i : ℕ} → IsForkOf s h k i r → IsForkOf s (restated h n new) k i r
    same r f = record { row = f.row; found = f.found; parent = f.parent; parent_found = f.parent_found; from = f.from; published = f.published; has_version = f.has_version }

-- another run stays where it is in the list
pub other-run : (m : Meaning) (h : History) (n : ℕ) (old new : Run) → IsRestated m h n old new → (i : ℕ) (r : Run) → slice_get h.runs i ≡ Some r
    → h.start.next_run + i ≢ n → slice_get (restated h n new).runs i ≡ Some r
other-run m h n old new step i r q ne =
    let first = h.start.next_run in
    sym (numbered-is first (with_numbered first h.runs n new) i) ∙ numbered-other first h.runs n (first + i) new ne ∙ numbered-is first h.runs i ∙ q

pub restated-run : (m : Meaning) (h : History) (n i : ℕ) (old new : Run) → IsRestated m h n old new → n ≡ h.start.next_run + i → slice_get (restated h n new).runs i ≡ Some new
restated-run m h n i old new step number =
    let first = h.start.next_run in
    sym (numbered-is first (with_numbered first h.runs n new) i) ∙ ap (numbered first (with_numbered first h.runs n new)) (sym number) ∙ numbered-same first h.runs n old new step.found

-- ---- a slice

module _ {H P R : Type 0} (m : Meaning) (x : Runs P R (Activation H R P)) (law : IsLawful m) (s t : State P R) (still : SurvivesOthers x s t)
    (known : IsVersioned s) (placed : (p : P) → s.writable p → s.has p) where
  -- what a slice of an entry's run is: with these calls, it goes on under this grant
  pub record IsMove (h : History) (e : OpenEntry H R P) (old new : Run) (a b : Activation H R P) (end : Ended) : Type 0 where
    pub step : IsRestated m h e.run.0 old new
    pub goes_on : is_open new ≡ true
    pub place : x.place a ≡ x.place e.activation
    pub kept : KeepsOthers (x.place a) s t
    pub writes : WritesStay s t
    pub advanced : RanOn m x s a (work_of e.run.0 new) new.granted (heap_of m h old.parent.0) (run_counts m h e.run.0 old) end t b

  -- an entry of the list after a slice, as it was before
  record OldEntry (active : List (OpenEntry H R P)) (j : ℕ) (f : OpenEntry H R P) : Type 0 where
    old : OpenEntry H R P
    found : slice_get active j ≡ Some old
    run : old.run.0 ≡ f.run.0

  old-entry : (active : List (OpenEntry H R P)) (i : ℕ) (e mine : OpenEntry H R P) (j : ℕ) (f : OpenEntry H R P) → slice_get active i ≡ Some e
      → mine.run.0 ≡ e.run.0 → slice_get (slice_set active i mine) j ≡ Some f → OldEntry active j f
  old-entry active i e mine j f found run q =
      elim (slice_get-after_set active i mine f j q) as (λ _. OldEntry active j f) [
        | inl w ↦ record { old = f; found = w.0; run = refl }
        | inr w ↦ record { old = e; found = ap (slice_get active) w.0 ∙ found; run = sym run ∙ ap (λ y. y.run.0) (sym w.1) }
      ]

  pub move-keeps : (active : List (OpenEntry H R P)) (budget next : ℕ) (h : History) (stand : StandsFor m x active budget next s h) (i : ℕ)
      (e : OpenEntry H R P) → slice_get active i ≡ Some e → (o : IsEntry m x s h stand.before e) (new : Run) (a b : Activation H R P) (end : Ended)
      (calls : ℕ) → calls ≡ length new.calls
      → IsMove h e o.run new a b end → StandsFor m x (slice_set active i (record { run = e.run; parent = e.parent; calls = calls; activation = b })) budget next t (restated h e.run.0 new)
  move-keeps active budget next h stand i e found o new a b end calls number move =
      let n = e.run.0 in
      let first = h.start.next_run in
      let old = o.run in
      let step = move.step in
      let adv = move.advanced in
      let keeps = move.kept.keeps in
      let at = x.place a in
      let sound = stand.sound in
      let mine : OpenEntry H R P = record { run = e.run; parent = e.parent; calls = calls; activation = b } in
      let len : length (with_numbered first h.runs n new) ≡ length h.runs = numbered-length first h.runs n new in
      let heaps : (k : ℕ) → heap_of m (restated h n new) k ≡ heap_of m h k = λ k. heap_of-restated m h n old new k sound step in
      let writable : s.writable at = subst s.writable (sym move.place) (entry-writable m x s h stand.before e known sound stand.forks o) in
      let w = work_of n new in
      let y = heap_of m h old.parent.0 in
      let parent : heap_of m h old.parent.0 ≡ heap_of m h new.parent.0 = ap (λ (p : VersionNo). heap_of m h p.0) (sym step.parent) in
      let C : Heap → Counts = λ z. (m.outcome w new.granted z).counts in
      let more : CountsBelow (run_counts m h n old) (C y) = let Q : Counts → Type 0 = λ c. CountsBelow (run_counts m h n old) c in
      subst Q (ap C (sym parent)) (restated-counts m law h n old new sound step) in
      let same_next = stand.same_next in
      let same_calls = keeps.fork_calls in
      let same_spent = keeps.grows.spent in
      let fork_calls = stand.calls in
      let within = numbered-within first h.runs n old step.found in
      let n_below = within.1 in
      let n_late = within.0 in
      let open_old : unit_of (is_open old) ≡ 1 = ap unit_of step.was_open in
      let open_new : unit_of (is_open new) ≡ 1 = ap unit_of move.goes_on in
      let count : count_by is_open (with_numbered first h.runs n new) + unit_of (is_open old) ≡ count_by is_open h.runs + unit_of (is_open new) =
      numbered-count first h.runs is_open n old new step.found in
      let many = stand.many in
      let same_length : length (slice_set active i mine) ≡ length active = length-set active i mine in
      record {
        sound = restated-sound m h n old new sound step;
        same_budget = stand.same_budget;
        same_next = omega arith;
        shape = keeps.grows.shape ∙ stand.shape;
        counts = counts_plus-cancel t.counts (counts_of m (restated h n new)) (run_counts m h n old)
            (adv.counts ∙ ap (λ c. counts_plus c (C y)) stand.counts ∙ ap (λ z. counts_plus (counts_of m h) (C z)) parent ∙ sym (counts_of-restated m h n old new sound step));
        calls = omega arith;
        older = λ p has.
            let was = keeps.back p has in
            elim (move.kept.others.stay p was) as (λ _. IsOlder (t.heap p) next) [
              | inl q ↦ subst (λ z. IsOlder (t.heap z) next) (sym q)
                  (subst (λ z. IsOlder z next) (sym adv.heap)
                  (older-more (m.outcome w new.granted y).heap (n + 1) next (omega arith)
                  (law.names w new.granted y (subst (λ z. CanBeDone m w z) (heaps new.parent.0 ∙ sym parent)
                  (run-ready m law (restated h n new) (restated-sound m h n old new sound step) n new (numbered-same first h.runs n old new step.found))))))
              | inr q ↦ subst (λ z. IsOlder z next) (sym q) (stand.older p was)
            ];
        rooted = λ q zero other. adv.names q (λ same. let is : q.run.0 ≡ n = ap (λ (r : RunNo). r.0) same in let first_later = sound.start.next in
            omega (arith, is, zero, first_later, n_late)) (stand.rooted q zero other);
        versions = versions-same m t h (with_numbered first h.runs n new) heaps (slice-versions m s t h at known writable move.kept stand.versions);
        before = stand.before;
        forks = forks-restated m t h stand.before n old new step (forks-kept s t h stand.before keeps.versions keeps.forks stand.forks);
        many = omega arith;
        entries = λ j f q. elim (slice_get-after_set active i mine f j q) as (λ _. IsEntry m x t (restated h n new) stand.before f) [
          | inl u ↦
              let other = stand.entries j f u.0 in
              let ne : f.run.0 ≢ n = λ same. u.1 (stand.apart j i f e u.0 found same) in
              let elsewhere : x.place f.activation ≡ at → ⊥ = λ same. ne (entries-apart m x s h stand.before known f e other o (same ∙ move.place)) in
              entry-kept m x s t h stand.before (with_numbered first h.runs n new) h.versions f other
              (other-run m h n old new step other.index other.run other.found (λ same. ne (other.number ∙ same)))
              (heaps other.run.parent.0) still
              (slice-alone m x s t a b w new.granted y (run_counts m h n old) end (x.place f.activation) f.run move.kept move.writes adv more
              (placed (x.place f.activation) (entry-writable m x s h stand.before f known sound stand.forks other)) elsewhere ne)
              (ap (λ rows. slice_get rows (stand.before + other.index)) keeps.forks ∙ other.fork_found)
          | inr u ↦ subst (λ z. IsEntry m x t (restated h n new) stand.before z) (sym u.1) (record {
            run = new;
            index = o.index;
            number = o.number;
            found = restated-run m h n o.index old new step o.number;
            is_so = move.goes_on;
            parent = o.parent ∙ sym step.parent;
            calls = number;
            stands = let S : Heap → Type 0 = λ z. x.stands b t w new.granted z (m.outcome w new.granted z).counts in subst S (parent ∙ sym (heaps new.parent.0)) adv.stands;
            fork = o.fork;
            fork_found = ap (λ rows. slice_get rows (stand.before + o.index)) keeps.forks ∙ o.fork_found;
            place = o.place ∙ sym move.place ∙ sym adv.place;
          })
        ];
        all = λ k r q is_so. everyone k r q is_so;
        apart = λ j k f g p q same.
            let one = old-entry active i e mine j f found refl p in
            let two = old-entry active i e mine k g found refl q in
            stand.apart j k one.old two.old one.found two.found (one.run ∙ same ∙ sym two.run);
      }
    where
      here : (k : ℕ) (j : ℕ) (f : OpenEntry H R P) → slice_get active j ≡ Some f → f.run.0 ≡ k → (l : ℕ) × (g : OpenEntry H R P)
          × (slice_get (slice_set active i (record { run = e.run; parent = e.parent; calls = calls; activation = b })) l ≡ Some g) × (g.run.0 ≡ k)
      here k j f q run =
          let mine : OpenEntry H R P = record { run = e.run; parent = e.parent; calls = calls; activation = b } in
          elim (slice_get-set_cases active i mine f j q) [
            | inl u ↦ (j, f, u, run)
            | inr u ↦ (j, mine, u.1, let one : e ≡ f = same_Some e f (sym found ∙ ap (slice_get active) (sym u.0) ∙ q) in ap (λ z. z.run.0) one ∙ run)
          ]

      everyone : (k : ℕ) (r : Run) → run_at (restated h e.run.0 new) k ≡ Some r → is_open r ≡ true → (l : ℕ) × (g : OpenEntry H R P)
          × (slice_get (slice_set active i (record { run = e.run; parent = e.parent; calls = calls; activation = b })) l ≡ Some g) × (g.run.0 ≡ k)
      everyone k r q is_so =
          let first = h.start.next_run in
          let w = at-number first (with_numbered first h.runs e.run.0 new) k r q in
          elim (numbered-of first h.runs e.run.0 new r w.index w.found) [
            | inl was ↦ let found_r : run_at h k ≡ Some r = numbered-at first h.runs k w.index w.number ∙ was in
                let old = stand.all k r found_r is_so in here k old.0 old.1 old.2 old.3
            | inr u ↦ here k i e found (sym (w.number ∙ u.0))
          ]
