-- The three steps of which each change of a history is made: a run more, another state of a run, a version more.
use Rattle.std.proofs.Common.{◌≡◌, ◌≢◌, inl, inr, ℕ, ◌+◌, ◌<◌, ◌≤◌, List, [], ◌∷◌, ◌++◌, length, refl, ap, sym, ◌∙◌, subst, arith, slice_get, Option, Some, None, true, false, length-append}
use Rattle.std.specs.Prelude.{count_by}
use Rattle.std.proofs.lemmas.Option.{same_Some}
use Rattle.pst_base.specs.declared.names.Counts.{Counts}
use Rattle.pst_base.specs.declared.names.VersionNo.{VersionNo}
use Rattle.pst_history.specs.declared.history.RunState.TheVariants.{Closed}
use Rattle.pst_history.specs.declared.history.NamedCall.{NamedCall}
use Rattle.pst_history.specs.declared.history.Run.{Run}
use Rattle.pst_history.specs.declared.history.Descent.{Descent}
use Rattle.pst_base.specs.Counts.{counts_plus}
use Rattle.pst_history.specs.Meaning.{Meaning, AllFit}
use Rattle.pst_history.specs.History.{Opening, History, made_by, numbered, run_at, heap_of, is_open, is_open_state, with_numbered, opened, new_run, next_run}
use Rattle.pst_history.specs.History.{version_count, work_of, run_counts, total_counts, counts_of}
use Rattle.pst_history.specs.Sound.{IsBudget, IsSoundHistory, IsSoundRun, IsSoundVersion, behind, made_below}
use Rattle.pst_history.proofs.Lists.{slice_get-of_append}
use Rattle.pst_history.proofs.Heaps.{heap_of-same, heap_of-more}
use Rattle.pst_base.proofs.CountLemmas.{counts_plus-assoc}
use Rattle.pst_history.proofs.Sums.{counted-append, counted-same, count_by-more, unit_of}
use Rattle.pst_history.proofs.Numbered.{at-number, numbered-within, numbered-before, numbered-append, numbered-other, numbered-length, numbered-of}
use Rattle.pst_history.proofs.Numbered.{numbered-count, numbered-sum, numbered-is, index-below}
use Rattle.pst_history.specs.declared.history.TheConstants.{RUNS, CALLS}

-- ---- makers

pub made_below-more : (o : Opening) (versions : List Descent) (v : Descent) (k : ℕ) → k < length o.heaps + length versions → made_below o (versions ++ v ∷ []) k ≡ made_below o versions k
made_below-more o versions v k less = ap (behind o.next_run) (numbered-append (length o.heaps) versions v k less)

pub made_below-given : (o : Opening) (versions : List Descent) (k : ℕ) → k < length o.heaps → made_below o versions k ≡ o.next_run
made_below-given o versions k less = ap (λ x. behind o.next_run (opt x)) (index-below (length o.heaps) k less)
  where
    opt : Option ℕ → Option Descent
    opt None = None
    opt (Some i) = slice_get versions i

pub made_below-is : (o : Opening) (versions : List Descent) (i : ℕ) (v : Descent) → slice_get versions i ≡ Some v → made_below o versions (length o.heaps + i) ≡ v.run.0 + 1
made_below-is o versions i v e = ap (behind o.next_run) (numbered-is (length o.heaps) versions i ∙ e)

pub made_below-next : (m : Meaning) (h : History) → IsSoundHistory m h → (k : ℕ) → made_below h.start h.versions k ≤ next_run h
made_below-next m h sound k = below (numbered (length h.start.heaps) h.versions k) refl
  where
    below : (o : Option Descent) → numbered (length h.start.heaps) h.versions k ≡ o → behind h.start.next_run o ≤ next_run h
    below None e = omega arith
    below (Some v) e =
        let w = at-number (length h.start.heaps) h.versions k v e in
        let s = sound.versions w.index v w.found in
        let within = numbered-within h.start.next_run h.runs v.run.0 s.run s.found in
        omega (arith, within.1)

-- ---- a run more

pub heap_of-opened : (m : Meaning) (h : History) (version : VersionNo) (calls : List NamedCall) (k : ℕ) → IsSoundHistory m h → heap_of m (opened h version calls) k ≡ heap_of m h k
heap_of-opened m h version calls k sound =
    heap_of-same m h (h.runs ++ new_run h version calls ∷ []) k (λ i v x e.
    let s = sound.versions i v e in
    ap (λ o. made_by m v.run.0 o x) (numbered-before h.start.next_run h.runs (new_run h version calls) v.run.0 s.run s.found ∙ sym s.found))

pub opened-sound : (m : Meaning) (h : History) (version : VersionNo) (calls : List NamedCall) → IsSoundHistory m h → next_run h < RUNS + 1
    → version.0 < version_count h → length calls ≤ CALLS → AllFit m.proc calls → IsSoundHistory m (opened h version calls)
opened-sound m h version calls sound room there few fits =
    let x = new_run h version calls in
    let one : length (h.runs ++ x ∷ []) ≡ length h.runs + 1 = length-append h.runs (x ∷ []) in
    let more : count_by is_open (h.runs ++ x ∷ []) ≡ count_by is_open h.runs + 1 = count_by-more is_open h.runs x in
    let old = sound.few_versions in
    record {
      start = sound.start;
      budget = sound.budget;
      few = omega arith;
      few_versions = omega arith;
      runs = λ i r e. elim (slice_get-of_append h.runs x r i e) as (λ _. IsSoundRun m h.start h.versions (h.start.next_run + i) r) [
        | inl q ↦ sound.runs i r q
        | inr q ↦ let P : Run → Type 0 = λ r. IsSoundRun m h.start h.versions (h.start.next_run + i) r in
            subst P (sym q.1) (let below = made_below-next m h sound version.0 in
            record { budget = sound.budget; granted = omega arith; version = there; older = omega (arith, q.0, below); few = few; fits = fits })
      ];
      versions = λ i v e. let s = sound.versions i v e in record
          { parent = s.parent; run = s.run; found = numbered-before h.start.next_run h.runs x v.run.0 s.run s.found; same = s.same; closed = s.closed };
      apart = sound.apart;
    }

pub counts_of-opened : (m : Meaning) (h : History) (version : VersionNo) (calls : List NamedCall) → IsSoundHistory m h
    → counts_of m (opened h version calls) ≡ counts_plus (counts_of m h) (run_counts m h (next_run h) (new_run h version calls))
unfolding counts_of
counts_of-opened m h version calls sound =
    let x = new_run h version calls in
    let first = h.start.next_run in
    let f : ℕ → Run → Counts = run_counts m h in
    let g : ℕ → Run → Counts = run_counts m (opened h version calls) in
    let same : total_counts g first (h.runs ++ x ∷ []) ≡ total_counts f first (h.runs ++ x ∷ []) =
    counted-same f g first (h.runs ++ x ∷ []) (λ i r e. ap (λ y. (m.outcome (work_of (first + i) r) r.granted y).counts)
    (heap_of-opened m h version calls r.parent.0 sound)) in
    ap (counts_plus h.start.counts) (same ∙ counted-append f first h.runs x) ∙ counts_plus-assoc h.start.counts (total_counts f first h.runs) (f (first + length h.runs) x)

-- ---- another state of an open run

-- a run that was open, and is to have another grant, more calls or another state
pub record IsRestated (m : Meaning) (h : History) (n : ℕ) (old new : Run) : Type 0 where
  pub found : run_at h n ≡ Some old
  pub was_open : is_open old ≡ true
  pub parent : new.parent ≡ old.parent
  pub budget : new.budget ≡ old.budget
  pub granted : new.granted ≤ new.budget
  pub more : old.granted ≤ new.granted
  pub added : List NamedCall
  pub calls : new.calls ≡ old.calls ++ added
  pub few : length new.calls ≤ CALLS
  pub fits : AllFit m.proc new.calls

abbrev pub restated : History → ℕ → Run → History
restated h n new = record h { runs = with_numbered h.start.next_run h.runs n new }

-- a version's run is not this one
pub not_open : (m : Meaning) (h : History) (n : ℕ) (old : Run) → IsSoundHistory m h → run_at h n ≡ Some old → is_open old ≡ true → (i : ℕ) (v : Descent) → slice_get h.versions i ≡ Some v → v.run.0 ≢ n
not_open m h n old sound found was_open i v e same =
    let s = sound.versions i v e in
    let one : s.run ≡ old = same_Some s.run old (sym s.found ∙ ap (λ k. run_at h k) same ∙ found) in
    let shut : is_open old ≡ false = ap is_open (sym one) ∙ ap is_open_state s.closed in
    cc (was_open, shut)

pub heap_of-restated : (m : Meaning) (h : History) (n : ℕ) (old new : Run) (k : ℕ) → IsSoundHistory m h → IsRestated m h n old new → heap_of m (restated h n new) k ≡ heap_of m h k
heap_of-restated m h n old new k sound step =
    heap_of-same m h (with_numbered h.start.next_run h.runs n new) k
    (λ i v x e. ap (λ o. made_by m v.run.0 o x) (numbered-other h.start.next_run h.runs n v.run.0 new
    (not_open m h n old sound step.found step.was_open i v e)))

pub restated-sound : (m : Meaning) (h : History) (n : ℕ) (old new : Run) → IsSoundHistory m h → IsRestated m h n old new → IsSoundHistory m (restated h n new)
restated-sound m h n old new sound step =
    let first = h.start.next_run in
    let len : length (with_numbered first h.runs n new) ≡ length h.runs = numbered-length first h.runs n new in
    let open_before : unit_of (is_open old) ≡ 1 = ap unit_of step.was_open in
    let count : count_by is_open (with_numbered first h.runs n new) + unit_of (is_open old) ≡ count_by is_open h.runs + unit_of (is_open new) =
    numbered-count first h.runs is_open n old new step.found in
    let most : unit_of (is_open new) ≤ 1 = elim (is_open new) as (λ b. unit_of b ≤ 1) [ true ↦ omega arith | false ↦ omega arith ] in
    let few = sound.few in
    let few_versions = sound.few_versions in
    record {
      start = sound.start;
      budget = sound.budget;
      few = omega arith;
      few_versions = omega arith;
      runs = λ i r e. elim (numbered-of first h.runs n new r i e) as (λ _. IsSoundRun m h.start h.versions (first + i) r) [
        | inl q ↦ sound.runs i r q
        | inr q ↦
            let was : slice_get h.runs i ≡ Some old = sym (numbered-is first h.runs i) ∙ ap (λ k. run_at h k) q.0 ∙ step.found in
            let s = sound.runs i old was in
            let same : old.parent ≡ new.parent = sym step.parent in
            let P : Run → Type 0 = λ x. IsSoundRun m h.start h.versions (first + i) x in
            subst P (sym q.1) (record {
              budget = subst IsBudget (sym step.budget) s.budget;
              granted = step.granted;
              version = let Q : VersionNo → Type 0 = λ p. p.0 < version_count h in subst Q same s.version;
              older = let Q : VersionNo → Type 0 = λ p. made_below h.start h.versions p.0 ≤ first + i in subst Q same s.older;
              few = step.few;
              fits = step.fits;
            })
      ];
      versions = λ i v e. let s = sound.versions i v e in record {
        parent = s.parent;
        run = s.run;
        found = numbered-other first h.runs n v.run.0 new
            (not_open m h n old sound step.found step.was_open i v e) ∙ s.found;
        same = s.same;
        closed = s.closed;
      };
      apart = sound.apart;
    }

pub counts_of-restated : (m : Meaning) (h : History) (n : ℕ) (old new : Run) → IsSoundHistory m h → IsRestated m h n old new
    → counts_plus (counts_of m (restated h n new)) (run_counts m h n old) ≡ counts_plus (counts_of m h) (run_counts m h n new)
unfolding counts_of
counts_of-restated m h n old new sound step =
    let first = h.start.next_run in
    let f : ℕ → Run → Counts = run_counts m h in
    let g : ℕ → Run → Counts = run_counts m (restated h n new) in
    let base = h.start.counts in
    let runs = with_numbered first h.runs n new in
    let same : total_counts g first runs ≡ total_counts f first runs =
    counted-same f g first runs (λ i r e. ap (λ y. (m.outcome (work_of (first + i) r) r.granted y).counts)
    (heap_of-restated m h n old new r.parent.0 sound step)) in
    ap (λ c. counts_plus (counts_plus base c) (f n old)) same ∙ sym (counts_plus-assoc base (total_counts f first runs) (f n old))
    ∙ ap (counts_plus base) (numbered-sum first h.runs f n old new step.found) ∙ counts_plus-assoc base (total_counts f first h.runs) (f n new)

-- ---- a version more

abbrev pub published : History → ℕ → VersionNo → History
published h n parent = record h { versions = h.versions ++ record { run = record { 0 = n }; parent = parent } ∷ [] }

pub record IsPublishable (h : History) (n : ℕ) (r : Run) : Type 0 where
  pub found : run_at h n ≡ Some r
  pub closed : r.state ≡ Closed
  pub room : version_count h + count_by is_open h.runs < next_run h
  pub new : (i : ℕ) (v : Descent) → slice_get h.versions i ≡ Some v → v.run.0 ≢ n

pub run-sound : (m : Meaning) (h : History) → IsSoundHistory m h → (n : ℕ) (r : Run) → run_at h n ≡ Some r → IsSoundRun m h.start h.versions n r
run-sound m h sound n r e =
    let w = at-number h.start.next_run h.runs n r e in
    let P : ℕ → Type 0 = λ k. IsSoundRun m h.start h.versions k r in
    subst P (sym w.number) (sound.runs w.index r w.found)

pub published-sound : (m : Meaning) (h : History) (n : ℕ) (r : Run) → IsSoundHistory m h → IsPublishable h n r → IsSoundHistory m (published h n r.parent)
published-sound m h n r sound step =
    let v : Descent = record { run = record { 0 = n }; parent = r.parent } in
    let one : length (h.versions ++ v ∷ []) ≡ length h.versions + 1 = length-append h.versions (v ∷ []) in
    let mine = run-sound m h sound n r step.found in
    let few = sound.few in
    let room = step.room in
    record {
      start = sound.start;
      budget = sound.budget;
      few = few;
      few_versions = omega arith;
      runs = λ i x e. let s = sound.runs i x e in let there = s.version in record {
        budget = s.budget;
        granted = s.granted;
        version = omega arith;
        older = let P : ℕ → Type 0 = λ k. k ≤ h.start.next_run + i in subst P (sym (made_below-more h.start h.versions v x.parent.0 s.version)) s.older;
        few = s.few;
        fits = s.fits;
      };
      versions = λ i x e. elim (slice_get-of_append h.versions v x i e) as (λ _. IsSoundVersion h.start h.runs (length h.start.heaps + i) x) [
        | inl q ↦ sound.versions i x q
        | inr q ↦ let P : Descent → Type 0 = λ y. IsSoundVersion h.start h.runs (length h.start.heaps + i) y in
            subst P (sym q.1) (let there = mine.version in record
            { parent = omega (arith, q.0, there); run = r; found = step.found; same = refl; closed = step.closed })
      ];
      apart = λ i j x y e f same. elim (slice_get-of_append h.versions v x i e) as (λ _. i ≡ j) [
        | inl p ↦ elim (slice_get-of_append h.versions v y j f) as (λ _. i ≡ j) [
          | inl q ↦ sound.apart i j x y p q same
          | inr q ↦ absurd (step.new i x p (ap (λ z. z.0) same ∙ ap (λ z. z.run.0) q.1))
        ]
        | inr p ↦ elim (slice_get-of_append h.versions v y j f) as (λ _. i ≡ j) [
          | inl q ↦ absurd (step.new j y q (ap (λ z. z.0) (sym same) ∙ ap (λ z. z.run.0) p.1))
          | inr q ↦ p.0 ∙ sym q.0
        ]
      ];
    }

pub counts_of-published : (m : Meaning) (h : History) (n : ℕ) (parent : VersionNo) → IsSoundHistory m h → counts_of m (published h n parent) ≡ counts_of m h
unfolding counts_of
counts_of-published m h n parent sound =
    let first = h.start.next_run in
    let f : ℕ → Run → Counts = run_counts m h in
    let g : ℕ → Run → Counts = run_counts m (published h n parent) in
    ap (counts_plus h.start.counts) (counted-same f g first h.runs
    (λ i r e. ap (λ y. (m.outcome (work_of (first + i) r) r.granted y).counts)
    (heap_of-more m h (record { run = record { 0 = n }; parent = parent }) r.parent.0 (sound.runs i r e).version)))
