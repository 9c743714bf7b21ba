-- Meanings that are the same but for the lines of traps give the same histories.
use Rattle.std.proofs.Common.{◌≡◌, ℕ, ◌+◌, Option, Some, None, List, [], ◌∷◌, ◌++◌, refl, ap, ◌∙◌, subst}
use Rattle.std.specs.Prelude.{get_or}
use Rattle.pst_base.specs.Counts.{counts_plus}
use Rattle.pst_base.specs.Heap.{Heap, initial_heap}
use Rattle.pst_base.specs.declared.names.VersionNo.{VersionNo}
use Rattle.pst_program.specs.declared.meaning.Ended.{Ended}
use Rattle.pst_script.specs.declared.command.Command.{Command}
use Rattle.pst_script.specs.declared.command.Command.TheVariants as command
use Rattle.pst_history.specs.declared.history.Run.{Run}
use Rattle.pst_history.specs.declared.history.Descent.{Descent}
use Rattle.pst_history.specs.Meaning.{Meaning, kinds_refusal}
use Rattle.pst_history.specs.History.{History, numbered, work_of, made_by, made, heaps_from, heaps_of, heap_of, run_counts, counts_of, outcome_of, first}
use Rattle.pst_history.specs.History.{call_refusal, runs_refusal, open_refusal, run_refusal, calls_refusal, refusal, run_at, next_run, call_of, opened}
use Rattle.pst_history.specs.History.{with_run, closed_run, with_version, parent_of, end_of, closed, changed, unless, after}
use Rattle.pst_history.proofs.Sums.{counted-same}
use Rattle.pst_history_laws.specs.Alike.{EndedAlike, BothDone, BothStopped, BothTrapped, OutcomeAlike, MeaningAlike}
use Rattle.pst_history_laws.specs.LawsLines.{HistoryLaw}

module _ (m n : Meaning) (a : MeaningAlike m n) where
  made-same : (k : ℕ) (o : Option Run) (y : Heap) → made_by m k o y ≡ made_by n k o y
  made-same k None y = refl
  made-same k (Some r) y = (a.outcome (work_of k r) r.budget y).heap

  heaps-same : (f : ℕ) (runs : List Run) (heaps : List Heap) (versions : List Descent) → heaps_from m f runs heaps versions ≡ heaps_from n f runs heaps versions
  heaps-same f runs heaps [] = refl
  heaps-same f runs heaps (v ∷ versions) =
      let r = numbered f runs v.run.0 in
      let one : made m f runs heaps v ≡ made n f runs heaps v = ap (λ s. made_by m v.run.0 r (get_or heaps v.parent.0 (initial_heap s))) a.shape
      ∙ made-same v.run.0 r (get_or heaps v.parent.0 (initial_heap n.shape)) in
      ap (λ y. heaps_from m f runs (heaps ++ y ∷ []) versions) one ∙ heaps-same f runs (heaps ++ made n f runs heaps v ∷ []) versions

  module _ (h : History) where
    heaps-are : heaps_of m h ≡ heaps_of n h
    unfolding heaps_of
    heaps-are = heaps-same h.start.next_run h.runs h.start.heaps h.versions

    heap-is : (k : ℕ) → heap_of m h k ≡ heap_of n h k
    heap-is k = ap (λ heaps. get_or heaps k (initial_heap m.shape)) heaps-are ∙ ap (λ s. get_or (heaps_of n h) k (initial_heap s)) a.shape

    outcome-is : (k : ℕ) (r : Run) (g : ℕ) → OutcomeAlike (outcome_of m h k r g) (outcome_of n h k r g)
    outcome-is k r g = subst (λ y. OutcomeAlike (outcome_of m h k r g) (n.outcome (work_of k r) g y)) (heap-is r.parent.0) (a.outcome (work_of k r) g (heap_of m h r.parent.0))

    counts-are : counts_of m h ≡ counts_of n h
    unfolding counts_of
    counts-are = ap (counts_plus h.start.counts) (counted-same (run_counts n h) (run_counts m h) h.start.next_run h.runs (λ i r e. (outcome-is (h.start.next_run + i) r r.granted).counts))

    refusals-are : (c : Command) → refusal m h c ≡ refusal n h c
    unfolding refusal
    refusals-are (command.Run call) = ap (λ k. first (call_refusal h k call) (runs_refusal h)) (a.proc call.procedure)
    refusals-are (command.Query call) = ap (λ k. call_refusal h k call) (a.query call.procedure)
    refusals-are (command.OpenRun call) = ap (λ k. first (call_refusal h k call) (first (runs_refusal h) (open_refusal h))) (a.proc call.procedure)
    refusals-are (command.OpenEmpty version) = refl
    refusals-are (command.CallRun run procedure arguments) = ap (λ k. first (kinds_refusal k arguments) (first (run_refusal h run) (calls_refusal h run))) (a.proc procedure)
    refusals-are (command.StepRun run charges) = refl
    refusals-are (command.CloseRun run) = refl
    refusals-are (command.DropRun run) = refl
    refusals-are (command.Budget charges) = refl
    refusals-are command.Versions = refl
    refusals-are command.Stats = refl

  version-same : (x y : Ended) → EndedAlike x y → (h : History) (k : ℕ) (p : VersionNo) → with_version h k p x ≡ with_version h k p y
  version-same x y BothDone h k p = refl
  version-same x y BothStopped h k p = refl
  version-same x y (BothTrapped t l j) h k p = refl

  closed-same : (h : History) (k : ℕ) → closed m h k ≡ closed n h k
  closed-same h k = on (run_at h k)
    where
      on : (o : Option Run) → with_version (with_run h k closed_run o) k (parent_of o) (end_of m h k o) ≡ with_version (with_run h k closed_run o) k (parent_of o) (end_of n h k o)
      on None = refl
      on (Some r) = version-same _ _ (outcome-is h k r r.budget).end (with_run h k closed_run (Some r)) k r.parent

  changed-same : (h : History) (c : Command) → changed m h c ≡ changed n h c
  changed-same h (command.Run call) = closed-same (opened h call.version (call_of call ∷ [])) (next_run h)
  changed-same h (command.Query call) = refl
  changed-same h (command.OpenRun call) = refl
  changed-same h (command.OpenEmpty version) = refl
  changed-same h (command.CallRun run procedure arguments) = refl
  changed-same h (command.StepRun run charges) = refl
  changed-same h (command.CloseRun run) = closed-same h run.0
  changed-same h (command.DropRun run) = refl
  changed-same h (command.Budget charges) = refl
  changed-same h command.Versions = refl
  changed-same h command.Stats = refl

  after-same : (h : History) (c : Command) → after m h c ≡ after n h c
  unfolding after
  after-same h c = ap (λ r. unless r (changed m h c) h) (refusals-are h c) ∙ ap (λ x. unless (refusal n h c) x h) (changed-same h c)

pub history_law : HistoryLaw
history_law m n h a = record { heaps = heaps-are m n a h; counts = counts-are m n a h; refusals = refusals-are m n a h; after_is = after-same m n a h }
