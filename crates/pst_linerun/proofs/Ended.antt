-- What a run line makes of a history: the run more, closed, and its version where it is done.
use Rattle.std.proofs.Common.{◌≡◌, ℕ, ◌+◌, List, [], ◌∷◌, ◌++◌, length, refl, ap, sym, ◌∙◌, arith, Some, None, length-append}
use Rattle.pst_base.specs.declared.names.Counts.{Counts}
use Rattle.pst_base.specs.Counts.{counts_plus}
use Rattle.pst_base.proofs.CountLemmas.{same_counts}
use Rattle.pst_program.specs.Outcome.{Outcome}
use Rattle.pst_script.specs.declared.command.Call.{Call}
use Rattle.pst_script.specs.declared.command.Command.TheVariants as command
use Rattle.pst_history.specs.declared.history.NamedCall.{NamedCall}
use Rattle.pst_history.specs.declared.history.Run.{Run}
use Rattle.pst_history.specs.Meaning.{Meaning, IsLawful}
use Rattle.pst_history.specs.History.{History, refusal, changed, opened, closed, closed_run, new_run, next_run, call_of, run_at, run_counts, counts_of, heap_of}
use Rattle.pst_history.specs.History.{outcome_of, work_of, made_by, version_count, with_version}
use Rattle.pst_history.specs.Accepted.{MayOpen}
use Rattle.pst_history.specs.Sound.{IsSoundHistory}
use Rattle.pst_history.proofs.After.{Extends, extends-trans, opened-extends, closed-extends, closing, closed-is, may_open-sound, run_at-new, run-opens}
use Rattle.pst_history.proofs.Heaps.{heap_of-new}
use Rattle.pst_history.proofs.Numbered.{numbered-same, numbered-length}
use Rattle.pst_history.proofs.Steps.{IsRestated, restated, restated-sound, heap_of-restated, counts_of-restated, heap_of-opened, counts_of-opened, published, counts_of-published}

-- what was counted before and with the whole budget, where the same was counted on both sides
more_counts : (old new none whole : Counts) → counts_plus new none ≡ counts_plus (counts_plus old none) whole → new ≡ counts_plus old whole
more_counts old new none whole e =
    let r : new.records + none.records ≡ old.records + none.records + whole.records = ap (λ (x : Counts). x.records) e in
    let p : new.pointer_writes + none.pointer_writes ≡ old.pointer_writes + none.pointer_writes + whole.pointer_writes = ap (λ (x : Counts). x.pointer_writes) e in
    let v : new.value_writes + none.value_writes ≡ old.value_writes + none.value_writes + whole.value_writes = ap (λ (x : Counts). x.value_writes) e in
    same_counts new (counts_plus old whole) (omega (arith, r)) (omega (arith, p)) (omega (arith, v))

module _ (m : Meaning) (law : IsLawful m) (h : History) (sound : IsSoundHistory m h) (call : Call) (none : refusal m h (command.Run call) ≡ None) where
  abbrev pub calls : List NamedCall
  calls = call_of call ∷ []

  abbrev pub number : ℕ
  number = next_run h

  abbrev pub run : Run
  run = new_run h call.version calls

  -- what the run comes to
  abbrev pub outcome : Outcome
  outcome = m.outcome (work_of number run) h.budget (heap_of m h call.version.0)

  abbrev begun : History
  begun = opened h call.version calls

  -- the history in which the run is closed, and has no version yet
  abbrev pub shut : History
  shut = restated begun number (closed_run run)

  pub may : MayOpen m h call.version calls
  may = run-opens m h call none

  begun-sound : IsSoundHistory m begun
  begun-sound = may_open-sound m h call.version calls sound may

  found : run_at begun number ≡ Some run
  found = run_at-new h call.version calls

  step : IsRestated m begun number run (closed_run run)
  step = closing m begun number run begun-sound found refl

  pub shut-sound : IsSoundHistory m shut
  shut-sound = restated-sound m begun number run (closed_run run) begun-sound step

  -- the run works on the heap of its version
  same_outcome : outcome_of m begun number run run.budget ≡ outcome
  same_outcome = ap (m.outcome (work_of number run) h.budget) (heap_of-opened m h call.version calls call.version.0 sound)

  pub changed-is : changed m h (command.Run call) ≡ with_version shut number call.version outcome.end
  changed-is = closed-is m begun number run found ∙ ap (λ (o : Outcome). with_version shut number call.version o.end) same_outcome

  pub changed-extends : Extends m h (changed m h (command.Run call))
  changed-extends = extends-trans m h begun (closed m begun number) (opened-extends m h call.version calls sound may.room may.there may.few may.fits)
      (closed-extends m law begun number run begun-sound found refl)

  pub shut-next : next_run shut ≡ next_run h + 1
  shut-next =
      let one : length (h.runs ++ run ∷ []) ≡ length h.runs + 1 = length-append h.runs (run ∷ []) in
      let two : length shut.runs ≡ length (h.runs ++ run ∷ []) = numbered-length h.start.next_run (h.runs ++ run ∷ []) number (closed_run run) in
      omega arith

  pub shut-heaps : (k : ℕ) → heap_of m shut k ≡ heap_of m h k
  shut-heaps k = heap_of-restated m begun number run (closed_run run) k begun-sound step ∙ heap_of-opened m h call.version calls k sound

  pub shut-counts : counts_of m shut ≡ counts_plus (counts_of m h) outcome.counts
  shut-counts =
      let nothing = run_counts m h number run in
      let same : run_counts m begun number run ≡ nothing = ap (λ y. (m.outcome (work_of number run) 0 y).counts) (heap_of-opened m h call.version calls call.version.0 sound) in
      let whole : run_counts m begun number (closed_run run) ≡ outcome.counts = ap (λ (o : Outcome). o.counts) same_outcome in
      more_counts (counts_of m h) (counts_of m shut) nothing outcome.counts
      (ap (counts_plus (counts_of m shut)) (sym same) ∙ counts_of-restated m begun number run (closed_run run) begun-sound step
      ∙ ap (λ c. counts_plus c (run_counts m begun number (closed_run run))) (counts_of-opened m h call.version calls sound)
      ∙ ap (counts_plus (counts_plus (counts_of m h) nothing)) whole)

  abbrev pub grown : History
  grown = published shut number call.version

  pub grown-counts : counts_of m grown ≡ counts_plus (counts_of m h) outcome.counts
  grown-counts = counts_of-published m shut number call.version shut-sound ∙ shut-counts

  -- the new version has the heap of the outcome
  pub grown-heap : heap_of m grown (version_count h) ≡ outcome.heap
  grown-heap =
      let there : run_at shut number ≡ Some (closed_run run) = numbered-same h.start.next_run (h.runs ++ run ∷ []) number run (closed_run run) found in
      heap_of-new m shut (record { run = record { 0 = number }; parent = call.version })
      ∙ ap (λ o. made_by m number o (heap_of m shut call.version.0)) there
      ∙ ap (λ y. (m.outcome (work_of number run) h.budget y).heap) (shut-heaps call.version.0)
