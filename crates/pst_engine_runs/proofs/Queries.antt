-- A query: a run at the place of a version, which changes nothing and is thrown away.
use Rattle.std.proofs.Common.{◌≡◌, inr, inl, ℕ, ◌+◌, ◌<◌, ◌^◌, List, ℤ, [], ◌∷◌, min, refl, ap, sym, ◌∙◌, subst, arith, zero, suc, slice_get, Option, Some}
use Rattle.std.specs.Prelude.{IsTrue, IfSome}
use Rattle.std.specs.FinMap.{get}
use Rattle.pst_base.specs.declared.names.Kind.{Kind}
use Rattle.pst_base.specs.declared.names.RunNo.{RunNo}
use Rattle.pst_base.specs.Heap.{Heap}
use Rattle.pst_program.specs.declared.meaning.Ended.{Ended}
use Rattle.pst_program.specs.Outcome.{Outcome, no_counts}
use Rattle.pst_script.specs.declared.command.Call.{Call}
use Rattle.pst_versions.specs.declared.rows.VersionRow.{VersionRow}
use Rattle.pst_versions.specs.State.{State, IsSound, IsVersioned, WritesStay, Unchanged}
use Rattle.pst_history.specs.declared.history.NamedCall.{NamedCall}
use Rattle.pst_history.specs.Meaning.{Meaning, Work, IsLawful, CanBeDone, AllFit, fits_one}
use Rattle.pst_history.specs.History.{History, work_of, heap_of, outcome_of, next_run, new_run, call_of, queried, queried_as}
use Rattle.pst_history.specs.Accepted.{IsAccepted}
use Rattle.pst_history.proofs.Sound.{next-before, older-more}
use Rattle.pst_machine.specs.declared.activation.Activation.{Activation}
use Rattle.pst_engine_runs.specs.declared.entry.OpenEntry.{OpenEntry}
use Rattle.pst_engine_runs.specs.Runs.{Runs, IsFreeFor, MayAdd, IsWaiting, RanOn, SurvivesOthers}
use Rattle.pst_engine_runs.specs.Stands.{StandsFor}
use Rattle.pst_engine_runs.proofs.NewRuns.{row-at, begins-at}
use Rattle.pst_program.specs.Laws.{IsOlder}
use Rattle.pst_engine_runs.proofs.Parts.{versions-kept, forks-kept, entry-writable, entry-kept, unchanged-alone}

single : (kinds : List ℕ → Option (List Kind)) (c : NamedCall) → IsTrue (fits_one (kinds c.procedure) c.arguments) → AllFit kinds (c ∷ [])
single kinds c fits zero d e = let P : NamedCall → Type 0 = λ x. IsTrue (fits_one (kinds x.procedure) x.arguments) in subst P (let same : c ≡ d = cc in same) fits
single kinds c fits (suc i) d e = absurd (cc)

module _ {H P R : Type 0} (m : Meaning) (x : Runs P R (Activation H R P)) (law : IsLawful m) (s : State P R) (sound : IsSound s)
    (active : List (OpenEntry H R P)) (budget : ℕ) (run : RunNo) (h : History) (stand : StandsFor m x active budget run.0 s h) (call : Call)
    (accepted : IsAccepted h (m.query call.procedure) call)
    (place : P) (at : IfSome (slice_get s.versions call.version.0) (λ row. row.place ≡ place)) where
  abbrev work : Work
  work = record { run = run; calls = call_of call ∷ []; budget = budget }

  row : (r : VersionRow P) × (slice_get s.versions call.version.0 ≡ Some r) × (r.place ≡ place)
  row = let many = stand.versions.many in let there = accepted.there in row-at s.versions call.version.0 place (omega arith) at

  pub query-has : s.has place
  query-has = subst s.has row.2 (stand.versions.versions call.version.0 row.0 row.1).has

  pub query-closed : IsVersioned s → (a : Activation H R P) → x.place a ≡ place → ¬ (s.writable (x.place a))
  query-closed versions a is w = (versions.places call.version.0 row.0 row.1).closed (subst s.writable (is ∙ sym row.2) w)

  pub query-heap : s.heap place ≡ heap_of m h call.version.0
  query-heap = ap s.heap (sym row.2) ∙ (stand.versions.versions call.version.0 row.0 row.1).heap

  pub query-begins : IsFreeFor m s place run
  query-begins = begins-at m x s active budget run.0 h stand sound place query-has run refl

  pub query-fits : AllFit m.query (call_of call ∷ [])
  query-fits = single m.query (call_of call) accepted.fits

  query-ready : CanBeDone m work (s.heap place)
  query-ready =
      let before = next-before m law h stand.sound call.version.0 accepted.there in
      let Q : Heap → Type 0 = λ y. CanBeDone m work y in
      let same = stand.same_next in
      subst Q (sym query-heap) (record { well_formed = before.well_formed; older = older-more (heap_of m h call.version.0) (next_run h) run.0 (omega arith) before.older; work = inr query-fits })

  pub query-may-add : (a : Activation H R P) → x.stands a s (record { run = run; calls = []; budget = budget }) 0 (s.heap place) no_counts
      → MayAdd m x s a (record { run = run; calls = []; budget = budget }) 0 (s.heap place) no_counts (call_of call)
  query-may-add a stands = record { stands = stands; ready = query-ready; writable = inl accepted.fits }

  pub query-waits : (a : Activation H R P) → x.waits a s work 0 (s.heap place) no_counts → IsWaiting m x s a work 0 (s.heap place) no_counts
  query-waits a waits = record { ready = query-ready; granted_within = omega arith; waits = waits }

  -- the answer
  pub query-answers : (t : State P R) (a b : Activation H R P) (end : Ended) → budget < 2 ^ 32
      → RanOn m x s a work (min (0 + 4294967295) budget) (s.heap place) no_counts end t b → (printed : List ℤ) → printed ≡ x.printed b
      → queried printed end ≡ queried_as (outcome_of m h (next_run h) (new_run h call.version (call_of call ∷ [])) h.budget)
  query-answers t a b end less adv printed is =
      let all : min (0 + 4294967295) budget ≡ budget = omega arith in
      let y = heap_of m h call.version.0 in
      let o : Outcome = m.outcome work budget y in
      let same : m.outcome work (min (0 + 4294967295) budget) (s.heap place) ≡ o = ap (λ k. m.outcome work k (s.heap place)) all ∙ ap (m.outcome work budget) query-heap in
      let one : queried printed end ≡ queried_as o = ap (λ ns. queried ns end) (is ∙ adv.printed)
      ∙ ap (queried (m.outcome work (min (0 + 4294967295) budget) (s.heap place)).printed) adv.is_end ∙ ap queried_as same in
      let number : run.0 ≡ next_run h = stand.same_next in
      let theirs : Work = work_of (next_run h) (new_run h call.version (call_of call ∷ [])) in
      let works : work ≡ theirs = ap (λ (k : ℕ). record work { run = record { 0 = k } }) number ∙ ap (λ (k : ℕ). record theirs { budget = k }) stand.same_budget in
      one ∙ ap (λ w. queried_as (m.outcome w budget y)) works ∙ ap (λ (k : ℕ). queried_as (m.outcome theirs k y)) stand.same_budget

-- ---- what a query leaves

module _ {H P R : Type 0} (m : Meaning) (x : Runs P R (Activation H R P)) (s t : State P R) (still : SurvivesOthers x s t) (known : IsVersioned s) (placed : (p : P) → s.writable p → s.has p) where
  pub read-keeps : (active : List (OpenEntry H R P)) (budget next : ℕ) (h : History) → StandsFor m x active budget next s h → Unchanged s t → WritesStay s t → StandsFor m x active budget next t h
  read-keeps active budget next h stand same writes =
      let keeps = same.keeps in
      let calls = stand.calls in
      let same_calls = keeps.fork_calls in
      let same_spent = keeps.grows.spent in
      record {
        sound = stand.sound;
        same_budget = stand.same_budget;
        same_next = stand.same_next;
        shape = keeps.grows.shape ∙ stand.shape;
        counts = same.counts ∙ stand.counts;
        calls = omega arith;
        older = λ p has. subst (λ y. IsOlder y next) (sym (same.heaps p (keeps.back p has))) (stand.older p (keeps.back p has));
        rooted = λ q zero other. let free = stand.rooted q zero other in record { fresh = λ p has. ap (λ y. get y q) (same.heaps p (keeps.back p has)) ∙ free.fresh p (keeps.back p has) };
        versions = versions-kept m s t h keeps.versions keeps.grows.has (λ k row q. same.heaps row.place (stand.versions.versions k row q).has) stand.versions;
        before = stand.before;
        forks = forks-kept s t h stand.before keeps.versions keeps.forks stand.forks;
        many = stand.many;
        entries = λ j e q.
            let old = stand.entries j e q in
            let has = placed (x.place e.activation) (entry-writable m x s h stand.before e known stand.sound stand.forks old) in
            entry-kept m x s t h stand.before h.runs h.versions e old old.found refl still (unchanged-alone s t (x.place e.activation) e.run same writes has)
            (ap (λ rows. slice_get rows (stand.before + old.index)) keeps.forks ∙ old.fork_found);
        all = stand.all;
        apart = stand.apart;
      }
