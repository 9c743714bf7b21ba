-- A query on a version: it changes nothing, and takes no run number.
use Rattle.std.proofs.Common.{◌≡◌, inl, inr, ℕ, ◌<◌, List, ℤ, [], ◌∷◌, length, refl, ap, ◌∙◌, subst, arith, zero, suc, Option, Some, None, Bool, true, false}
use Rattle.std.specs.Prelude.{IsTrue, nat_lt, if◌then◌else◌}
use Rattle.std.proofs.lemmas.Bool.Decides.{nat_tests}
use Rattle.pst_base.specs.declared.names.Kind.{Kind}
use Rattle.pst_base.specs.declared.names.NodeId.{NodeId}
use Rattle.pst_base.specs.declared.names.RunNo.{RunNo}
use Rattle.pst_program.specs.declared.meaning.Ended.{Ended}
use Rattle.pst_script.specs.declared.command.Call.{Call}
use Rattle.pst_script.specs.declared.command.Command.TheVariants as command
use Rattle.pst_versions.specs.State.{State, IsSound, Unchanged}
use Rattle.pst_history.specs.Accepted.{IsAccepted}
use Rattle.pst_history.specs.declared.history.NamedCall.{NamedCall}
use Rattle.pst_history.specs.Meaning.{Meaning, IsLawful, Work, AllFit, fits_one}
use Rattle.pst_history.specs.History.{History, answered, call_of, heap_of, new_run, next_run, queried, queried_as, work_of}
use Rattle.pst_history.proofs.Accepting as accepting
use Rattle.pst_engine_runs.proofs.Slicing.{stay-holds}
use Rattle.pst_line.specs.declared.place.LinePlace.{LinePlace}
use Rattle.pst_line.specs.Store.{Stored, IsChain, Means, stamp}
use Rattle.pst_linerun.specs.Linear.{line_refusal}
use Rattle.pst_linerun.specs.Standing.{LineStands}
use Rattle.pst_linerun.specs.Carried.{CameTo, MayCarryOut, one_call}
use Rattle.pst_linerun.proofs.Holding.{few-counts, many-rows, name-free, none-writable, place-below, unchanged-stays, version-before, version-has, version-heap}
use Rattle.pst_linerun.proofs.Refusing.{query-accepted}

-- ---- the place of a version

pub some-place : (k n : ℕ) (o : Option LinePlace) → k < n → o ≡ (if nat_lt k n then Some (record { stamp = record { 0 = k } }) else None) → o ≡ Some (record { stamp = record { 0 = k } })
some-place k n o less is = is ∙ ap (λ (b : Bool). if b then Some (record { stamp = record { 0 = k } }) else None) (below k n less)
  where
    below : (k n : ℕ) → k < n → nat_lt k n ≡ true
    below k n less = grind (arith, nat_tests)

-- ---- the call

single : (kinds : List ℕ → Option (List Kind)) (c : NamedCall) → IsTrue (fits_one (kinds c.procedure) c.arguments) → AllFit kinds (c ∷ [])
single kinds c fits zero d e = let P : NamedCall → Type 0 = λ x. IsTrue (fits_one (kinds x.procedure) x.arguments) in subst P (let same : c ≡ d = cc in same) fits
single kinds c fits (suc i) d e = absurd (cc)

module _ (m : Meaning) (law : IsLawful m) (budget : ℕ) (run : RunNo) (s : State LinePlace NodeId) (stored : Stored) (h : History)
    (stand : LineStands m budget run.0 s stored h) (means : Means s stored) (chain : IsChain s) (sound : IsSound s)
    (call : Call) (accepted : line_refusal m h (command.Query call) ≡ None) where
  abbrev at : LinePlace
  at = record { stamp = record { 0 = call.version.0 } }

  is-accepted : IsAccepted h (m.query call.procedure) call
  is-accepted = accepting.query-accepted m h call (query-accepted m h call accepted)

  pub ask-below : call.version.0 < length s.versions
  ask-below = let there = is-accepted.there in let many = stand.versions.many in omega arith

  pub ask-may : MayCarryOut m s at run budget (call_of call)
  ask-may =
      let there = is-accepted.there in
      let before = version-before m law budget run.0 s stored h stand means chain call.version.0 there in
      record {
        free = record {
          sound = sound;
          shape = stand.shape;
          has =
              version-has m law budget run.0 s stored h stand means chain call.version.0 there;
          fresh =
              λ n same. name-free m law budget run.0 s stored h stand means chain n (ap (λ (r : RunNo). r.0) same);
        };
        ready = record { well_formed = before.well_formed; older = before.older; work = inr (single m.query (call_of call) is-accepted.fits) };
        writable = inl is-accepted.fits;
        few = few-counts m law budget run.0 s stored h stand means chain;
      }

  pub ask-closed : ¬ (s.writable at)
  ask-closed = none-writable m law budget run.0 s stored h stand means chain at

  outcome-is : m.outcome (one_call run budget (call_of call)) budget (s.heap at) ≡ m.outcome (work_of (next_run h) (new_run h call.version (call_of call ∷ []))) h.budget (heap_of m h call.version.0)
  outcome-is =
      let work = one_call run budget (call_of call) in
      let theirs : Work = work_of (next_run h) (new_run h call.version (call_of call ∷ [])) in
      let works : work ≡ theirs = ap (λ (k : ℕ). record work { run = record { 0 = k } }) stand.same_next ∙ ap (λ (k : ℕ). record theirs { budget = k }) stand.same_budget in
      ap (m.outcome work budget) (version-heap m law budget run.0 s stored h stand means chain call.version.0 is-accepted.there)
      ∙ ap (λ (w : Work). m.outcome w budget (heap_of m h call.version.0)) works
      ∙ ap (λ (k : ℕ). m.outcome theirs k (heap_of m h call.version.0)) stand.same_budget

  pub ask-reply : (t : State LinePlace NodeId) (printed : List ℤ) (end : Ended) → CameTo m s at (one_call run budget (call_of call)) printed end t
      → queried printed end ≡ answered m h (command.Query call)
  ask-reply t printed end came = ap (λ ns. queried ns end) came.printed_is
      ∙ ap (queried (m.outcome (one_call run budget (call_of call)) budget (s.heap at)).printed) came.end_is ∙ ap queried_as outcome-is

-- ---- what it leaves

module _ (m : Meaning) (law : IsLawful m) (budget next : ℕ) (s : State LinePlace NodeId) (stored : Stored) (h : History)
    (stand : LineStands m budget next s stored h) (means : Means s stored) (chain : IsChain s)
    (t : State LinePlace NodeId) (same : Unchanged s t) (stored_t : Stored) (means_t : Means t stored_t) where
  -- no run is open, since there is no further place
  still-closed : (o : Option ℕ) → stored_t.opened ≡ o → o ≡ None
  still-closed None e = refl
  still-closed (Some b) e =
      let place : LinePlace = record { stamp = record { 0 = stamp stored_t } } in
      let there : t.has place = (means_t.has place).1 (inr (record { begun = b; opened = e; newest = refl })) in
      let below = place-below m law budget next s stored h stand means chain place (same.keeps.back place there) in
      let many = many-rows t stored_t means_t in
      let rows : length t.versions ≡ length s.versions = ap (λ x. length x) same.keeps.versions in
      absurd (omega arith)

  pub read-closed : stored_t.opened ≡ None
  read-closed = still-closed stored_t.opened refl

  pub read-stands : stored_t.failed ≡ false → LineStands m budget next t stored_t h
  read-stands whole = record {
    sound = stand.sound;
    same_budget = stand.same_budget;
    same_next = stand.same_next;
    shape = same.keeps.grows.shape ∙ stand.shape;
    counts = same.counts ∙ stand.counts;
    versions = stay-holds m s t h (unchanged-stays s t chain same) stand.versions;
    none = read-closed;
    whole = whole;
  }
