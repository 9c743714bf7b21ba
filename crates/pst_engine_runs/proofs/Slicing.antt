-- What a slice of an open run needs, and what it answers.
use Rattle.std.proofs.Common.{◌≡◌, inl, inr, ℕ, ◌+◌, ◌<◌, List, [], ◌∷◌, ◌++◌, length, min, refl, ap, sym, ◌∙◌, subst, arith, slice_get, get_or, Option, Some, length-append}
use Rattle.std.proofs.lemmas.Option.{slice_get_read}
use Rattle.std.specs.Prelude.{slice_set, IfSome, Result, Ok, Err, IfOk, OnErr}
use Rattle.pst_base.specs.declared.names.RunNo.{RunNo}
use Rattle.pst_base.specs.declared.names.Counts.{Counts}
use Rattle.pst_base.specs.Heap.{Heap}
use Rattle.pst_program.specs.declared.meaning.Ended.{Ended}
use Rattle.pst_versions.specs.State.{State, WritesStay, Unchanged, IsVersioned, Forked, ForkRefused}
use Rattle.pst_history.specs.declared.history.NamedCall.{NamedCall}
use Rattle.pst_history.specs.declared.history.Run.{Run}
use Rattle.pst_history.specs.Meaning.{Meaning, Work, IsLawful, CanBeDone, with_calls}
use Rattle.pst_history.specs.History.{History, run_at, work_of, heap_of, run_counts, counts_of, with_run, granted_more, called_more, step_reply, stepped}
use Rattle.pst_history.proofs.Steps.{run-sound}
use Rattle.pst_history.proofs.Sound.{run-ready}
use Rattle.pst_history.proofs.After.{granting, calling, more_fits}
use Rattle.pst_history.proofs.Room.{counts-few}
use Rattle.pst_machine.specs.declared.activation.Activation.{Activation}
use Rattle.pst_engine_runs.specs.declared.entry.OpenEntry.{OpenEntry}
use Rattle.pst_machine_steps.specs.Fields.{KeepsOthers}
use Rattle.pst_machine.specs.Advance.{HasFewCounts}
use Rattle.pst_engine_runs.specs.Runs.{Runs, IsWaiting, MayAdd, RanOn, StandingWaits, SurvivesOthers}
use Rattle.pst_engine_runs.specs.Stands.{HoldsVersions, IsEntry, StandsFor, VersionsStay, IsRunAt, MayCall}
use Rattle.pst_engine_runs.proofs.Parts.{other_heap, not_version, entry-run, entry-writable}
use Rattle.pst_engine_runs.proofs.Moving.{IsMove, move-keeps}
use Rattle.pst_history.specs.declared.history.TheConstants.{CALLS}

-- ---- versions that stay

pub stay-refl : {P R : Type 0} (s : State P R) → IsVersioned s → VersionsStay s s
stay-refl s known = record { rows = refl; has = λ k row q. (known.places k row q).has; heaps = λ k row q. refl }

pub stay-slice : {P R : Type 0} (s t : State P R) (at : P) → IsVersioned s → s.writable at → KeepsOthers at s t → VersionsStay s t
stay-slice s t at known writable kept = record {
  rows = kept.keeps.versions;
  has = λ k row q. kept.keeps.grows.has row.place (known.places k row q).has;
  heaps = λ k row q. other_heap s t at row.place kept.others (known.places k row q).has (not_version s known at writable k row q);
}

pub stay-unchanged : {P R : Type 0} (s t : State P R) → IsVersioned s → Unchanged s t → VersionsStay s t
stay-unchanged s t known same = record {
  rows = same.keeps.versions;
  has = λ k row q. same.keeps.grows.has row.place (known.places k row q).has;
  heaps = λ k row q. same.heaps row.place (known.places k row q).has;
}

pub stay-forked : {P R : Type 0} (s t : State P R) (from place : P) → IsVersioned s → Forked s from place t → VersionsStay s t
stay-forked s t from place known f = record {
  rows = f.versions;
  has = λ k row q. f.grows.has row.place (known.places k row q).has;
  heaps = λ k row q. f.heaps row.place (known.places k row q).has;
}

pub stay-refused : {P R : Type 0} (s t : State P R) → IsVersioned s → ForkRefused s t → VersionsStay s t
stay-refused s t known f = record {
  rows = f.versions;
  has = λ k row q. f.grows.has row.place (known.places k row q).has;
  heaps = λ k row q. f.heaps row.place (known.places k row q).has;
}

pub stay-trans : {P R : Type 0} (s t u : State P R) → VersionsStay s t → VersionsStay t u → VersionsStay s u
stay-trans s t u a b = record {
  rows = b.rows ∙ a.rows;
  has = λ k row q. b.has k row (ap (λ rows. slice_get rows k) a.rows ∙ q);
  heaps = λ k row q. b.heaps k row (ap (λ rows. slice_get rows k) a.rows ∙ q) ∙ a.heaps k row q;
}

-- what holds holds where a result is an error
pub on-err : {X E Q : Type 0} (r : Result X E) → Q → OnErr r Q
on-err (Ok v) q = _
on-err (Err w) q = q

pub if-ok-map : {X E : Type 0} {V W : X → Type 0} (r : Result X E) → IfOk r V → ((v : X) → V v → W v) → IfOk r W
if-ok-map (Ok v) p f = f v p
if-ok-map (Err w) p f = _

-- so they are those of the same history
pub stay-holds : {P R : Type 0} (m : Meaning) (s t : State P R) (h : History) → VersionsStay s t → HoldsVersions m s h → HoldsVersions m t h
stay-holds m s t h stay holds = record {
  many = ap (λ rows. length rows) stay.rows ∙ holds.many;
  versions = λ k row q.
      let was = ap (λ rows. slice_get rows k) (sym stay.rows) ∙ q in
      record { has = stay.has k row was; heap = stay.heaps k row was ∙ (holds.versions k row was).heap };
  given = λ i v row q r. holds.given i v row q (ap (λ rows. slice_get rows (i + 1)) (sym stay.rows) ∙ r);
  rows = λ i v row q r. holds.rows i v row q (ap (λ rows. slice_get rows (length h.start.heaps + i)) (sym stay.rows) ∙ r);
}

-- ---- slices

-- the entry at an index
pub entry-at : {H P R : Type 0} (xs : List (OpenEntry H R P)) (i : ℕ) (e : OpenEntry H R P) → i < length xs → e ≡ get_or xs i e → slice_get xs i ≡ Some e
entry-at xs i e below is = slice_get_read xs (length xs) i e refl below is

pub run-is : {H P R : Type 0} (active : List (OpenEntry H R P)) (at : ℕ) (e : OpenEntry H R P) (run : RunNo) → slice_get active at ≡ Some e → IsRunAt active at run → e.run ≡ run
run-is {H = H} {P = P} {R = R} active at e run found is = let Q : Option (OpenEntry H R P) → Type 0 = λ o. IfSome o (λ f. f.run ≡ run) in subst Q found is

module _ {H P R : Type 0} (m : Meaning) (x : Runs P R (Activation H R P)) (law : IsLawful m) (s : State P R) where
  pub room : (active : List (OpenEntry H R P)) (budget next : ℕ) (h : History) → StandsFor m x active budget next s h → HasFewCounts s
  room active budget next h stand =
      let few = counts-few m law h stand.sound in
      let r : s.counts.records ≡ (counts_of m h).records = ap (λ c. c.records) stand.counts in
      let p : s.counts.pointer_writes ≡ (counts_of m h).pointer_writes = ap (λ c. c.pointer_writes) stand.counts in
      let v : s.counts.value_writes ≡ (counts_of m h).value_writes = ap (λ c. c.value_writes) stand.counts in
      record { records = omega (arith, few.records, r); pointer_writes = omega (arith, few.pointer_writes, p); value_writes = omega (arith, few.value_writes, v) }

  module _ (waits : StandingWaits x s) (known : IsVersioned s) (placed : (p : P) → s.writable p → s.has p) (active : List (OpenEntry H R P))
      (budget next : ℕ) (h : History) (stand : StandsFor m x active budget next s h) (at : ℕ) (e : OpenEntry H R P) (found : slice_get active at ≡ Some e) where
    abbrev mine : IsEntry m x s h stand.before e
    mine = stand.entries at e found

    -- the run of the entry
    abbrev pub the_run : Run
    the_run = mine.run

    pub the_run-found : run_at h e.run.0 ≡ Some the_run
    the_run-found = entry-run m x s h stand.before e mine

    pub entry-waits : IsWaiting m x s e.activation (work_of e.run.0 the_run) the_run.granted (heap_of m h the_run.parent.0) (run_counts m h e.run.0 the_run)
    entry-waits = record {
      ready = run-ready m law h stand.sound e.run.0 the_run the_run-found;
      granted_within = (run-sound m h stand.sound e.run.0 the_run the_run-found).granted;
      waits = waits e.activation (work_of e.run.0 the_run) the_run.granted (heap_of m h the_run.parent.0) (run_counts m h e.run.0 the_run) mine.stands;
    }

    pub writes-there : s.writable (x.place e.activation)
    writes-there = entry-writable m x s h stand.before e known stand.sound stand.forks mine

    pub slice-stays : (t : State P R) (a : Activation H R P) → x.place a ≡ x.place e.activation → KeepsOthers (x.place a) s t → VersionsStay s t
    slice-stays t a same kept = stay-slice s t (x.place a) known (subst s.writable (sym same) writes-there) kept

    -- one call more
    pub call-ready : (c : NamedCall) → MayCall m h e.run.0 c → CanBeDone m (with_calls (work_of e.run.0 the_run) (c ∷ [])) (heap_of m h the_run.parent.0)
    call-ready c may =
        let ready = run-ready m law h stand.sound e.run.0 the_run the_run-found in
        record { well_formed = ready.well_formed; older = ready.older; work = inl (more_fits m the_run.calls c (run-sound m h stand.sound e.run.0 the_run the_run-found).fits may.fits) }

    pub may-add : (c : NamedCall) → MayCall m h e.run.0 c → MayAdd m x s e.activation (work_of e.run.0 the_run) the_run.granted (heap_of m h the_run.parent.0) (run_counts m h e.run.0 the_run) c
    may-add c may = record { stands = mine.stands; ready = call-ready c may; writable = inr writes-there }

    pub called-waits : (c : NamedCall) (a : Activation H R P) → MayCall m h e.run.0 c
        → ((w : Work) (k : ℕ) (y : Heap) (counts : Counts) → MayAdd m x s e.activation w k y counts c → x.waits a s (with_calls w (c ∷ [])) k y counts)
        → IsWaiting m x s a (work_of e.run.0 (called_more c the_run)) the_run.granted (heap_of m h the_run.parent.0) (run_counts m h e.run.0 the_run)
    called-waits c a may added = record {
      ready = call-ready c may;
      granted_within = (run-sound m h stand.sound e.run.0 the_run the_run-found).granted;
      waits = added (work_of e.run.0 the_run) the_run.granted (heap_of m h the_run.parent.0) (run_counts m h e.run.0 the_run) (may-add c may);
    }

    pub few-calls : (c : NamedCall) → MayCall m h e.run.0 c → e.calls < CALLS
    few-calls c may = let had = mine.calls in let less = may.room the_run the_run-found in omega arith

    module _ (t : State P R) (still : SurvivesOthers x s t) where
      -- a slice of the run with its calls
      pub granted-keeps : (run : RunNo) → e.run ≡ run → (charges : ℕ) (b : Activation H R P) (end : Ended) → KeepsOthers (x.place e.activation) s t → WritesStay s t
          → ((w : Work) (k : ℕ) (y : Heap) (c : Counts) → IsWaiting m x s e.activation w k y c → RanOn m x s e.activation w (min (k + charges) w.budget) y c end t b)
          → StandsFor m x (slice_set active at (record e { activation = b })) budget next t (with_run h run.0 (granted_more charges) (run_at h run.0))
          × (stepped run end ≡ step_reply m h run (granted_more charges) (run_at h run.0))
      granted-keeps run number charges b end kept writes ok =
          let r = the_run in
          let adv = ok (work_of e.run.0 r) r.granted (heap_of m h r.parent.0) (run_counts m h e.run.0 r) entry-waits in
          let move : IsMove m x law s t still known placed h e r (granted_more charges r) e.activation b end = record {
            step = granting m h e.run.0 r charges stand.sound the_run-found mine.is_so;
            goes_on = mine.is_so;
            place = refl;
            kept = kept;
            writes = writes;
            advanced = adv;
          } in
          let all = move-keeps m x law s t still known placed active budget next h stand at e found mine (granted_more charges r) e.activation b end e.calls mine.calls move in
          let both : StandsFor m x (slice_set active at (record e { activation = b })) budget next t
          (with_run h e.run.0 (granted_more charges) (run_at h e.run.0))
          × (stepped e.run end ≡ step_reply m h e.run (granted_more charges) (run_at h e.run.0)) = (
            subst (λ o. StandsFor m x (slice_set active at (record e { activation = b })) budget next t (with_run h e.run.0 (granted_more charges) o)) (sym the_run-found) all,
            ap (stepped e.run) adv.is_end ∙ ap (step_reply m h e.run (granted_more charges)) (sym the_run-found),
          ) in
          subst (λ (n : RunNo). StandsFor m x (slice_set active at (record e { activation = b })) budget next t
          (with_run h n.0 (granted_more charges) (run_at h n.0)) × (stepped n end ≡ step_reply m h n (granted_more charges) (run_at h n.0))) number both

      -- a slice of the run with one call more
      pub called-keeps : (run : RunNo) → e.run ≡ run → (c : NamedCall) (calls : ℕ) → calls ≡ e.calls + 1 → (a b : Activation H R P) (end : Ended)
          → MayCall m h e.run.0 c → x.place a ≡ x.place e.activation → KeepsOthers (x.place a) s t → WritesStay s t
          → IsWaiting m x s a (work_of e.run.0 (called_more c the_run)) the_run.granted (heap_of m h the_run.parent.0) (run_counts m h e.run.0 the_run)
          → ((w : Work) (k : ℕ) (y : Heap) (counts : Counts) → IsWaiting m x s a w k y counts → RanOn m x s a w (min (k + 0) w.budget) y counts end t b)
          → StandsFor m x (slice_set active at (record e { calls = calls; activation = b })) budget next t
          (with_run h run.0 (called_more c) (run_at h run.0)) × (stepped run end ≡ step_reply m h run (called_more c) (run_at h run.0))
      called-keeps run number c calls count a b end may place kept writes waiting ok =
          let r = the_run in
          let new = called_more c r in
          let y = heap_of m h r.parent.0 in
          let granted = (run-sound m h stand.sound e.run.0 r the_run-found).granted in
          let none : min (r.granted + 0) r.budget ≡ r.granted = omega arith in
          let adv : RanOn m x s a (work_of e.run.0 new) r.granted y (run_counts m h e.run.0 r) end t b =
          subst (λ k. RanOn m x s a (work_of e.run.0 new) k y (run_counts m h e.run.0 r) end t b) none (ok (work_of e.run.0 new) r.granted y (run_counts m h e.run.0 r) waiting) in
          let move : IsMove m x law s t still known placed h e r new a b end = record {
            step = calling m h e.run.0 r c stand.sound the_run-found mine.is_so (may.room r the_run-found) may.fits;
            goes_on = mine.is_so;
            place = place;
            kept = kept;
            writes = writes;
            advanced = adv;
          } in
          let one : length (r.calls ++ c ∷ []) ≡ length r.calls + 1 = length-append r.calls (c ∷ []) in
          let had = mine.calls in
          let all = move-keeps m x law s t still known placed active budget next h stand at e found mine new a b end calls (omega arith) move in
          let both : StandsFor m x (slice_set active at (record e { calls = calls; activation = b })) budget next t
          (with_run h e.run.0 (called_more c) (run_at h e.run.0)) × (stepped e.run end ≡ step_reply m h e.run (called_more c) (run_at h e.run.0)) = (
            subst (λ o. StandsFor m x (slice_set active at (record e { calls = calls; activation = b })) budget next t (with_run h e.run.0 (called_more c) o)) (sym the_run-found) all,
            ap (stepped e.run) adv.is_end ∙ ap (step_reply m h e.run (called_more c)) (sym the_run-found),
          ) in
          subst (λ (n : RunNo). StandsFor m x (slice_set active at (record e { calls = calls; activation = b })) budget next t
          (with_run h n.0 (called_more c) (run_at h n.0)) × (stepped n end ≡ step_reply m h n (called_more c) (run_at h n.0))) number both
