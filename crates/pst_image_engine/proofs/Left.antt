-- What an engine leaves, as the rules of an image ask it.
use Rattle.std.proofs.Common.{◌≡◌, ◌≢◌, ◌⊎◌, ℕ, suc, ◌+◌, ◌-◌, ◌<◌, ◌≤◌, List, Some, length, refl, sym, ap, ◌∙◌, subst, inl, inr, ⊎_elim, arith, map}
use Rattle.std.specs.Prelude.{slice_get, ◌^◌}
use Rattle.std.specs.FinMap.{get}
use Rattle.std.proofs.lemmas.Bool.{cases_eq, cases_lt}
use Rattle.std.proofs.lemmas.List.{length-map}
use Rattle.pst_base.specs.declared.names.Name.{Name}
use Rattle.pst_base.specs.Name.{root_name}
use Rattle.pst_versions.specs.State.{ForkRow}
use Rattle.pst_versions.specs.declared.rows.VersionRow.{VersionRow}
use Rattle.pst_base.specs.declared.names.NodeId.{NodeId}
use Rattle.pst_base.specs.declared.names.RunNo.{RunNo}
use Rattle.pst_history.specs.declared.history.Descent.{Descent}
use Rattle.pst_history.specs.Meaning.{Meaning}
use Rattle.pst_history.specs.History.{History}
use Rattle.pst_machine.specs.declared.activation.Activation.{Activation}
use Rattle.pst_engine_runs.specs.Runs.{Runs}
use Rattle.pst_engine_runs.specs.declared.entry.OpenEntry.{OpenEntry}
use Rattle.pst_engine_runs.specs.Stands.{StandsFor}
use Rattle.pst_store_meaning.specs.declared.place.Place.{Place}
use Rattle.pst_store_meaning.specs.Arena.{heap_at}
use Rattle.pst_store_meaning.specs.Store.{Stored, IsStore, arena, begin_of, as_fork, state_of}
use Rattle.pst_store_meaning.proofs.Places.{slice_get-below, slice_get-map}
use Rattle.pst_store_meaning.proofs.HeapLaws.{heap_has}
use Rattle.pst_store_meaning.proofs.Born.{lives_first}
use Rattle.pst_image_engine.specs.Orders.{IsRunFork, AreInRunOrder}
use Rattle.pst_image_engine.specs.Left.{LeftOrderLaw, NamedLaw, LeftRulesLaw}
use Rattle.pst_image_engine.proofs.Versions.{run_order_law}
use Rattle.pst_program.specs.Sound.{CountsWithin}
use Rattle.pst_base.specs.declared.names.Counts.{Counts}
use Rattle.pst_image_meaning.proofs.Nodes.{slice_get-there}

module _ (H : Type 0) (m : Meaning) (x : Runs Place NodeId (Activation H NodeId Place)) (active : List (OpenEntry H NodeId Place)) (budget next : ℕ)
    (s : Stored) (h : History) (k : IsStore s) (stand : StandsFor m x active budget next (state_of s) h) where
  -- version v + 1 is one of the opening, and has one of the first forks
  record IsGiven (v : ℕ) (row : VersionRow Place) (index : ℕ) : Type 0 where
    early : v + 1 < length h.start.heaps
    there : slice_get s.versions (v + 1) ≡ Some row
    fork : index ≡ (stand.forks.given.given v row early there).index
    version : Descent
    found : slice_get h.start.versions v ≡ Some version
    run : row.run.0 ≡ version.run.0
    below : row.run.0 < h.start.next_run

  -- version v + 1 was made since, and has the fork of its run
  record IsLater (v : ℕ) (row : VersionRow Place) (index : ℕ) : Type 0 where
    late : ℕ
    number : suc v ≡ length h.start.heaps + late
    version : Descent
    found : slice_get h.versions late ≡ Some version
    run : row.run.0 ≡ version.run.0
    ordinal : ℕ
    taken : row.run.0 ≡ h.start.next_run + ordinal
    fork : index ≡ stand.before + ordinal

  record HasRunFork (v : ℕ) (row : VersionRow Place) : Type 0 where
    is : IsRunFork s next row
    kind : IsGiven v row is.index ⊎ IsLater v row is.index

  given_fork : (v : ℕ) (row : VersionRow Place) → slice_get s.versions (suc v) ≡ Some row → v + 1 < length h.start.heaps → HasRunFork v row
  given_fork v row e early =
      let there : slice_get s.versions (v + 1) ≡ Some row = ap (slice_get s.versions) (let i : v + 1 ≡ suc v = omega arith in i) ∙ e in
      let start = stand.sound.start in
      let same_next = stand.same_next in
      let d = slice_get-there h.start.versions v (omega (arith, start.same, early)) in
      let same = stand.versions.given v d.0 row d.1 there in
      let run : row.run.0 ≡ d.0.run.0 = ap (λ r. r.0) same.run in
      let within = start.runs v d.0 d.1 in
      let g = stand.forks.given.given v row early there in
      let f = slice_get-map as_fork s.forks g.index g.fork g.found in
      record {
        is = record {
          index = g.index;
          fork = f.0;
          at = f.1;
          place = ap (λ (r : ForkRow Place). r.place) f.2 ∙ g.place;
          low = omega (arith, run, within.0);
          few = omega (arith, run, within.1, same_next);
        };
        kind = inl (record { early = early; there = there; fork = refl; version = d.0; found = d.1; run = run; below = omega (arith, run, within.1) });
      }

  later_fork : (v : ℕ) (row : VersionRow Place) → slice_get s.versions (suc v) ≡ Some row → length h.start.heaps ≤ v + 1 → HasRunFork v row
  later_fork v row e behind =
      let late : ℕ = v + 1 - length h.start.heaps in
      let number : suc v ≡ length h.start.heaps + late = omega arith in
      let start = stand.sound.start in
      let same_next = stand.same_next in
      let many = stand.forks.many in
      let rows = stand.versions.many in
      let low = start.next in
      let all : length (map as_fork s.forks) ≡ length s.forks = length-map s.forks as_fork in
      let d = slice_get-there h.versions late (omega (arith, rows, number, slice_get-below s.versions (suc v) row e)) in
      let there : slice_get s.versions (length h.start.heaps + late) ≡ Some row = ap (slice_get s.versions) (sym number) ∙ e in
      let same = stand.versions.rows late d.0 row d.1 there in
      let run : row.run.0 ≡ d.0.run.0 = ap (λ r. r.0) same.run in
      let p = stand.forks.placed late d.0 row d.1 there in
      let f = slice_get-map as_fork s.forks (stand.before + p.index) p.fork p.found in
      let below = slice_get-below s.forks (stand.before + p.index) f.0 f.1 in
      let taken : row.run.0 ≡ h.start.next_run + p.index = run ∙ p.number in
      record {
        is = record {
          index = stand.before + p.index;
          fork = f.0;
          at = f.1;
          place = ap (λ (r : ForkRow Place). r.place) f.2 ∙ p.place;
          low = omega (arith, taken, low);
          few = omega (arith, taken, same_next, many, all, below);
        };
        kind = inr (record { late = late; number = number; version = d.0; found = d.1; run = run; ordinal = p.index; taken = taken; fork = refl });
      }

  run_fork : (v : ℕ) (row : VersionRow Place) → slice_get s.versions (suc v) ≡ Some row → HasRunFork v row
  run_fork v row e = ⊎_elim (λ (early : v + 1 < length h.start.heaps). given_fork v row e early)
      (λ (late : length h.start.heaps ≤ v + 1). later_fork v row e late) (cases_lt (v + 1) (length h.start.heaps))

  same_number : (a b : RunNo) → a.0 ≡ b.0 → a ≡ b
  same_number a b e = λ i. record { 0 = e i }

  own_run : (v w : ℕ) (a b : VersionRow Place) → HasRunFork v a → HasRunFork w b → a.run.0 ≡ b.run.0 → v ≡ w
  own_run v w a b p q same = elim p.kind as (λ _. v ≡ w) [
    | inl x ↦ elim q.kind as (λ _. v ≡ w) [
      | inl y ↦ stand.sound.start.apart v w x.version y.version x.found y.found (same_number x.version.run y.version.run (sym x.run ∙ same ∙ y.run))
      | inr y ↦ absurd (omega (arith, x.below, y.taken, same))
    ]
    | inr x ↦ elim q.kind as (λ _. v ≡ w) [
      | inl y ↦ absurd (omega (arith, y.below, x.taken, same))
      | inr y ↦ let one = stand.sound.apart x.late y.late x.version y.version x.found y.found
          (same_number x.version.run y.version.run (sym x.run ∙ same ∙ y.run)) in omega (arith, one, x.number, y.number)
    ]
  ]

  rising : (v w : ℕ) (a b : VersionRow Place) (p : HasRunFork v a) (q : HasRunFork w b) → a.run.0 < b.run.0 → p.is.index < q.is.index
  rising v w a b p q less = elim p.kind as (λ _. p.is.index < q.is.index) [
    | inl x ↦ elim q.kind as (λ _. p.is.index < q.is.index) [
      | inl y ↦ omega (arith, x.fork, y.fork, stand.forks.given.rising v w a b x.early y.early x.there y.there less)
      | inr y ↦ omega (arith, x.fork, y.fork, (stand.forks.given.given v a x.early x.there).early)
    ]
    | inr x ↦ elim q.kind as (λ _. p.is.index < q.is.index) [
      | inl y ↦ absurd (omega (arith, y.below, x.taken, less))
      | inr y ↦ omega (arith, x.fork, y.fork, x.taken, y.taken, less)
    ]
  ]

  in_order : AreInRunOrder s next
  in_order = record {
    forks = λ v row e. (run_fork v row e).is;
    own_run = λ v w a b e f same. own_run v w a b (run_fork v a e) (run_fork w b f) same;
    rising = λ v w a b e f less. rising v w a b (run_fork v a e) (run_fork w b f) less;
  }

pub left_law : LeftOrderLaw
left_law H m x active budget next s h k stand = in_order H m x active budget next s h k stand

pub named_law : NamedLaw
named_law H m x active budget next s h k stand i l =
    let p = k.born i l in
    let n = (arena s).name i in
    let there : get (heap_at s.shape (arena s) (begin_of s p.0)) n ≡ Some _ =
    ap (get (heap_at s.shape (arena s) (begin_of s p.0))) (sym p.2.starts.name) ∙ heap_has s.shape (arena s) (begin_of s p.0) k.arena.chained p.2.first
    (lives_first (arena s) i _ _ k.arena.chained p.2) in
    let below = stand.older p.0 p.1 n _ there in
    ⊎_elim
    (λ (zero : n.run.0 ≡ 0). inl (root_or n (λ other. let none = (stand.rooted n zero other).fresh p.0 p.1 in cc)))
    (λ (later : n.run.0 ≢ 0). inr (later, below))
    (cases_eq n.run.0 0)
  where
    -- names can be told apart
    root_or : (n : Name) → ((n ≢ root_name) → ⊥) → n ≡ root_name
    root_or n refuted = ⊎_elim
        (λ (a : n.run.0 ≡ 0). ⊎_elim
        (λ (b : n.ordinal ≡ 0). named n a b)
        (λ (b : n.ordinal ≢ 0). absurd (refuted (λ e. b (ap (λ (m : Name). m.ordinal) e))))
        (cases_eq n.ordinal 0))
        (λ (a : n.run.0 ≢ 0). absurd (refuted (λ e. a (ap (λ (m : Name). m.run.0) e))))
        (cases_eq n.run.0 0)
      where
        named : (n : Name) → n.run.0 ≡ 0 → n.ordinal ≡ 0 → n ≡ root_name
        named n a b = λ i. record { run = record { 0 = a i }; ordinal = b i }

pub left_rules_law : LeftRulesLaw
left_rules_law H m x active budget next s h k stand counted =
    let calls = stand.calls in
    let few = k.few in
    record {
      places = omega (arith, calls, few);
      versions = run_order_law s next k (left_law H m x active budget next s h k stand);
      named = named_law H m x active budget next s h k stand;
      counts = let Q : Counts → Type 0 = λ c. CountsWithin c (2 ^ 50) in subst Q (sym stand.counts) counted;
    }
