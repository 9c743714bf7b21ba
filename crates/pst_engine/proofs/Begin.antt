-- An open run more, without a call or with one.
use Rattle.std.proofs.Common.{◌≡◌, inl, inr, ℕ, ◌+◌, List, [], ◌∷◌, ◌++◌, length, refl, ap, sym, ◌∙◌, subst, arith, slice_get, Some, true, false, length-append}
use Rattle.std.specs.Prelude.{count_by}
use Rattle.std.proofs.lemmas.Option.{same_Some, slice_get_within}
use Rattle.pst_base.specs.declared.names.Counts.{Counts}
use Rattle.pst_base.specs.declared.names.RunNo.{RunNo}
use Rattle.pst_base.specs.declared.names.VersionNo.{VersionNo}
use Rattle.pst_base.specs.Heap.{Heap}
use Rattle.std.specs.Prelude.{slice_set}
use Rattle.pst_history.specs.declared.history.NamedCall.{NamedCall}
use Rattle.pst_program.specs.Outcome.{no_counts, Outcome}
use Rattle.pst_program.specs.Laws.{IsOlder}
use Rattle.pst_versions.specs.declared.rows.VersionRow.{VersionRow}
use Rattle.pst_versions.specs.State.{State, ForkRow, IsVersioned, Forked}
use Rattle.pst_history.specs.declared.history.Run.{Run}
use Rattle.pst_base.specs.Counts.{counts_plus}
use Rattle.pst_history.specs.Meaning.{Meaning, Work, IsLawful}
use Rattle.pst_history.specs.History.{History, run_at, is_open, work_of, heap_of, run_counts, counts_of, next_run, opened, new_run, with_run, with_index, called_more}
use Rattle.pst_history.proofs.Lists.{slice_get-before, slice_get-last, slice_get-of_append}
use Rattle.pst_history.proofs.Sums.{counts_plus-none, count_by-more}
use Rattle.pst_history.proofs.Numbered.{index-at, numbered-at, numbered-within, at-number}
use Rattle.pst_history.proofs.Steps.{heap_of-opened, counts_of-opened}
use Rattle.pst_history.proofs.Sound.{older-more}
use Rattle.pst_history.proofs.After.{may_open-sound, run_at-new}
use Rattle.pst_history.specs.Accepted.{MayOpen}
use Rattle.pst_machine.specs.declared.activation.Activation.{Activation}
use Rattle.pst_engine_runs.specs.declared.entry.OpenEntry.{OpenEntry}
use Rattle.pst_engine_runs.specs.Runs.{Runs, SurvivesOthers}
use Rattle.pst_engine_runs.specs.Stands.{HasVersion, IsForkOf, HoldsForks, IsEntry, StandsFor, MayCall}
use Rattle.pst_engine_runs.proofs.Parts.{given-kept, versions-kept, versions-same, entry-run, entry-writable, entry-kept, forked-alone}

-- an empty run has counted nothing
pub idle-counts : (m : Meaning) → IsLawful m → (h : History) (version : VersionNo) → run_counts m h (next_run h) (new_run h version []) ≡ no_counts
idle-counts m law h version = ap (λ (o : Outcome). o.counts) (law.idle (record { 0 = next_run h }) h.budget 0 (heap_of m h version.0))

-- no version is that of a run to come
no-version : {H P R : Type 0} (m : Meaning) (x : Runs P R (Activation H R P)) (s : State P R) (active : List (OpenEntry H R P)) (budget next : ℕ)
    (h : History) → StandsFor m x active budget next s h → HasVersion h (next_run h) → ⊥
no-version m x s active budget next h stand has =
    let v = stand.sound.versions has.0 has.1 has.2 in
    let within = numbered-within h.start.next_run h.runs has.1.run.0 v.run v.found in
    omega (arith, within.1, has.3)

module _ {H P R : Type 0} (m : Meaning) (x : Runs P R (Activation H R P)) (law : IsLawful m) (s t : State P R) (still : SurvivesOthers x s t)
    (known : IsVersioned s) (placed : (p : P) → s.writable p → s.has p) where
  forks-opened : (h : History) (before : ℕ) (version : VersionNo) (row : VersionRow P) (place : P) → slice_get s.versions version.0 ≡ Some row
      → Forked s row.place place t → (HasVersion h (next_run h) → ⊥) → HoldsForks s h before → HoldsForks t (opened h version []) before
  forks-opened h before version row place found f none holds =
      let new = new_run h version [] in
      let mine : ForkRow P = record { place = place; from = row.place; published = false } in
      let len : length (s.forks ++ mine ∷ []) ≡ length s.forks + 1 = length-append s.forks (mine ∷ []) in
      let runs : length (h.runs ++ new ∷ []) ≡ length h.runs + 1 = length-append h.runs (new ∷ []) in
      let same : length t.forks ≡ length (s.forks ++ mine ∷ []) = ap (λ rows. length rows) f.forks in
      let many = holds.many in
      record {
        given = given-kept s t before (length h.start.heaps) (λ v y i p. ap (λ rows. slice_get rows (v + 1)) (sym f.versions) ∙ p)
            (λ k g e. (g, ap (λ rows. slice_get rows k) f.forks ∙ slice_get-before s.forks (mine ∷ []) k (slice_get_within s.forks k g e) ∙ e, refl)) holds.given;
        many = omega arith;
        forks = λ i r q. elim (slice_get-of_append h.runs new r i q) as (λ _. IsForkOf t (opened h version []) (before + i) (h.start.next_run + i) r) [
          | inl was ↦
              let w = holds.forks i r was in
              record {
                row = w.row;
                found = ap (λ rows. slice_get rows (before + i)) f.forks ∙ slice_get-before s.forks (mine ∷ []) (before + i) (slice_get_within s.forks (before + i) w.row w.found) ∙ w.found;
                parent = w.parent;
                parent_found = ap (λ rows. slice_get rows r.parent.0) f.versions ∙ w.parent_found;
                from = w.from;
                published = w.published;
                has_version = w.has_version;
              }
          | inr u ↦
              let at : before + i ≡ length s.forks = omega (arith, u.0) in
              let number : h.start.next_run + i ≡ next_run h = ap (λ k. h.start.next_run + k) u.0 in
              let parent : r.parent ≡ version = ap (λ z. z.parent) u.1 in
              record {
                row = mine;
                found = ap (slice_get t.forks) at ∙ ap (λ rows. slice_get rows (length s.forks)) f.forks ∙ slice_get-last s.forks mine;
                parent = row;
                parent_found = ap (λ (p : VersionNo). slice_get t.versions p.0) parent ∙ ap (λ rows. slice_get rows version.0) f.versions ∙ found;
                from = refl;
                published = λ e. absurd (cc);
                has_version = λ has. absurd (none (subst (λ k. HasVersion h k) number has));
              }
        ];
        placed = λ i v y q z.
            let w = holds.placed i v y q (ap (λ rows. slice_get rows (length h.start.heaps + i)) (sym f.versions) ∙ z) in
            record {
              index = w.index;
              number = w.number;
              fork = w.fork;
              found = ap (λ rows. slice_get rows (before + w.index)) f.forks
                  ∙ slice_get-before s.forks (mine ∷ []) (before + w.index) (slice_get_within s.forks (before + w.index) w.fork w.found) ∙ w.found;
              place = w.place;
            };
      }

  pub open-keeps : (active : List (OpenEntry H R P)) (budget next : ℕ) (h : History) (stand : StandsFor m x active budget next s h)
      (version : VersionNo) → MayOpen m h version [] → (row : VersionRow P) → slice_get s.versions version.0 ≡ Some row
      → (place : P) (a : Activation H R P) (run : RunNo) → run.0 ≡ next → Forked s row.place place t → x.place a ≡ place
      → x.stands a t (record { run = run; calls = []; budget = budget }) 0 (t.heap place) no_counts
      → StandsFor m x (active ++ record { run = run; parent = version; calls = 0; activation = a } ∷ []) budget (next + 1) t (opened h version [])
  open-keeps active budget next h stand version may row found place a run number f at starts =
      let new = new_run h version [] in
      let first = h.start.next_run in
      let mine : OpenEntry H R P = record { run = run; parent = version; calls = 0; activation = a } in
      let sound = stand.sound in
      let one : length (h.runs ++ new ∷ []) ≡ length h.runs + 1 = length-append h.runs (new ∷ []) in
      let same_next = stand.same_next in
      let same_budget = stand.same_budget in
      let calls = stand.calls in
      let more_calls = f.fork_calls in
      let same_spent = f.grows.spent in
      let many = stand.many in
      let count : count_by is_open (h.runs ++ new ∷ []) ≡ count_by is_open h.runs + 1 = count_by-more is_open h.runs new in
      let longer : length (active ++ mine ∷ []) ≡ length active + 1 = length-append active (mine ∷ []) in
      let heaps : (k : ℕ) → heap_of m (opened h version []) k ≡ heap_of m h k = λ k. heap_of-opened m h version [] k sound in
      let source = stand.versions.versions version.0 row found in
      let fork : ForkRow P = record { place = place; from = row.place; published = false } in
      let none = no-version m x s active budget next h stand in
      let nothing : run_counts m h (next_run h) new ≡ no_counts = idle-counts m law h version in
      let is_run : next_run h ≡ run.0 = sym (number ∙ same_next) in
      let begun : t.heap place ≡ heap_of m (opened h version []) version.0 = f.heap ∙ source.heap ∙ sym (heaps version.0) in
      let forks_many = stand.forks.many in
      record {
        sound = may_open-sound m h version [] sound may;
        same_budget = same_budget;
        same_next = omega arith;
        shape = f.grows.shape ∙ stand.shape;
        counts = f.counts ∙ stand.counts ∙ sym (counts_of-opened m h version [] sound ∙ ap (counts_plus (counts_of m h)) nothing ∙ counts_plus-none (counts_of m h));
        calls = omega arith;
        older = λ p has. elim (f.only p has) as (λ _. IsOlder (t.heap p) (next + 1)) [
          | inl q ↦ subst (λ z. IsOlder (t.heap z) (next + 1)) (sym q)
              (subst (λ z. IsOlder z (next + 1)) (sym f.heap) (older-more (s.heap row.place) next (next + 1) (omega arith) (stand.older row.place source.has)))
          | inr q ↦ subst (λ z. IsOlder z (next + 1)) (sym (f.heaps p q)) (older-more (s.heap p) next (next + 1) (omega arith) (stand.older p q))
        ];
        rooted = λ q zero other. (forked-alone s t row.place place row.place q.run f source.has source.has).fresh q refl (stand.rooted q zero other);
        versions = versions-same m t h (h.runs ++ new ∷ []) heaps (versions-kept m s t h f.versions f.grows.has (λ k r q. f.heaps r.place (stand.versions.versions k r q).has) stand.versions);
        before = stand.before;
        forks = forks-opened h stand.before version row place found f none stand.forks;
        many = omega arith;
        entries = λ j e q. elim (slice_get-of_append active mine e j q) as (λ _. IsEntry m x t (opened h version []) stand.before e) [
          | inl w ↦
              let old = stand.entries j e w in
              let has = placed (x.place e.activation) (entry-writable m x s h stand.before e known sound stand.forks old) in
              entry-kept m x s t h stand.before (h.runs ++ new ∷ []) h.versions e old
              (slice_get-before h.runs (new ∷ []) old.index (slice_get_within h.runs old.index old.run old.found) ∙ old.found)
              (heaps old.run.parent.0) still (forked-alone s t row.place place (x.place e.activation) e.run f source.has has)
              (ap (λ rows. slice_get rows (stand.before + old.index)) f.forks
              ∙ slice_get-before s.forks (fork ∷ []) (stand.before + old.index)
              (slice_get_within s.forks (stand.before + old.index) old.fork old.fork_found) ∙ old.fork_found)
          | inr u ↦ subst (λ z. IsEntry m x t (opened h version []) stand.before z) (sym u.1) (record {
            run = new;
            index = length h.runs;
            number = sym is_run;
            found = slice_get-last h.runs new;
            is_so = refl;
            parent = refl;
            calls = refl;
            stands = mine_stands run begun number stand starts;
            fork = fork;
            fork_found = ap (λ rows. slice_get rows (stand.before + length h.runs)) f.forks ∙ ap (slice_get (s.forks ++ fork ∷ [])) (sym forks_many) ∙ slice_get-last s.forks fork;
            place = sym at;
          })
        ];
        all = λ n r q is_so. everyone n r q is_so;
        apart = λ j k e g p q same. elim (slice_get-of_append active mine e j p) [
          | inl u ↦ elim (slice_get-of_append active mine g k q) [
            | inl w ↦ stand.apart j k e g u w same
            | inr w ↦ absurd (fresh_run j e u (same ∙ ap (λ z. z.run.0) w.1))
          ]
          | inr u ↦ elim (slice_get-of_append active mine g k q) [
            | inl w ↦ absurd (fresh_run k g w (sym same ∙ ap (λ z. z.run.0) u.1))
            | inr w ↦ u.0 ∙ sym w.0
          ]
        ];
      }
    where
      fresh_run : (j : ℕ) (e : OpenEntry H R P) → slice_get active j ≡ Some e → e.run.0 ≡ run.0 → ⊥
      fresh_run j e u same =
          let o = stand.entries j e u in
          let within = numbered-within h.start.next_run h.runs e.run.0 o.run (entry-run m x s h stand.before e o) in
          let is = stand.same_next in
          omega (arith, within.1)

      mine_stands : (r : RunNo) → t.heap place ≡ heap_of m (opened h version []) version.0 → r.0 ≡ next
          → (stand' : StandsFor m x active budget next s h) → x.stands a t (record { run = r; calls = []; budget = budget }) 0 (t.heap place)
          no_counts → x.stands a t (work_of r.0 (new_run h version [])) 0 (heap_of m (opened h version []) version.0)
          (run_counts m (opened h version []) r.0 (new_run h version []))
      mine_stands r begun number stand' starts' =
          let w : Work = work_of r.0 (new_run h version []) in
          let b : record { run = r; calls = []; budget = budget } ≡ w = ap (λ (k : ℕ). record w { budget = k }) stand'.same_budget in
          let heap = heap_of m (opened h version []) version.0 in
          let none : no_counts ≡ (m.outcome w 0 heap).counts = ap (λ (o : Outcome). o.counts) (sym (law.idle r h.budget 0 heap)) in
          let S : Work → Heap → Counts → Type 0 = λ v y c. x.stands a t v 0 y c in
          subst (λ c. S w heap c) none (subst (λ y. S w y no_counts) begun (subst (λ v. S v (t.heap place) no_counts) b starts'))

      everyone : (n : ℕ) (r : Run) → run_at (opened h version []) n ≡ Some r → is_open r ≡ true → (k : ℕ) × (g : OpenEntry H R P)
          × (slice_get (active ++ record { run = run; parent = version; calls = 0; activation = a } ∷ []) k ≡ Some g) × (g.run.0 ≡ n)
      everyone n r q is_so =
          let mine : OpenEntry H R P = record { run = run; parent = version; calls = 0; activation = a } in
          let first = h.start.next_run in
          let w = at-number first (h.runs ++ new_run h version [] ∷ []) n r q in
          elim (slice_get-of_append h.runs (new_run h version []) r w.index w.found) [
            | inl u ↦
                let old = stand.all n r (numbered-at first h.runs n w.index w.number ∙ u) is_so in
                (old.0, old.1, slice_get-before active (mine ∷ []) old.0 (slice_get_within active old.0 old.1 old.2) ∙ old.2, old.3)
            | inr u ↦ let is = stand.same_next in let at' = w.number in (length active, mine, slice_get-last active mine, omega (arith, u.0))
          ]

-- ---- a run that is opened with a call

pub opened-called : (h : History) (version : VersionNo) (c : NamedCall)
    → with_run (opened h version []) (next_run h) (called_more c) (run_at (opened h version []) (next_run h)) ≡ opened h version (c ∷ [])
opened-called h version c =
    let first = h.start.next_run in
    let new = new_run h version [] in
    let found = run_at-new h version [] in
    ap (with_run (opened h version []) (next_run h) (called_more c)) found
    ∙ ap (λ o. record h { runs = with_index (h.runs ++ new ∷ []) o (called_more c new) }) (index-at first (length h.runs))
    ∙ ap (λ runs. record h { runs = runs }) (set-last h.runs new (called_more c new))
  where
    set-last : (runs : List Run) (a b : Run) → slice_set (runs ++ a ∷ []) (length runs) b ≡ runs ++ b ∷ []
    set-last [] a b = refl
    set-last (r ∷ runs) a b = ap (λ rest. r ∷ rest) (set-last runs a b)

-- the same, under the number that the engine keeps
pub opened-called-as : (h : History) (version : VersionNo) (c : NamedCall) (k : ℕ) → k ≡ next_run h
    → with_run (opened h version []) k (called_more c) (run_at (opened h version []) k) ≡ opened h version (c ∷ [])
opened-called-as h version c k same = ap (λ (j : ℕ). with_run (opened h version []) j (called_more c) (run_at (opened h version []) j)) same ∙ opened-called h version c

-- the new run can be given its first call
opened-may-call : (m : Meaning) (h : History) (version : VersionNo) (c : NamedCall) → MayOpen m h version (c ∷ []) → MayCall m (opened h version []) (next_run h) c
opened-may-call m h version c may = record {
  room = λ r found. let same : new_run h version [] ≡ r = same_Some (new_run h version []) r (sym (run_at-new h version []) ∙ found) in
      let none : 0 ≡ length r.calls = ap (λ (z : Run). length z.calls) same in omega arith;
  fits = may.fits 0 c refl;
}

pub opened-may-call-as : (m : Meaning) (h : History) (version : VersionNo) (c : NamedCall) (k : ℕ) → k ≡ next_run h → MayOpen m h version (c ∷ []) → MayCall m (opened h version []) k c
opened-may-call-as m h version c k same may = let Q : ℕ → Type 0 = λ j. MayCall m (opened h version []) j c in subst Q (sym same) (opened-may-call m h version c may)

pub may-open-empty : (m : Meaning) (h : History) (version : VersionNo) (calls : List NamedCall) → MayOpen m h version calls → MayOpen m h version []
may-open-empty m h version calls may = record { room = may.room; there = may.there; few = omega arith; fits = λ i c q. absurd (cc) }
