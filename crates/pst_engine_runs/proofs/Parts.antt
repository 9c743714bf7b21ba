-- What single facts become under a change of the heap or the history.
use Rattle.std.proofs.Common.{◌≡◌, ◌≢◌, inl, inr, ℕ, ◌+◌, ◌<◌, List, length, refl, ap, sym, ◌∙◌, subst, arith, slice_get, Some, None, Bool, true, false}
use Rattle.std.specs.FinMap.{get}
use Rattle.std.proofs.lemmas.Option.{same_Some}
use Rattle.pst_base.specs.declared.names.Counts.{Counts}
use Rattle.pst_base.specs.declared.names.RunNo.{RunNo}
use Rattle.pst_base.specs.declared.names.VersionNo.{VersionNo}
use Rattle.pst_base.specs.Heap.{Heap}
use Rattle.pst_base.specs.Counts.{counts_plus}
use Rattle.pst_base.proofs.CountLemmas.{same_counts}
use Rattle.pst_program.specs.declared.meaning.Ended.{Ended}
use Rattle.pst_program.specs.Sound.{CountsBelow}
use Rattle.pst_versions.specs.declared.rows.VersionRow.{VersionRow}
use Rattle.pst_versions.specs.State.{State, ForkRow, OthersStay, WritesStay, Unchanged, IsVersioned, Forked, Published}
use Rattle.pst_history.specs.declared.history.Run.{Run}
use Rattle.pst_history.specs.declared.history.Descent.{Descent}
use Rattle.pst_history.specs.Meaning.{Meaning, Work}
use Rattle.pst_history.specs.History.{History, run_at, is_open, work_of, heap_of, run_counts, version_count}
use Rattle.pst_history.specs.Sound.{IsSoundHistory}
use Rattle.pst_history.proofs.Numbered.{numbered-at}
use Rattle.pst_history.proofs.Steps.{not_open}
use Rattle.pst_history.proofs.Sound.{present}
use Rattle.pst_machine.specs.declared.activation.Activation.{Activation}
use Rattle.pst_engine_runs.specs.declared.entry.OpenEntry.{OpenEntry}
use Rattle.pst_machine_steps.specs.Fields.{KeepsOthers}
use Rattle.pst_engine_runs.specs.Runs.{Runs, SparesRun, RanOn, SurvivesOthers}
use Rattle.pst_engine_runs.specs.Stands.{AreGivenForks, HoldsVersions, HasVersion, IsForkOf, HoldsForks, IsEntry}

-- ---- the heap

-- what the other heaps are after a change at one place
pub other_heap : {P R : Type 0} (s t : State P R) (at p : P) → OthersStay at s t → s.has p → (p ≡ at → ⊥) → t.heap p ≡ s.heap p
other_heap s t at p others has ne = elim (others.stay p has) [ inl e ↦ absurd (ne e) | inr e ↦ e ]

-- a place that can be written is no version's
pub not_version : {P R : Type 0} (s : State P R) → IsVersioned s → (at : P) → s.writable at → (k : ℕ) (row : VersionRow P) → slice_get s.versions k ≡ Some row → row.place ≡ at → ⊥
not_version s known at writable k row found same = (known.places k row found).closed (subst s.writable (sym same) writable)

-- the versions stay where their rows and heaps do
pub versions-kept : {P R : Type 0} (m : Meaning) (s t : State P R) (h : History) → t.versions ≡ s.versions → ((p : P) → s.has p → t.has p)
    → ((k : ℕ) (row : VersionRow P) → slice_get s.versions k ≡ Some row → t.heap row.place ≡ s.heap row.place) → HoldsVersions m s h → HoldsVersions m t h
versions-kept m s t h same has heaps holds = record {
  many = ap (λ rows. length rows) same ∙ holds.many;
  versions = λ k row q.
      let was = ap (λ rows. slice_get rows k) (sym same) ∙ q in
      let v = holds.versions k row was in
      record { has = has row.place v.has; heap = heaps k row was ∙ v.heap };
  given = λ i v row q r. holds.given i v row q (ap (λ rows. slice_get rows (i + 1)) (sym same) ∙ r);
  rows = λ i v row q r. holds.rows i v row q (ap (λ rows. slice_get rows (length h.start.heaps + i)) (sym same) ∙ r);
}

-- and where the runs change, but no version's heap
pub versions-same : {P R : Type 0} (m : Meaning) (s : State P R) (h : History) (runs : List Run)
    → ((k : ℕ) → heap_of m (record h { runs = runs }) k ≡ heap_of m h k) → HoldsVersions m s h → HoldsVersions m s (record h { runs = runs })
versions-same m s h runs heaps holds = record {
  many = holds.many;
  versions = λ k row q. let v = holds.versions k row q in record { has = v.has; heap = v.heap ∙ sym (heaps k) };
  given = holds.given;
  rows = holds.rows;
}

-- the row of a version
pub version-row : {P R : Type 0} (m : Meaning) (s : State P R) (h : History) (k : ℕ) → HoldsVersions m s h → k < version_count h → (row : VersionRow P) × (slice_get s.versions k ≡ Some row)
version-row m s h k holds less = let many = holds.many in present s.versions k (omega arith)

-- a slice at a place that can be written changes no version
pub slice-versions : {P R : Type 0} (m : Meaning) (s t : State P R) (h : History) (at : P) → IsVersioned s → s.writable at → KeepsOthers at s t → HoldsVersions m s h → HoldsVersions m t h
slice-versions m s t h at known writable kept holds =
    versions-kept m s t h kept.keeps.versions kept.keeps.grows.has (λ k row q. other_heap s t at row.place kept.others (holds.versions k row q).has (not_version s known at writable k row q)) holds

-- ---- the forks

pub fork-kept : {P R : Type 0} (s t : State P R) (h : History) (k n : ℕ) (r : Run) → t.versions ≡ s.versions → t.forks ≡ s.forks → IsForkOf s h k n r → IsForkOf t h k n r
fork-kept s t h k n r versions forks f = record {
  row = f.row;
  found = ap (λ rows. slice_get rows k) forks ∙ f.found;
  parent = f.parent;
  parent_found = ap (λ rows. slice_get rows r.parent.0) versions ∙ f.parent_found;
  from = f.from;
  published = f.published;
  has_version = f.has_version;
}

-- a fork with this number and place
abbrev pub HasForkAt : {P R : Type 0} → State P R → ℕ → P → Type 0
HasForkAt {P = P} s k place = (g : ForkRow P) × (slice_get s.forks k ≡ Some g) × (g.place ≡ place)

-- the forks of the opening's versions, where these versions and the places of all forks stay
pub given-kept : {P R : Type 0} (s t : State P R) (before many : ℕ) → ((v : ℕ) (row : VersionRow P) → v + 1 < many → slice_get t.versions (v + 1) ≡ Some row → slice_get s.versions (v + 1) ≡ Some row)
    → ((k : ℕ) (f : ForkRow P) → slice_get s.forks k ≡ Some f → HasForkAt t k f.place) → AreGivenForks s before many → AreGivenForks t before many
given-kept s t before many back stay holds = record {
  given = λ v row i p.
      let f = holds.given v row i (back v row i p) in
      let g = stay f.index f.fork f.found in
      record { index = f.index; early = f.early; fork = g.0; found = g.1; place = g.2 ∙ f.place };
  rising = λ v w a b i j p q l. holds.rising v w a b i j (back v a i p) (back w b j q) l;
}

pub forks-kept : {P R : Type 0} (s t : State P R) (h : History) (before : ℕ) → t.versions ≡ s.versions → t.forks ≡ s.forks → HoldsForks s h before → HoldsForks t h before
forks-kept s t h before versions forks holds = record {
  given = given-kept s t before (length h.start.heaps) (λ v row i p. ap (λ rows. slice_get rows (v + 1)) (sym versions) ∙ p) (λ k f e. (f, ap (λ rows. slice_get rows k) forks ∙ e, refl)) holds.given;
  many = ap (λ rows. length rows) forks ∙ holds.many;
  forks = λ i r q. fork-kept s t h (before + i) (h.start.next_run + i) r versions forks (holds.forks i r q);
  placed = λ i v row q r.
      let w = holds.placed i v row q (ap (λ rows. slice_get rows (length h.start.heaps + i)) (sym versions) ∙ r) in
      record { index = w.index; number = w.number; fork = w.fork; found = ap (λ rows. slice_get rows (before + w.index)) forks ∙ w.found; place = w.place };
}

-- an open run has no version
pub open-unpublished : (m : Meaning) (h : History) (n : ℕ) (r : Run) → IsSoundHistory m h → run_at h n ≡ Some r → is_open r ≡ true → HasVersion h n → ⊥
open-unpublished m h n r sound found is_so has = not_open m h n r sound found is_so has.0 has.1 has.2 has.3

-- where the fork of an open run is
pub record IsOpenAt {P R : Type 0} (s : State P R) (h : History) (place : P) (k : ℕ) (r : Run) : Type 0 where
  pub parent : VersionRow P
  pub parent_found : slice_get s.versions r.parent.0 ≡ Some parent
  pub row : slice_get s.forks k ≡ Some (record { place = place; from = parent.place; published = false })

unpublished-row : {P : Type 0} (row : ForkRow P) (place from : P) → row.place ≡ place → row.from ≡ from → (row.published ≡ true → ⊥) → row ≡ record { place = place; from = from; published = false }
unpublished-row {P} row place from a b ne =
    let shut : row.published ≡ false = elim row.published as (λ x. (x ≡ true → ⊥) → x ≡ false) [ true ↦ λ no. absurd (no refl) | false ↦ λ no. refl ] ne in
    ap (λ (p : P). record row { place = p }) a ∙ ap (λ (p : P). record { place = place; from = p; published = row.published }) b
    ∙ ap (λ (x : Bool). record { place = place; from = from; published = x }) shut

module _ {H P R : Type 0} (m : Meaning) (x : Runs P R (Activation H R P)) (s : State P R) (h : History) (before : ℕ) where
  pub entry-run : (e : OpenEntry H R P) → (o : IsEntry m x s h before e) → run_at h e.run.0 ≡ Some o.run
  entry-run e o = numbered-at h.start.next_run h.runs e.run.0 o.index o.number ∙ o.found

  pub entry-open : (e : OpenEntry H R P) → IsSoundHistory m h → HoldsForks s h before → (o : IsEntry m x s h before e) → IsOpenAt s h (x.place e.activation) (before + o.index) o.run
  entry-open e sound holds o =
      let f = holds.forks o.index o.run o.found in
      let same : f.row ≡ o.fork = same_Some f.row o.fork (sym f.found ∙ o.fork_found) in
      let none : f.row.published ≡ true → ⊥ = λ t. open-unpublished m h e.run.0 o.run sound (entry-run e o) o.is_so
      (let P : ℕ → Type 0 = λ n. HasVersion h n in subst P (sym o.number) (f.published t)) in
      record {
        parent = f.parent;
        parent_found = f.parent_found;
        row = f.found ∙ ap Some (unpublished-row f.row (x.place e.activation) f.parent.place (ap (λ y. y.place) same ∙ o.place) f.from none);
      }

  -- an entry's place can be written
  pub entry-writable : (e : OpenEntry H R P) → IsVersioned s → IsSoundHistory m h → HoldsForks s h before → (o : IsEntry m x s h before e) → s.writable (x.place e.activation)
  entry-writable e known sound holds o =
      let w = entry-open e sound holds o in
      known.writable (x.place e.activation) w.parent.place (record { index = before + o.index; row = w.row })

  -- entries at one place are of one run
  pub entries-apart : IsVersioned s → (e f : OpenEntry H R P) → IsEntry m x s h before e → IsEntry m x s h before f → x.place e.activation ≡ x.place f.activation → e.run.0 ≡ f.run.0
  entries-apart known e f o p same =
      let one : before + o.index ≡ before + p.index = known.apart (before + o.index) (before + p.index) o.fork p.fork o.fork_found p.fork_found (o.place ∙ same ∙ sym p.place) in
      let a = o.number in let b = p.number in
      omega arith

-- ---- an entry that is not touched

-- the entry of another run, where its run is as it was, and the heap leaves it alone
pub entry-kept : {H P R : Type 0} (m : Meaning) (x : Runs P R (Activation H R P)) (s t : State P R) (h : History) (before : ℕ) (runs : List Run)
    (versions : List Descent) (f : OpenEntry H R P) (o : IsEntry m x s h before f)
    → slice_get runs o.index ≡ Some o.run → heap_of m (record h { runs = runs; versions = versions }) o.run.parent.0 ≡ heap_of m h o.run.parent.0
    → SurvivesOthers x s t → SparesRun s t (x.place f.activation) f.run → slice_get t.forks (before + o.index) ≡ Some o.fork → IsEntry m x t (record h { runs = runs; versions = versions }) before f
entry-kept m x s t h before runs versions f o found heap still alone fork =
    let w = work_of f.run.0 o.run in
    let k = o.run.granted in
    let S : Heap → Type 0 = λ y. x.stands f.activation t w k y (m.outcome w k y).counts in
    record {
      run = o.run;
      index = o.index;
      number = o.number;
      found = found;
      is_so = o.is_so;
      parent = o.parent;
      calls = o.calls;
      stands = subst S (sym heap) (still f.activation w k (heap_of m h o.run.parent.0) (run_counts m h f.run.0 o.run) o.stands alone);
      fork = o.fork;
      fork_found = fork;
      place = o.place;
    }

-- ---- what leaves other runs alone

-- what was added alike to equal sums is no difference
pub counts_plus-cancel : (a b c : Counts) → counts_plus a c ≡ counts_plus b c → a ≡ b
counts_plus-cancel a b c e =
    let r : a.records + c.records ≡ b.records + c.records = ap (λ (x : Counts). x.records) e in
    let p : a.pointer_writes + c.pointer_writes ≡ b.pointer_writes + c.pointer_writes = ap (λ (x : Counts). x.pointer_writes) e in
    let v : a.value_writes + c.value_writes ≡ b.value_writes + c.value_writes = ap (λ (x : Counts). x.value_writes) e in
    same_counts a b (omega (arith, r)) (omega (arith, p)) (omega (arith, v))

pub counts_refl : (a b : Counts) → b ≡ a → CountsBelow a b
counts_refl a b e = let Q : Counts → Type 0 = λ c. CountsBelow a c in subst Q (sym e) (record { records = omega arith; pointer_writes = omega arith; value_writes = omega arith })

other_name : (a b : RunNo) → a.0 ≢ b.0 → (q r : RunNo) → q ≡ a → r.0 ≡ b.0 → q ≢ r
other_name a b ne q r same number e = ne (ap (λ (x : RunNo). x.0) (sym same) ∙ ap (λ (x : RunNo). x.0) e ∙ number)

module _ {H P R : Type 0} (m : Meaning) (x : Runs P R (Activation H R P)) (s t : State P R) where
  -- a slice of another run at another place
  pub slice-alone : (a b : Activation H R P) (w : Work) (k : ℕ) (y : Heap) (c : Counts) (end : Ended) (p : P) (run : RunNo)
      → KeepsOthers (x.place a) s t → WritesStay s t → RanOn m x s a w k y c end t b → CountsBelow c (m.outcome w k y).counts → s.has p
      → (p ≡ x.place a → ⊥) → run.0 ≢ w.run.0 → SparesRun s t p run
  slice-alone a b w k y c end p run kept writes adv more has elsewhere ne =
      let all = adv.counts in
      let one : t.counts.records + c.records ≡ s.counts.records + (m.outcome w k y).counts.records = ap (λ z. z.records) all in
      let two : t.counts.pointer_writes + c.pointer_writes ≡ s.counts.pointer_writes + (m.outcome w k y).counts.pointer_writes = ap (λ z. z.pointer_writes) all in
      let three : t.counts.value_writes + c.value_writes ≡ s.counts.value_writes + (m.outcome w k y).counts.value_writes = ap (λ z. z.value_writes) all in
      record {
        grows = kept.keeps.grows;
        heap = other_heap s t (x.place a) p kept.others has elsewhere;
        writable = writes.kept p;
        fresh = λ n same free. adv.names n (other_name run w.run ne n.run w.run same refl) free;
        counts = record { records = omega (arith, one, more.records); pointer_writes = omega (arith, two, more.pointer_writes); value_writes = omega (arith, three, more.value_writes) };
      }

-- nothing changes
pub unchanged-alone : {P R : Type 0} (s t : State P R) (p : P) (run : RunNo) → Unchanged s t → WritesStay s t → s.has p → SparesRun s t p run
unchanged-alone s t p run same writes has = record {
  grows = same.keeps.grows;
  heap = same.heaps p has;
  writable = writes.kept p;
  fresh = λ n is free. record { fresh = λ q there. ap (λ y. get y n) (same.heaps q (same.keeps.back q there)) ∙ free.fresh q (same.keeps.back q there) };
  counts = counts_refl s.counts t.counts same.counts;
}

-- a fork
pub forked-alone : {P R : Type 0} (s t : State P R) (from place p : P) (run : RunNo) → Forked s from place t → s.has from → s.has p → SparesRun s t p run
forked-alone {P = P} s t from place p run f source has = record {
  grows = f.grows;
  heap = f.heaps p has;
  writable = f.kept p;
  fresh = λ n is free. record {
    fresh = λ q there. elim (f.only q there) as (λ _. get (t.heap q) n ≡ None) [
      | inl e ↦ ap (λ (z : P). get (t.heap z) n) e ∙ ap (λ y. get y n) f.heap ∙ free.fresh from source
      | inr was ↦ ap (λ y. get y n) (f.heaps q was) ∙ free.fresh q was
    ];
  };
  counts = counts_refl s.counts t.counts f.counts;
}

-- another place becomes a version
pub published-alone : {P R : Type 0} (s t : State P R) (parent : VersionNo) (by : RunNo) (at : P) (version : VersionNo) (p : P) (run : RunNo)
    → Published s parent by at version t → s.has p → (p ≡ at → ⊥) → SparesRun s t p run
published-alone s t parent by at version p run d has elsewhere = record {
  grows = d.grows;
  heap = d.heaps p has;
  writable = λ w. elim (d.kept p w) [ inl e ↦ absurd (elsewhere e) | inr still ↦ still ];
  fresh = λ n is free. record { fresh = λ q there. ap (λ y. get y n) (d.heaps q (d.back q there)) ∙ free.fresh q (d.back q there) };
  counts = counts_refl s.counts t.counts d.counts;
}
