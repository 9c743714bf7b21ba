-- What the entries of open runs and a heap stand for: a history, of which neither keeps anything but what is here.
-- Letters: m is the meaning of a program, h a history, s the state of a heap, e an entry, r a run, v a version of the
-- history, k and i numbers.
use Rattle.std.specs.Prelude.{◌≡◌, ◌≢◌, ℕ, ◌+◌, ◌<◌, List, Some, IfSome, IsTrue, true, length, slice_get, count_by}
use Rattle.pst_base.specs.declared.names.RunNo.{RunNo}
use Rattle.pst_base.specs.declared.names.Name.{Name}
use Rattle.pst_base.specs.Name.{root_name}
use Rattle.pst_history.specs.declared.history.NamedCall.{NamedCall}
use Rattle.pst_program.specs.Laws.{IsOlder}
use Rattle.pst_versions.specs.declared.rows.VersionRow.{VersionRow}
use Rattle.pst_versions.specs.State.{State, ForkRow, IsFresh}
use Rattle.pst_machine.specs.declared.activation.Activation.{Activation}
use Rattle.pst_history.specs.declared.history.Run.{Run}
use Rattle.pst_history.specs.declared.history.Descent.{Descent}
use Rattle.pst_history.specs.Meaning.{Meaning, fits_one}
use Rattle.pst_history.specs.History.{History, run_at, is_open, work_of, heap_of, run_counts, counts_of, next_run, version_count}
use Rattle.pst_history.specs.Sound.{IsSoundHistory}
use Rattle.pst_engine_runs.specs.declared.entry.OpenEntry.{OpenEntry}
use Rattle.pst_engine_runs.specs.Coded.{MeantCode}
use Rattle.pst_engine_runs.specs.Runs.{Runs, machine_runs}
use Rattle.pst_history.specs.declared.history.TheConstants.{CALLS}

-- ---- the heap

-- the place of version k is one of the heap's, with the heap of that version
pub record IsVersion {P R : Type 0} (m : Meaning) (s : State P R) (h : History) (k : ℕ) (row : VersionRow P) : Type 0 where
  pub has : s.has row.place
  pub heap : s.heap row.place ≡ heap_of m h k

-- a row of the heap is that of the history
pub record SameRow {P : Type 0} (v : Descent) (row : VersionRow P) : Type 0 where
  pub parent : row.parent ≡ v.parent
  pub run : row.run ≡ v.run

-- the heap's versions are the history's, with their parents, runs and heaps
pub record HoldsVersions {P R : Type 0} (m : Meaning) (s : State P R) (h : History) : Type 0 where
  pub many : length s.versions ≡ version_count h
  pub versions : (k : ℕ) (row : VersionRow P) → slice_get s.versions k ≡ Some row → IsVersion m s h k row
  pub given : (i : ℕ) (v : Descent) (row : VersionRow P) → slice_get h.start.versions i ≡ Some v → slice_get s.versions (i + 1) ≡ Some row → SameRow v row
  pub rows : (i : ℕ) (v : Descent) (row : VersionRow P) → slice_get h.versions i ≡ Some v → slice_get s.versions (length h.start.heaps + i) ≡ Some row → SameRow v row

-- a version was made by the run with this number
abbrev pub HasVersion : History → ℕ → Type 0
HasVersion h n = (i : ℕ) × (v : Descent) × (slice_get h.versions i ≡ Some v) × (v.run.0 ≡ n)

-- fork k is that of run n: it was made from the place of the run's parent version, and is published exactly where the run
-- has a version
pub record IsForkOf {P R : Type 0} (s : State P R) (h : History) (k n : ℕ) (r : Run) : Type 0 where
  pub row : ForkRow P
  pub found : slice_get s.forks k ≡ Some row
  pub parent : VersionRow P
  pub parent_found : slice_get s.versions r.parent.0 ≡ Some parent
  pub from : row.from ≡ parent.place
  pub published : row.published ≡ true → HasVersion h n
  pub has_version : HasVersion h n → row.published ≡ true

-- the version has the place of the fork of its run
pub record IsPlaced {P R : Type 0} (s : State P R) (h : History) (before : ℕ) (v : Descent) (row : VersionRow P) : Type 0 where
  pub index : ℕ
  pub number : v.run.0 ≡ h.start.next_run + index
  pub fork : ForkRow P
  pub found : slice_get s.forks (before + index) ≡ Some fork
  pub place : fork.place ≡ row.place

-- the place of a version is that of one of the first forks
pub record IsGivenFork {P R : Type 0} (s : State P R) (before : ℕ) (row : VersionRow P) : Type 0 where
  pub index : ℕ
  pub early : index < before
  pub fork : ForkRow P
  pub found : slice_get s.forks index ≡ Some fork
  pub place : fork.place ≡ row.place

-- Each of the first versions but version 0 has one of the first forks, and of two of them that of the later run has the later fork.
pub record AreGivenForks {P R : Type 0} (s : State P R) (before many : ℕ) : Type 0 where
  pub given : (v : ℕ) (row : VersionRow P) → v + 1 < many → slice_get s.versions (v + 1) ≡ Some row → IsGivenFork s before row
  pub rising : (v w : ℕ) (a b : VersionRow P) (i : v + 1 < many) (j : w + 1 < many) (p : slice_get s.versions (v + 1) ≡ Some a) (q : slice_get s.versions (w + 1) ≡ Some b)
      → a.run.0 < b.run.0 → (given v a i p).index < (given w b j q).index

-- the first forks are those of the versions of the opening, and the last ones are one for each run since, in order
pub record HoldsForks {P R : Type 0} (s : State P R) (h : History) (before : ℕ) : Type 0 where
  pub given : AreGivenForks s before (length h.start.heaps)
  pub many : length s.forks ≡ before + length h.runs
  pub forks : (i : ℕ) (r : Run) → slice_get h.runs i ≡ Some r → IsForkOf s h (before + i) (h.start.next_run + i) r
  pub placed : (i : ℕ) (v : Descent) (row : VersionRow P) → slice_get h.versions i ≡ Some v → slice_get s.versions (length h.start.heaps + i) ≡ Some row → IsPlaced s h before v row

-- ---- the open runs

-- the entry is that of an open run, and its activation stands where the run stands, at the place of the run's fork
pub record IsEntry {H P R : Type 0} (m : Meaning) (x : Runs P R (Activation H R P)) (s : State P R) (h : History) (before : ℕ) (e : OpenEntry H R P) : Type 0 where
  pub run : Run
  pub index : ℕ
  pub number : e.run.0 ≡ h.start.next_run + index
  pub found : slice_get h.runs index ≡ Some run
  pub is_so : is_open run ≡ true
  pub parent : e.parent ≡ run.parent
  pub calls : e.calls ≡ length run.calls
  pub stands : x.stands e.activation s (work_of e.run.0 run) run.granted (heap_of m h run.parent.0) (run_counts m h e.run.0 run)
  pub fork : ForkRow P
  pub fork_found : slice_get s.forks (before + index) ≡ Some fork
  pub place : fork.place ≡ x.place e.activation

-- These entries, with this budget and next run number, and a heap stand for a history.
pub record StandsFor {H P R : Type 0} (m : Meaning) (x : Runs P R (Activation H R P)) (active : List (OpenEntry H R P)) (budget next : ℕ) (s : State P R) (h : History) : Type 0 where
  pub sound : IsSoundHistory m h
  pub same_budget : budget ≡ h.budget
  pub same_next : next ≡ next_run h
  -- the heap
  pub shape : s.shape ≡ m.shape
  pub counts : s.counts ≡ counts_of m h
  pub calls : s.fork_calls + s.spent < next
  pub older : (p : P) → s.has p → IsOlder (s.heap p) next
  pub rooted : (n : Name) → n.run.0 ≡ 0 → n ≢ root_name → IsFresh s n
  pub versions : HoldsVersions m s h
  pub before : ℕ
  pub forks : HoldsForks s h before
  -- the open runs
  pub many : length active ≡ count_by is_open h.runs
  pub entries : (i : ℕ) (e : OpenEntry H R P) → slice_get active i ≡ Some e → IsEntry m x s h before e
  pub all : (n : ℕ) (r : Run) → run_at h n ≡ Some r → is_open r ≡ true → (i : ℕ) × (e : OpenEntry H R P) × (slice_get active i ≡ Some e) × (e.run.0 ≡ n)
  pub apart : (i j : ℕ) (e f : OpenEntry H R P) → slice_get active i ≡ Some e → slice_get active j ≡ Some f → e.run.0 ≡ f.run.0 → i ≡ j

-- so where they are runs of this code
abbrev pub RunsStand : {H P R : Type 0} → MeantCode → List (OpenEntry H R P) → (budget next : ℕ) → State P R → History → Type 0
RunsStand code active budget next s h = StandsFor code.meaning (machine_runs code.parts) active budget next s h

-- ---- what a change leaves

-- each version keeps its row, its place and its heap, and no version comes
pub record VersionsStay {P R : Type 0} (s t : State P R) : Type 0 where
  pub rows : t.versions ≡ s.versions
  pub has : (k : ℕ) (row : VersionRow P) → slice_get s.versions k ≡ Some row → t.has row.place
  pub heaps : (k : ℕ) (row : VersionRow P) → slice_get s.versions k ≡ Some row → t.heap row.place ≡ s.heap row.place

-- the entry at an index is that of a run
abbrev pub IsRunAt : {H P R : Type 0} → List (OpenEntry H R P) → (at : ℕ) → RunNo → Type 0
IsRunAt active at run = IfSome (slice_get active at) (λ e. e.run ≡ run)

-- they stand for some history, with some budget and next run number
pub record StandForSome {H P R : Type 0} (code : MeantCode) (active : List (OpenEntry H R P)) (s : State P R) : Type 0 where
  pub budget : ℕ
  pub next : ℕ
  pub history : History
  pub stands : RunsStand code active budget next s history

-- a call that an open run can be given
pub record MayCall (m : Meaning) (h : History) (n : ℕ) (c : NamedCall) : Type 0 where
  pub room : (r : Run) → run_at h n ≡ Some r → length r.calls < CALLS
  pub fits : IsTrue (fits_one (m.proc c.procedure) c.arguments)
