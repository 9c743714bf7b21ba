-- What is so of every history.
use Rattle.std.specs.Prelude.{◌≡◌, ℕ, ◌+◌, ◌<◌, ◌≤◌, ◌^◌, List, Option, Some, None, length, slice_get, count_by}
use Rattle.pst_base.specs.Heap.{Heap, IsWellFormed}
use Rattle.pst_program.specs.Sound.{CountsWithin}
use Rattle.pst_program.specs.Laws.{IsOlder}
use Rattle.pst_history.specs.declared.history.RunState.TheVariants.{Closed}
use Rattle.pst_history.specs.declared.history.Run.{Run}
use Rattle.pst_history.specs.declared.history.Descent.{Descent}
use Rattle.pst_history.specs.Meaning.{Meaning, AllFit}
use Rattle.pst_history.specs.History.{Opening, History, numbered, next_run, version_count, is_open}
use Rattle.pst_script.specs.declared.numerals.TheConstants.{MOST_CHARGES}
use Rattle.pst_history.specs.declared.history.TheConstants.{RUNS, CALLS}

-- well formed, and with no record of a run from this number on
pub record IsBefore (m : Meaning) (heap : Heap) (run : ℕ) : Type 0 where
  pub well_formed : IsWellFormed m.shape heap
  pub older : IsOlder heap run

-- charges that can stand as a budget: from 1 to 1,000,000,000
abbrev pub IsBudget : ℕ → Type 0
IsBudget charges = (0 < charges) × (charges ≤ MOST_CHARGES)

-- two versions of one run are one version
abbrev pub HaveOwnRuns : List Descent → Type 0
HaveOwnRuns versions = (i j : ℕ) (v w : Descent) → slice_get versions i ≡ Some v → slice_get versions j ≡ Some w → v.run ≡ w.run → i ≡ j

-- each version was made by a run whose number was taken before this one; numbers are taken from 1 on
abbrev pub HaveRunsBelow : List Descent → (next : ℕ) → Type 0
HaveRunsBelow versions next = (i : ℕ) (v : Descent) → slice_get versions i ≡ Some v → (0 < v.run.0) × (v.run.0 < next)

-- what a script can begin with
pub record IsOpening (m : Meaning) (o : Opening) : Type 0 where
  pub next : 0 < o.next_run
  pub few : o.next_run ≤ RUNS + 1
  pub budget : IsBudget o.budget
  pub counts : CountsWithin o.counts (2 ^ 50)
  pub same : length o.heaps ≡ length o.versions + 1
  -- version 0 has no run
  pub few_versions : length o.heaps ≤ o.next_run
  pub parents : (i : ℕ) (v : Descent) → slice_get o.versions i ≡ Some v → v.parent.0 ≤ i
  pub runs : HaveRunsBelow o.versions o.next_run
  pub apart : HaveOwnRuns o.versions
  pub heaps : (k : ℕ) (heap : Heap) → slice_get o.heaps k ≡ Some heap → IsBefore m heap o.next_run

-- one more than the number of the run that made a version
abbrev pub behind : (next : ℕ) → Option Descent → ℕ
behind next None = next
behind next (Some v) = v.run.0 + 1

-- a number that all runs are below that made records of a version: for those of the opening its next run number
abbrev pub made_below : Opening → List Descent → ℕ → ℕ
made_below o versions k = behind o.next_run (numbered (length o.heaps) versions k)

-- run n: its version is there and older, its calls fit
pub record IsSoundRun (m : Meaning) (o : Opening) (versions : List Descent) (n : ℕ) (r : Run) : Type 0 where
  pub budget : IsBudget r.budget
  pub granted : r.granted ≤ r.budget
  pub version : r.parent.0 < length o.heaps + length versions
  pub older : made_below o versions r.parent.0 ≤ n
  pub few : length r.calls ≤ CALLS
  pub fits : AllFit m.proc r.calls

-- version k: its parent is below it, and its run is a closed one that worked on that parent
pub record IsSoundVersion (o : Opening) (runs : List Run) (k : ℕ) (v : Descent) : Type 0 where
  pub parent : v.parent.0 < k
  pub run : Run
  pub found : numbered o.next_run runs v.run.0 ≡ Some run
  pub same : run.parent ≡ v.parent
  pub closed : run.state ≡ Closed

pub record IsSoundHistory (m : Meaning) (h : History) : Type 0 where
  pub start : IsOpening m h.start
  pub budget : IsBudget h.budget
  pub few : next_run h ≤ RUNS + 1
  -- a version has a run of its own, which is not open
  pub few_versions : version_count h + count_by is_open h.runs ≤ next_run h
  pub runs : (i : ℕ) (r : Run) → slice_get h.runs i ≡ Some r → IsSoundRun m h.start h.versions (h.start.next_run + i) r
  pub versions : (i : ℕ) (v : Descent) → slice_get h.versions i ≡ Some v → IsSoundVersion h.start h.runs (length h.start.heaps + i) v
  pub apart : HaveOwnRuns h.versions
