-- What is taken up from a history, and the histories that go on from both.
use Rattle.std.specs.Prelude.{◌≡◌, ℕ, ◌≤◌, List, ◌++◌, map, Some, slice_get, false, if◌then◌else◌}
use Rattle.pst_history.specs.declared.history.Run.{Run}
use Rattle.pst_history.specs.declared.history.Descent.{Descent}
use Rattle.pst_history.specs.Meaning.{Meaning}
use Rattle.pst_history.specs.History.{Opening, History, next_run, heaps_of, counts_of, is_open, dropped_run}

-- the opening that has the versions, heaps and counts of a history, its budget and its next run number
abbrev pub taken_up : Meaning → History → Opening
taken_up m h = record { versions = h.start.versions ++ h.versions; heaps = heaps_of m h; next_run = next_run h; budget = h.budget; counts = counts_of m h }

-- a history under this budget, with these runs and versions more
abbrev pub further : History → (budget : ℕ) → List Run → List Descent → History
further h b runs versions = record { start = h.start; budget = b; runs = h.runs ++ runs; versions = h.versions ++ versions }

-- the opening that is taken up, under this budget, with these runs and versions since
abbrev pub anew : Meaning → History → (budget : ℕ) → List Run → List Descent → History
anew m h b runs versions = record { start = taken_up m h; budget = b; runs = runs; versions = versions }

-- Two histories go on alike, one from this history and one from the opening that is taken up from it: they have the same budget, and
-- the same runs and versions since, which are versions of runs since.
pub record AreAlike (m : Meaning) (from old new : History) : Type 0 where
  pub budget : ℕ
  pub runs : List Run
  pub versions : List Descent
  pub later : (i : ℕ) (v : Descent) → slice_get versions i ≡ Some v → next_run from ≤ v.run.0
  pub old_is : old ≡ further from budget runs versions
  pub new_is : new ≡ anew m from budget runs versions

-- no run is open
abbrev pub NoneOpen : History → Type 0
NoneOpen h = (i : ℕ) (r : Run) → slice_get h.runs i ≡ Some r → is_open r ≡ false

-- an open run is given up, and any other run stays
abbrev pub dropped_if_open : Run → Run
dropped_if_open r = if is_open r then dropped_run r else r

-- a history whose open runs are given up
abbrev pub all_dropped : History → History
all_dropped h = record h { runs = map dropped_if_open h.runs }
