-- How much can have been counted.
use Rattle.std.specs.Prelude.{ℕ, ◌*◌, ◌≤◌, ◌^◌}
use Rattle.pst_base.specs.declared.names.Counts.{Counts}
use Rattle.pst_program.specs.Sound.{CountsWithin}
use Rattle.pst_history.specs.Meaning.{Meaning, IsLawful}
use Rattle.pst_history.specs.History.{Opening, History, opening, counts_of, next_run}
use Rattle.pst_history.specs.Sound.{IsSoundHistory}

-- at most 1,000,000,000 for each run number that was taken, and as much for the root record
abbrev pub HasFewCounts : Counts → (next : ℕ) → Type 0
HasFewCounts c next = CountsWithin c (1000000000 * next)

-- what an opening counted
abbrev pub OpensFew : Opening → Type 0
OpensFew o = HasFewCounts o.counts o.next_run

-- a history whose opening counted few has counted few
abbrev pub CountsLaw : Type 0
CountsLaw = (m : Meaning) → IsLawful m → (h : History) → IsSoundHistory m h → OpensFew h.start → HasFewCounts (counts_of m h) (next_run h)

-- 1,048,576 runs and the root record have counted at most 2^50
abbrev pub FewCountsLaw : Type 0
FewCountsLaw = (c : Counts) (next : ℕ) → HasFewCounts c next → next ≤ 1048577 → CountsWithin c (2 ^ 50)

-- version 0 alone counted few
abbrev pub OpeningCountsLaw : Type 0
OpeningCountsLaw = (m : Meaning) → OpensFew (opening m.shape)
