-- What a script from the start counts.
use Rattle.std.specs.Prelude.{ℕ, List}
use Rattle.pst_history.specs.Meaning.{Meaning, IsLawful}
use Rattle.pst_history.specs.History.{counts_of, next_run}
use Rattle.pst_cli_scripts.specs.Script.{by_tree}
use Rattle.pst_cli_scripts.specs.Kept.{history_after}
use Rattle.pst_image_engine.specs.Counted.{HasFewCounts}

-- at most 1,000,000,000 for each run number that it took, and as much for the root record
abbrev pub ScriptCountsLaw : Type 0
ScriptCountsLaw = (m : Meaning) → IsLawful m → (lines : List (List ℕ))
    → HasFewCounts (counts_of m (history_after by_tree m lines)) (next_run (history_after by_tree m lines))
