-- How a forest begins.
use Rattle.pst_forest.specs.Forest.{started, state_of}
use Rattle.pst_history.specs.Meaning.{Meaning}
use Rattle.pst_engine.specs.Stands.{IsStartedHeap}

-- it is a heap as it is started, for every meaning with its record types
abbrev pub NewForestIsStarted : Type 0
NewForestIsStarted = (m : Meaning) → IsStartedHeap m (state_of (started m.shape))
