-- What the store is left in.
use Rattle.std.specs.Prelude.{◌≡◌, [], Option, false}
use Rattle.pst_base.specs.declared.names.NodeId.{NodeId}
use Rattle.pst_program.specs.declared.program.Program.{Program}
use Rattle.pst_program.specs.View.{routines_of}
use Rattle.pst_translation.specs.Compiled.{code_of}
use Rattle.pst_history.specs.Meaning.{Meaning}
use Rattle.pst_history.specs.History.{History, counts_of}
use Rattle.pst_history.specs.Direct.{meaning_of}
use Rattle.pst_engine.specs.declared.engine.Engine.{Engine}
use Rattle.pst_engine_runs.specs.Stands.{HoldsVersions}
use Rattle.pst_engine.specs.Stands.{EngineStands}
use Rattle.pst_store_meaning.specs.declared.place.Place.{Place}
use Rattle.pst_store_meaning.specs.Store.{Stored}
use Rattle.pst_store.specs.Whole.{IsBounded, IsSmall, queue_in, state_in}

-- The store holds each version of the history, with its parent, its run and its heap, and what was made and written is counted;
-- no node waits to be split, and none is over its capacity; and there are at most as many nodes as what was counted pays for.
pub record IsLeft (m : Meaning) (store : Option Stored) (h : History) : Type 0 where
  pub versions : HoldsVersions m (state_in store) h
  pub counts : (state_in store).counts ≡ counts_of m h
  pub rested : queue_in store ≡ []
  pub small : IsSmall store
  pub bounded : IsBounded store

-- After want of memory it holds each version of the history. Some nodes may wait to be split; where none does, none is over its
-- capacity.
pub record IsBroken (m : Meaning) (store : Option Stored) (h : History) : Type 0 where
  pub versions : HoldsVersions m (state_in store) h
  pub small : queue_in store ≡ [] → IsSmall store
  pub bounded : IsBounded store

-- an engine over the code of a program, and a store in which no node waits, stand for a history
pub record IsRunning {H : Type 0} (program : Program) (engine : Engine H NodeId Place) (store : Option Stored) (m : Meaning) (h : History) : Type 0 where
  pub meaning : m ≡ meaning_of program
  pub going : engine.failed ≡ false
  pub stands : EngineStands (record { meaning = m; parts = code_of (routines_of program) }) engine (state_in store) h
  pub rested : queue_in store ≡ []
