-- What a session and a store of a linear history stand for: a history, of which neither keeps anything but what is here.
use Rattle.std.specs.Prelude.{◌≡◌, ℕ, None, false}
use Rattle.pst_base.specs.declared.names.NodeId.{NodeId}
use Rattle.pst_versions.specs.State.{State}
use Rattle.pst_line.specs.declared.place.LinePlace.{LinePlace}
use Rattle.pst_line.specs.Store.{Stored}
use Rattle.pst_history.specs.Meaning.{Meaning}
use Rattle.pst_history.specs.History.{History, counts_of, next_run}
use Rattle.pst_history.specs.Sound.{IsSoundHistory}
use Rattle.pst_engine_runs.specs.Stands.{HoldsVersions}
use Rattle.pst_linerun.specs.declared.session.LineSession.{LineSession}

-- A session with this budget and next run number, and a store, stand for a history: the store's versions are the history's, with
-- their parents, runs and heaps; no run is open, and no store answered Memory. Each version's parent is the one before it, since a
-- store of a linear history has no others. There are at most as many versions as the next run number, and no record of a version
-- is of a run with that number or a greater one, since that is so of every sound history.
pub record LineStands (m : Meaning) (budget next : ℕ) (s : State LinePlace NodeId) (stored : Stored) (h : History) : Type 0 where
  pub sound : IsSoundHistory m h
  pub same_budget : budget ≡ h.budget
  pub same_next : next ≡ next_run h
  pub shape : s.shape ≡ m.shape
  pub counts : s.counts ≡ counts_of m h
  pub versions : HoldsVersions m s h
  pub none : stored.opened ≡ None
  pub whole : stored.failed ≡ false

-- a session that is not failed, and a store, stand for a history
pub record SessionStands (m : Meaning) (session : LineSession) (s : State LinePlace NodeId) (stored : Stored) (h : History) : Type 0 where
  pub works : session.failed ≡ false
  pub stands : LineStands m session.budget session.next_run.0 s stored h
