-- How a linear history is answered, and what its line store is left in.
use Rattle.std.specs.Prelude.{◌≡◌, ◌+◌, ◌≤◌, None}
use Rattle.pst_base.specs.declared.names.NodeId.{NodeId}
use Rattle.pst_program.specs.declared.program.Program.{Program}
use Rattle.pst_history.specs.Meaning.{Meaning}
use Rattle.pst_history.specs.History.{History, counts_of, opening}
use Rattle.pst_history.specs.Direct.{meaning_of}
use Rattle.pst_versions.specs.State.{State}
use Rattle.pst_engine_runs.specs.Stands.{HoldsVersions}
use Rattle.pst_line_nodes.specs.Line.{potential}
use Rattle.pst_line.specs.declared.place.LinePlace.{LinePlace}
use Rattle.pst_line.specs.Store.{Stored, bound, IsRested}
use Rattle.pst_linerun.specs.declared.session.LineSession.{LineSession}
use Rattle.pst_linerun.specs.Standing.{SessionStands}
use Rattle.pst_linerun.specs.Linear.{line_reply, line_after}
use Rattle.pst_cli_scripts.specs.Script.{Rules}

-- only the newest version may be written: the versions form a line, which begins with version 0 alone
abbrev pub by_line : Rules
by_line = record { first = λ m. opening m.shape; reply = line_reply; after = line_after }

-- The nodes, and the stamped values of newest nodes, which pay for copies to come, are at most one for each record that was made
-- and one for each field that was written.
abbrev pub IsLineBounded : State LinePlace NodeId → Stored → Type 0
IsLineBounded s stored = stored.line.count + potential stored.line ≤ bound s.counts

-- The line store holds each version of the history, with its parent, its run and its heap, and what was made and written is
-- counted; no run is open; each pointer segment lies in the stretch of the node that it holds, and each node has at most one
-- stamped value more than its record may have pointers to it; and there are at most as many nodes as what was counted pays for.
pub record IsLineLeft (m : Meaning) (s : State LinePlace NodeId) (stored : Stored) (h : History) : Type 0 where
  pub versions : HoldsVersions m s h
  pub counts : s.counts ≡ counts_of m h
  pub none : stored.opened ≡ None
  pub rested : IsRested stored
  pub bounded : IsLineBounded s stored

-- After want of memory it holds each version of the history, and the bound still holds.
pub record IsLineBroken (m : Meaning) (s : State LinePlace NodeId) (stored : Stored) (h : History) : Type 0 where
  pub versions : HoldsVersions m s h
  pub bounded : IsLineBounded s stored

-- a session and a line store stand for a history of a program
pub record IsLining (program : Program) (session : LineSession) (s : State LinePlace NodeId) (stored : Stored) (m : Meaning) (h : History) : Type 0 where
  pub meaning : m ≡ meaning_of program
  pub stands : SessionStands m session s stored h
