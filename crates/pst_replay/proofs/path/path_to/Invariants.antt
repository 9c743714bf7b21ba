use Rattle.std.proofs.Common.{◌≤◌, ℕ, length, List, ◌++◌}
use Rattle.pst_replay.specs.Replay.{IsPath}
use Rattle.pst_replay.proofs.path.path_to.Given as goal

abbrev pub invariant-loop-at : goal.invariant-loop-at
invariant-loop-at l = record {
  there : l.at ≤ length l.history.versions;
  path : (rest : List ℕ) → IsPath l.history.versions 0 l.at rest → IsPath l.history.versions 0 l.fn.version.0 (l.path.items ++ rest);
}

abbrev pub decreases-loop-at : goal.decreases-loop-at
decreases-loop-at l = l.at
