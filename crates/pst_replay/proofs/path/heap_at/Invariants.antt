use Rattle.std.proofs.Common.{◌≡◌, length}
use Rattle.pst_history.specs.History.{heap_of}
use Rattle.pst_history.specs.Direct.{meaning_of}
use Rattle.pst_replay.specs.Replay.{IsPath, kept_for}
use Rattle.pst_replay.proofs.path.heap_at.Given as goal

abbrev pub invariant-loop-next : goal.invariant-loop-next
invariant-loop-next l = record {
  path : IsPath l.history.since.versions l.at l.fn.version.0 l.path.items;
  shape : l.heap.shape ≡ (meaning_of l.program).shape;
  heap : l.heap.heap ≡ heap_of (meaning_of l.program) (kept_for l.program l.history) l.at;
}

abbrev pub decreases-loop-next : goal.decreases-loop-next
decreases-loop-next l = length l.path.items
