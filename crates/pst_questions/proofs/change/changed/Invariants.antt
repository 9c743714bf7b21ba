use Rattle.std.proofs.Common.{◌<◌, length}
use Rattle.pst_questions.specs.Change.{readings_of}
use Rattle.pst_questions.proofs.ChangeLemmas.{Unchanged}
use Rattle.pst_questions.proofs.change.changed.Given as goal

abbrev pub invariant-loop-parent : goal.invariant-loop-parent
invariant-loop-parent g l =
    (l.current.0 < length (g.H.HeapAt.state l.heap).versions)
    × Unchanged (readings_of (g.H.HeapAt.state l.heap) l.path) l.fn.version.0 l.current.0

abbrev pub decreases-loop-parent : goal.decreases-loop-parent
decreases-loop-parent g l = l.current.0
