use Rattle.std.proofs.Common.{List}
use Rattle.pst_line.specs.declared.place.Undo.{Undo}
use Rattle.pst_line.specs.Back.{IsGoing}
use Rattle.pst_line.specs.Held.{Held}
use Rattle.pst_line.proofs.Back.{left}
use Rattle.pst_line.proofs.undo_run.take_back.Given as goal

abbrev pub invariant-loop-number : goal.invariant-loop-number
invariant-loop-number g l = (h : Held) (rest : List Undo) → IsGoing h (g.N.LineNodes.seen l.fn.nodes) l.stamp.0 (left l.step 0 l.entries rest) → IsGoing h (g.N.LineNodes.seen l.nodes) l.stamp.0 (left l.step l.number l.entries rest)
