use Rattle.std.proofs.Common.{◌≡◌, ◌-◌, drop}
use Rattle.pst_questions.specs.Walk.{names_of, AreEntries, pointers_of, all_noted}
use Rattle.pst_questions.proofs.walk.note_targets.Given as goal

abbrev pub invariant-loop-slot : goal.invariant-loop-slot
invariant-loop-slot g l = record {
  names : all_noted (names_of l.found) (drop (l.slot - l.first) (pointers_of (g.H.HeapAt.state l.heap) l.at l.r)) ≡ all_noted (names_of l.fn.found) (pointers_of (g.H.HeapAt.state l.heap) l.at l.r);
  entries : AreEntries (g.H.HeapAt.state l.heap) l.at l.found;
}
