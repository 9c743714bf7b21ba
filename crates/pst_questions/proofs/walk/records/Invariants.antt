use Rattle.std.proofs.Common.{◌^◌, ◌-◌}
use Rattle.pst_questions.specs.Walk.{names_of, AreEntries}
use Rattle.pst_questions.proofs.Walked.{WalkedOn}
use Rattle.pst_questions.proofs.walk.records.Given as goal

abbrev pub invariant-loop-number : goal.invariant-loop-number
invariant-loop-number g l = record {
  walked : WalkedOn ((g.H.HeapAt.state l.heap).heap l.at) l.number (names_of l.found);
  entries : AreEntries (g.H.HeapAt.state l.heap) l.at l.found;
}

abbrev pub decreases-loop-number : goal.decreases-loop-number
decreases-loop-number g l = 2 ^ 64 - l.number
