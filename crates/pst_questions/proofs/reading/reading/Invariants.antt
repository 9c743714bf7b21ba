use Rattle.std.proofs.Common.{length}
use Rattle.pst_questions.proofs.ReadingLemmas.{Reads}
use Rattle.pst_questions.proofs.reading.reading.Given as goal

abbrev pub invariant-loop-step : goal.invariant-loop-step
invariant-loop-step g l = Reads (g.H.HeapAt.state l.heap) l.at l.path l.object l.rest

abbrev pub decreases-loop-step : goal.decreases-loop-step
decreases-loop-step g l = length l.rest
