use Rattle.pst_machine.proofs.Counting.{own_counts, slice_counts}
use Rattle.pst_machine.proofs.laws.slices_count_by_the_definition.Goals as goal

pub returns-clause-own : goal.returns-clause-own
returns-clause-own g c = λ h. own_counts (g.H.HeapAt.state h)

pub returns-clause-sums : goal.returns-clause-sums
returns-clause-sums g c = λ h k. slice_counts (g.H.HeapAt.state h) (g.H.HeapAt.state k)
