use Rattle.pst_line.proofs.Wholes.{sound_in}
use Rattle.pst_line.proofs.line_heap.LineStoreHeapAt.known.Goals as goal

pub returns : goal.returns
returns c = sound_in c.args.self.now c.whole.ensures
