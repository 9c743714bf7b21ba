use Rattle.std.proofs.Common.{true}
use Rattle.pst_line.proofs.node_list.NodesLineNodes.read.Goals as goal

pub returns : goal.returns
returns c = c.read.ensures (λ i. true)
