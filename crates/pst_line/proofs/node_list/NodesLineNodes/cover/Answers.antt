use Rattle.std.proofs.Common.{true}
use Rattle.pst_line.proofs.node_list.NodesLineNodes.cover.Goals as goal

pub returns-clause-covers : goal.returns-clause-covers
returns-clause-covers c = (c.cover.ensures (λ i. true)).0

pub returns-clause-home : goal.returns-clause-home
returns-clause-home c = (c.cover.ensures (λ i. true)).1
