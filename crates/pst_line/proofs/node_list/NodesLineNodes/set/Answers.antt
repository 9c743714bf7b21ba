use Rattle.std.proofs.Common.{true}
use Rattle.pst_line.proofs.node_list.NodesLineNodes.set.Goals as goal

pub returns-clause-replaces : goal.returns-clause-replaces
returns-clause-replaces c = λ e. c.set.ensures.replaces (λ i. true) e
