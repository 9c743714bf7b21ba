use Rattle.std.proofs.Common.{sym, ◌∙◌}
use Rattle.pst_line_nodes.proofs.NodeLemmas.{of_node-at}
use Rattle.pst_line_nodes.proofs.nodes.Nodes.begins.Goals as goal

pub returns : goal.returns
returns c = c.begins.ensures ∙ sym (of_node-at (λ n. n.first) 0 c.args.self.now c.args.id.0 c.node.result.now c.node.ensures)
