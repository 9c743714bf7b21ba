use Rattle.std.proofs.Common.{sym, ◌∙◌}
use Rattle.pst_base.specs.Name.{root_name}
use Rattle.pst_line_nodes.proofs.NodeLemmas.{of_node-at}
use Rattle.pst_line_nodes.proofs.nodes.Nodes.name.Goals as goal

pub returns : goal.returns
returns c = c.name.ensures ∙ sym (of_node-at (λ n. n.name) root_name c.args.self.now c.args.x.0 c.node.result.now c.node.ensures)
