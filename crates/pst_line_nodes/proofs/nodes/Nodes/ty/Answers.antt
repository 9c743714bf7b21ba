use Rattle.std.proofs.Common.{sym, ◌∙◌}
use Rattle.pst_base.specs.Shape.{root_type}
use Rattle.pst_line_nodes.proofs.NodeLemmas.{of_node-at}
use Rattle.pst_line_nodes.proofs.nodes.Nodes.ty.Goals as goal

pub returns : goal.returns
returns c = c.ty.ensures ∙ sym (of_node-at (λ n. n.ty) root_type c.args.self.now c.args.x.0 c.node.result.now c.node.ensures)
