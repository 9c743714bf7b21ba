use Rattle.std.proofs.Common.{ℕ, ap, sym, ◌∙◌}
use Rattle.pst_line_nodes.specs.declared.content.Content.TheVariants.{Null}
use Rattle.pst_line_nodes.specs.Rows.{holds}
use Rattle.pst_line_nodes.proofs.NodeLemmas.{of_node-at}
use Rattle.pst_line_nodes.proofs.nodes.Nodes.read.Goals as goal

pub returns : goal.returns
returns c = λ made. c.read.ensures ∙ ap (λ (g : ℕ). holds c.node.result.now g c.args.at.0) c.from.ensures ∙ sym (of_node-at (λ d. holds d c.args.slot.0 c.args.at.0) Null c.args.self.now c.args.x.0 c.node.result.now c.node.ensures)
