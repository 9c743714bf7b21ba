use Rattle.std.proofs.Common.{None, Option, ℕ, ap, sym, ◌∙◌}
use Rattle.std.specs.Option.{option_map}
use Rattle.pst_base.specs.declared.names.NodeId.{NodeId}
use Rattle.pst_line_nodes.specs.Line.{onward}
use Rattle.pst_line_nodes.proofs.NodeLemmas.{of_node-at}
use Rattle.pst_line_nodes.proofs.nodes.Nodes.newest.Goals as goal

pub returns-in-Some : goal.returns-in-Some
returns-in-Some c = sym (ap (λ (o : Option ℕ). onward o c.args.y.0) (of_node-at (λ n. n.later) None c.args.self.now c.args.y.0 c.node.result.now c.node.ensures ∙ sym c.next.ensures ∙ ap (option_map (λ (i : NodeId). i.0)) c.in-Some.is))

pub returns-in-None : goal.returns-in-None
returns-in-None c = sym (ap (λ (o : Option ℕ). onward o c.args.y.0) (of_node-at (λ n. n.later) None c.args.self.now c.args.y.0 c.node.result.now c.node.ensures ∙ sym c.next.ensures ∙ ap (option_map (λ (i : NodeId). i.0)) c.in-None.is))
