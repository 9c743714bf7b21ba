use Rattle.std.proofs.Common.{ℕ, ◌<◌}
use Rattle.pst_image_rules.specs.Nodes.{node_at, IsNode}
use Rattle.pst_image_rules.proofs.nodes.are_nodes.Given as goal

abbrev pub invariant-loop-node : goal.invariant-loop-node
invariant-loop-node l = (i : ℕ) → i < l.node-index → IsNode l.shape l.places l.nodes (node_at l.nodes i)
