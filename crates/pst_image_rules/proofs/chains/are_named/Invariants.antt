use Rattle.std.proofs.Common.{ℕ, ◌<◌}
use Rattle.pst_image_rules.specs.Nodes.{node_at}
use Rattle.pst_image_rules.specs.Chains.{IsNamed}
use Rattle.pst_image_rules.proofs.chains.are_named.Given as goal

abbrev pub invariant-loop-node : goal.invariant-loop-node
invariant-loop-node l = (i : ℕ) → i < l.node-index → IsNamed l.places l.next_run (node_at l.nodes i)
