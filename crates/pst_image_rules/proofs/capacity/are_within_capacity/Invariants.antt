use Rattle.std.proofs.Common.{ℕ, ◌*◌, ◌<◌, ◌≤◌, length}
use Rattle.pst_image_rules.specs.Nodes.{node_at}
use Rattle.pst_image_rules.specs.Capacity.{half}
use Rattle.pst_image_rules.proofs.capacity.are_within_capacity.Given as goal

abbrev pub invariant-loop-node : goal.invariant-loop-node
invariant-loop-node l = (i : ℕ) → i < l.node-index → length (node_at l.nodes i).stamps ≤ 2 * half l.shape (node_at l.nodes i)
