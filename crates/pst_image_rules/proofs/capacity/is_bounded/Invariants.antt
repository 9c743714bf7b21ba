use Rattle.std.proofs.Common.{◌≡◌, ◌+◌, ◌≤◌, length, take}
use Rattle.std.specs.List.{sum_by}
use Rattle.pst_image_rules.specs.Capacity.{excess}
use Rattle.pst_image_rules.proofs.capacity.is_bounded.Given as goal

abbrev pub invariant-loop-node : goal.invariant-loop-node
invariant-loop-node l = record { sum : l.total ≡ length l.nodes + sum_by (excess l.shape) (take l.node-index l.nodes); low : l.total ≤ l.bound }
