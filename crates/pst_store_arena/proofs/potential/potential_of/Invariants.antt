use Rattle.std.proofs.Common.{◌≡◌, sum_by, take}
use Rattle.pst_repair.specs.Load.{excess}
use Rattle.pst_store_arena.proofs.potential.potential_of.Given as goal

abbrev pub invariant-loop-node : goal.invariant-loop-node
invariant-loop-node l = l.sum ≡ sum_by (excess l.shape) (take l.node-index l.node-items)
