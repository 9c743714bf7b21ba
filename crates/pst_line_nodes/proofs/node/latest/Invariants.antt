use Rattle.std.proofs.Common.{◌≡◌, take}
use Rattle.pst_line_nodes.specs.Rows.{held}
use Rattle.pst_line_nodes.proofs.node.latest.Given as goal

abbrev pub invariant-loop-stamp : goal.invariant-loop-stamp
invariant-loop-stamp l = l.content ≡ held (take l.stamp-index l.stamped) l.slot l.at.0 l.fn.base
