use Rattle.pst_line_nodes.specs.Copying.{AreRenamed, IsTargetBelow, node_at}
use Rattle.pst_line_nodes.proofs.nodes.Nodes.rename_partners.Given as goal

abbrev pub invariant-loop-slot : goal.invariant-loop-slot
invariant-loop-slot l = AreRenamed l.fn.self l.self l.x.0 l.z.0 (IsTargetBelow (node_at l.fn.self l.z.0) l.slot)
