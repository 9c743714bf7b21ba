use Rattle.pst_line_nodes.specs.Nodes.{entry_without}
use Rattle.pst_line_nodes.proofs.Lists.{map_step}
use Rattle.pst_line_nodes.proofs.node.free_all.Goals as goal

pub loop-entry-preserved : goal.loop-entry-preserved
loop-entry-preserved c = map_step (entry_without c.args.x.0 c.args.field.0) c.args.entries.now c.loop-entry.entries c.loop-entry.entry-index c.freed.result _ c.loop-entry-test.true c.loop-entry.auto.entries c.loop-entry.invariant c.freed.ensures
