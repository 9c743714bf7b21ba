use Rattle.pst_line_nodes.specs.Nodes.{entry_renamed}
use Rattle.pst_line_nodes.proofs.Lists.{map_step}
use Rattle.pst_line_nodes.proofs.node.rename_all.Goals as goal

pub loop-entry-preserved : goal.loop-entry-preserved
loop-entry-preserved c = map_step (entry_renamed c.args.x.0 c.args.z.0) c.args.entries.now c.loop-entry.entries c.loop-entry.entry-index c.renamed.result _ c.loop-entry-test.true c.loop-entry.auto.entries c.loop-entry.invariant c.renamed.ensures
