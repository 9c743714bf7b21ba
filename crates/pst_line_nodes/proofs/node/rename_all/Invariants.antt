use Rattle.std.proofs.Common.{◌≡◌, ◌++◌, map, take, drop}
use Rattle.pst_line_nodes.specs.Nodes.{entry_renamed}
use Rattle.pst_line_nodes.proofs.node.rename_all.Given as goal

abbrev pub invariant-loop-entry : goal.invariant-loop-entry
invariant-loop-entry l = l.entries ≡ map (entry_renamed l.x.0 l.z.0) (take l.entry-index l.fn.entries) ++ drop l.entry-index l.fn.entries
