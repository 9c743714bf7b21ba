use Rattle.std.proofs.Common.{◌≡◌, ◌++◌, map, take, drop}
use Rattle.pst_line_nodes.specs.Nodes.{entry_without}
use Rattle.pst_line_nodes.proofs.node.free_all.Given as goal

abbrev pub invariant-loop-entry : goal.invariant-loop-entry
invariant-loop-entry l = l.entries ≡ map (entry_without l.x.0 l.field.0) (take l.entry-index l.fn.entries) ++ drop l.entry-index l.fn.entries
