use Rattle.std.proofs.Common.{◌≡◌, ℕ, ◌<◌, true}
use Rattle.pst_line_nodes.specs.Full.{is_other_entry}
use Rattle.pst_line_nodes.specs.Nodes.{entry_of}
use Rattle.pst_line_nodes.proofs.node.Node.open_slot.Given as goal

abbrev pub invariant-loop-i : goal.invariant-loop-i
invariant-loop-i l = (k : ℕ) → k < l.i → is_other_entry l.x.0 l.field.0 (entry_of l.self k) ≡ true
