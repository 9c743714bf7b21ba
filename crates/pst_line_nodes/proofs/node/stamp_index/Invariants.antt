use Rattle.std.proofs.Common.{◌≡◌, ℕ, ◌<◌, get_or}
use Rattle.pst_line_nodes.specs.declared.content.StampedContent.{StampedContent}
use Rattle.pst_line_nodes.proofs.node.stamp_index.Given as goal

abbrev pub invariant-loop-i : goal.invariant-loop-i
invariant-loop-i l = (k : ℕ) (d : StampedContent) → k < l.i → (get_or l.stamped k d).slot.0 ≡ l.slot.0 → (get_or l.stamped k d).from.0 ≡ l.from.0 → ⊥
