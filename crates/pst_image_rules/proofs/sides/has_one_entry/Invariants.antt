use Rattle.pst_image_rules.specs.Sides.{HasEntryIn, IsCounted}
use Rattle.pst_image_rules.proofs.sides.has_one_entry.Given as goal

abbrev pub invariant-loop-slot : goal.invariant-loop-slot
invariant-loop-slot l = IsCounted (HasEntryIn l.nodes l.pointer) l.first l.slot l.found
