use Rattle.std.proofs.Common.{◌≡◌}
use Rattle.pst_rows.specs.Values.{before_slot}
use Rattle.pst_rows.specs.Parts.{AreAddedTo}
use Rattle.pst_rows.proofs.parts.add_up.Given as goal

abbrev pub invariant-loop-slot : goal.invariant-loop-slot
invariant-loop-slot l = record {
  sum : l.before ≡ before_slot l.initial.cells.stamps l.slot;
  added : AreAddedTo l.initial.cells.slots l.cells.slots l.initial.cells.stamps l.slot;
  stamps : l.cells.stamps ≡ l.initial.cells.stamps;
  capacity : l.cells.capacity ≡ l.initial.cells.capacity;
}
