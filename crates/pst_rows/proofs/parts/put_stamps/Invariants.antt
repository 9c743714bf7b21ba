use Rattle.std.proofs.Common.{◌≡◌, ◌≤◌, max, length, take}
use Rattle.pst_rows.specs.Values.{room_for}
use Rattle.pst_rows.proofs.parts.put_stamps.Given as goal

abbrev pub invariant-loop-stamp : goal.invariant-loop-stamp
invariant-loop-stamp l = record {
  slots : l.cells.slots ≡ l.initial.cells.slots;
  stamps : l.cells.stamps ≡ take l.stamp-index l.stamps;
  room : l.cells.capacity ≤ max l.initial.cells.capacity (room_for (length l.initial.cells.slots) l.stamp-index);
}
