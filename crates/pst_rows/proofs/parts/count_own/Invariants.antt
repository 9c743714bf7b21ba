use Rattle.std.proofs.Common.{◌≡◌, take}
use Rattle.pst_rows.specs.Parts.{AreCounted}
use Rattle.pst_rows.proofs.parts.count_own.Given as goal

abbrev pub invariant-loop-index : goal.invariant-loop-index
invariant-loop-index l = record {
  counted : AreCounted l.initial.cells.slots l.cells.slots (take l.index l.initial.cells.stamps);
  stamps : l.cells.stamps ≡ l.initial.cells.stamps;
  capacity : l.cells.capacity ≡ l.initial.cells.capacity;
}
