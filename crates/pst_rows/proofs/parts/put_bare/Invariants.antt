use Rattle.std.proofs.Common.{◌≡◌, ◌≤◌, max, [], take, map}
use Rattle.pst_rows.specs.Parts.{bare_slot}
use Rattle.pst_rows.proofs.parts.put_bare.Given as goal

abbrev pub invariant-loop-base : goal.invariant-loop-base
invariant-loop-base l = record {
  slots : l.cells.slots ≡ map bare_slot (take l.base-index l.bases);
  stamps : l.cells.stamps ≡ [];
  room : l.cells.capacity ≤ max l.initial.cells.capacity l.base-index;
}
