use Rattle.std.proofs.Common.{◌≡◌, ◌≤◌, max, length, filter, nat_lt, take}
use Rattle.pst_rows.specs.Values.{room_for}
use Rattle.pst_order.specs.Places.{rank}
use Rattle.pst_rows.proofs.stamps.put_after.Given as goal

abbrev pub invariant-loop-later : goal.invariant-loop-later
invariant-loop-later g l = record {
  slots : l.cells.slots ≡ l.initial.cells.slots;
  stamps : l.cells.stamps ≡ filter (λ e. nat_lt (rank (g.O.Order.places l.order) l.at.0) (rank (g.O.Order.places l.order) e.place.0)) (take l.later-index l.stamps);
  room : l.cells.capacity ≤ max l.initial.cells.capacity (room_for (length l.cells.slots) (length l.cells.stamps));
  few : length l.cells.stamps ≤ l.later-index;
}
