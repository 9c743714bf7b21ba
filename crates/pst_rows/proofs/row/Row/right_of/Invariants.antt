use Rattle.std.proofs.Common.{◌≡◌, ℕ, ◌<◌, ◌≤◌, [], length, get_or}
use Rattle.pst_order.specs.Places.{rank}
use Rattle.pst_rows.specs.Values.{no_slot, room_for}
use Rattle.pst_rows.specs.Rows.{content_at}
use Rattle.pst_rows.proofs.row.Row.right_of.Given as goal

abbrev pub invariant-loop-slot : goal.invariant-loop-slot
invariant-loop-slot g l =
    record {
      count : length l.cells.slots ≡ l.slot;
      contents : (k : ℕ) → k < l.slot → (get_or l.cells.slots k no_slot).content ≡ content_at (rank (g.O.Order.places l.order)) l.self k (rank (g.O.Order.places l.order) l.at.0);
      starts : (k : ℕ) → (get_or l.cells.slots k no_slot).start ≡ 0;
      stamps : l.cells.stamps ≡ [];
      room : l.cells.capacity ≤ room_for (length l.self.cells.slots) (length l.self.cells.stamps);
    }
