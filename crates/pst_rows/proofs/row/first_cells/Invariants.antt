use Rattle.std.proofs.Common.{◌≡◌, ℕ, ◌+◌, ◌<◌, ◌≤◌, [], length, get_or}
use Rattle.pst_rows.specs.Values.{no_slot}
use Rattle.pst_rows.specs.Changes.{first_content}
use Rattle.pst_rows.proofs.row.first_cells.Given as goal

abbrev pub invariant-loop-slot : goal.invariant-loop-slot
invariant-loop-slot l =
    record {
      count : length l.cells.slots ≡ l.slot;
      each : (g : ℕ) → g < l.slot → get_or l.cells.slots g no_slot ≡ record { content = first_content l.shape g; start = 0 };
      stamps : l.cells.stamps ≡ [];
      room : l.cells.capacity ≤ l.count + 1;
    }
