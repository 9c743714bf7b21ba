use Rattle.std.proofs.Common.{◌≡◌, ℕ, ◌<◌, length, get_or}
use Rattle.pst_rows.specs.Values.{no_slot}
use Rattle.pst_rows.proofs.parts.forget_starts.Given as goal

abbrev pub invariant-loop-slot : goal.invariant-loop-slot
invariant-loop-slot l = record {
  count : length l.cells.slots ≡ length l.initial.cells.slots;
  contents : (g : ℕ) → (get_or l.cells.slots g no_slot).content ≡ (get_or l.initial.cells.slots g no_slot).content;
  starts : (g : ℕ) → g < l.slot → (get_or l.cells.slots g no_slot).start ≡ 0;
  stamps : l.cells.stamps ≡ l.initial.cells.stamps;
  capacity : l.cells.capacity ≡ l.initial.cells.capacity;
}
