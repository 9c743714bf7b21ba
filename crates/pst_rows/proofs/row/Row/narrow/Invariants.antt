use Rattle.std.proofs.Common.{◌≡◌, ◌-◌, ℕ, ◌<◌, get_or}
use Rattle.pst_order.specs.Places.{rank}
use Rattle.pst_rows.specs.Rows.{no_stamp}
use Rattle.pst_rows.specs.Steps.{AreBounds, IsHalf}
use Rattle.pst_rows.proofs.row.Row.narrow.Given as goal

abbrev pub invariant-loop-index : goal.invariant-loop-index
invariant-loop-index g l =
    record {
      bounds : AreBounds (g.O.Order.places l.order) l.self l.bounds;
      passed : l.gap ≡ 1 → (k : ℕ) → k < l.index → IsHalf (rank (g.O.Order.places l.order)) l.self.cells.stamps (rank (g.O.Order.places l.order) (get_or l.self.cells.stamps k no_stamp).place.0) → ⊥;
    }

abbrev pub decreases-loop-index : goal.decreases-loop-index
decreases-loop-index g l = l.index-end - l.index
