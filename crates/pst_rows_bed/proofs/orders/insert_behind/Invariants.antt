use Rattle.std.proofs.Common.{◌≡◌, ◌+◌, length}
use Rattle.pst_order.specs.Places.{IsIn}
use Rattle.pst_rows_bed.proofs.orders.insert_behind.Given as goal

abbrev pub invariant-loop-k : goal.invariant-loop-k
invariant-loop-k g l =
    record {
      count : length (g.O.Order.places l.order) ≡ length (g.O.Order.places l.initial.order) + l.k;
      last : IsIn (g.O.Order.places l.order) l.last.0;
    }
