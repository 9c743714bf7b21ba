use Rattle.std.proofs.Common.{◌≡◌, ◌+◌, length}
use Rattle.pst_rows_bed.specs.Beds.{AreIn}
use Rattle.pst_rows_bed.proofs.orders.insert_behind_first.Given as goal

abbrev pub invariant-loop-k : goal.invariant-loop-k
invariant-loop-k g l =
    record {
      count : length (g.O.Order.places l.order) ≡ length (g.O.Order.places l.initial.order) + l.k;
      places : length l.places.items ≡ l.k;
      known : AreIn (g.O.Order.places l.order) l.places.items;
    }
