use Rattle.std.proofs.Common.{◌<◌, length}
use Rattle.pst_order.specs.Places.{IsIn}
use Rattle.pst_rows_bed.proofs.orders.compare_many.Given as goal

abbrev pub invariant-loop-k : goal.invariant-loop-k
invariant-loop-k g l = record { index : l.index < length l.places; last : IsIn (g.O.Order.places l.order) l.last.0 }
