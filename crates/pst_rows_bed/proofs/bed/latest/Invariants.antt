use Rattle.std.proofs.Common.{◌<◌, length}
use Rattle.pst_order.specs.Places.{rank}
use Rattle.pst_rows_bed.proofs.bed.latest.Given as goal

abbrev pub invariant-loop-stamp : goal.invariant-loop-stamp
invariant-loop-stamp g l = rank (g.O.Order.places l.order) l.since.0 < length (g.O.Order.places l.order)
