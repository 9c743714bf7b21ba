use Rattle.std.proofs.Common.{nat_lt}
use Rattle.pst_order.specs.Places.{rank}
use Rattle.pst_rows.proofs.KeepLemmas.{AreKept}
use Rattle.pst_rows.proofs.cells.move_before.Given as goal

abbrev pub invariant-loop-index : goal.invariant-loop-index
invariant-loop-index g l = AreKept (λ e. nat_lt (rank (g.O.Order.places l.order) e.place.0) (rank (g.O.Order.places l.order) l.at.0)) l.front l.initial.cells l.cells l.kept l.index
