use Rattle.std.proofs.Common.{◌≡◌, suc, ◌-◌, ◌<◌, length}
use Rattle.pst_order.specs.Places.{rank}
use Rattle.pst_image_pack.proofs.positions.count_of.Given as goal

abbrev pub invariant-loop-next : goal.invariant-loop-next
invariant-loop-next g l = record {
  there : rank (g.O.Order.places l.order) l.place.0 < length (g.O.Order.places l.order);
  at : l.count ≡ suc (rank (g.O.Order.places l.order) l.place.0);
}

abbrev pub decreases-loop-next : goal.decreases-loop-next
decreases-loop-next g l = length (g.O.Order.places l.order) - l.count
