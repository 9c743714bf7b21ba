use Rattle.std.proofs.Common.{◌≡◌, ℕ, ◌<◌, length, get_or}
use Rattle.pst_order.specs.Places.{rank}
use Rattle.pst_image_pack.proofs.Ranks.{filled}
use Rattle.pst_image_pack.proofs.positions.positions_of.Given as goal

abbrev pub invariant-loop-position : goal.invariant-loop-position
invariant-loop-position g l = record {
  wide : length l.positions.items ≡ length (g.O.Order.places l.order);
  there : rank (g.O.Order.places l.order) l.place.0 < length (g.O.Order.places l.order);
  at : l.position < length (g.O.Order.places l.order) → rank (g.O.Order.places l.order) l.place.0 ≡ l.position;
  each : (p : ℕ) → get_or l.positions.items p (length (g.O.Order.places l.order)) ≡ filled (g.O.Order.places l.order) l.position p;
}
