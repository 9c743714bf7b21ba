use Rattle.std.proofs.Common.{◌≡◌, nat_lt, take}
use Rattle.std.specs.Prelude.{count_by}
use Rattle.pst_order.specs.Places.{rank}
use Rattle.pst_rows.proofs.stamps.middle_from.Given as goal

abbrev pub invariant-loop-stamp : goal.invariant-loop-stamp
invariant-loop-stamp g l =
    record {
      earlier : l.before ≡ count_by (λ e. nat_lt (rank (g.O.Order.places l.order) e.place.0) (rank (g.O.Order.places l.order) l.at.0)) (take l.stamp-index l.stamps);
      later : l.after ≡ count_by (λ e. nat_lt (rank (g.O.Order.places l.order) l.at.0) (rank (g.O.Order.places l.order) e.place.0)) (take l.stamp-index l.stamps);
    }
