use Rattle.std.proofs.Common.{◌≡◌, ◌+◌, ◌<◌, length}
use Rattle.pst_rows_bed.specs.Beds.{AreIn}
use Rattle.pst_rows_bed.proofs.orders.insert_at_random.Given as goal

abbrev pub invariant-loop-k : goal.invariant-loop-k
invariant-loop-k g l =
    record {
      plain_count : length (g.A.Order.places l.plain) ≡ length (g.A.Order.places l.initial.plain) + l.k;
      quick_count : length (g.B.Order.places l.quick) ≡ length (g.B.Order.places l.initial.quick) + l.k;
      some : 0 < length l.places.items;
      plain : AreIn (g.A.Order.places l.plain) l.places.items;
      quick : AreIn (g.B.Order.places l.quick) l.places.items;
    }
