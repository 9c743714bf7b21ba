use Rattle.std.proofs.Common.{ℕ, List, arith}
use Rattle.pst_rows_bed.proofs.OrderLemmas.{new_in, one_more}
use Rattle.pst_rows_bed.proofs.orders.insert_behind.Goals as goal

pub loop-k-preserved : goal.loop-k-preserved
loop-k-preserved g c =
    let old : List ℕ = g.O.Order.places c.loop-k.order in
    let new : List ℕ = g.O.Order.places c.insert_after.new.self in
    record {
      count = omega (arith, c.loop-k.invariant.count, one_more old new c.loop-k.last.0 c.in_ok-last.last.0 c.loop-k.invariant.last c.in_ok-last.ensures.ok);
      last = new_in old new c.loop-k.last.0 c.in_ok-last.last.0 c.loop-k.invariant.last c.in_ok-last.ensures.ok;
    }
