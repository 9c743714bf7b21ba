use Rattle.std.proofs.Common.{ℕ, List, arith, length-append}
use Rattle.pst_order.specs.declared.order.Pos.{Pos}
use Rattle.pst_rows_bed.proofs.OrderLemmas.{pushed_in, one_more}
use Rattle.pst_rows_bed.proofs.orders.insert_behind_first.Goals as goal

pub loop-k-preserved : goal.loop-k-preserved
loop-k-preserved g c =
    let old : List ℕ = g.O.Order.places c.loop-k.order in
    let new : List ℕ = g.O.Order.places c.insert_after.new.self in
    let first : Pos = c.first-first.result in
    let place : Pos = c.in_ok-place.place in
    record {
      count = omega (arith, c.loop-k.invariant.count, one_more old new first.0 place.0 c.first-first.ensures.in_list c.in_ok-place.ensures.ok);
      places = rw (c.in_ok-push.ensures.items, length-append) (omega (arith, c.loop-k.invariant.places));
      known = rw c.in_ok-push.ensures.items (pushed_in old new first.0 place c.loop-k.places.items c.first-first.ensures.in_list c.in_ok-place.ensures.ok c.loop-k.invariant.known);
    }
