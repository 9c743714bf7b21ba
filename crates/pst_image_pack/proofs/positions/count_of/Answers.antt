use Rattle.std.proofs.Common.{arith}
use Rattle.pst_order.specs.Places.{rank}
use Rattle.pst_image_pack.proofs.Ranks.{next_rank, next_there, next_last}
use Rattle.pst_image_pack.proofs.positions.count_of.Goals as goal

pub loop-next-preserved : goal.loop-next-preserved
loop-next-preserved g c =
    let ps = g.O.Order.places c.args.order.now in
    let is = next_rank ps (rank ps c.loop-next.place.0) c.in-Some.next c.next.result c.first-place.ensures.distinct c.in-Some.is c.next.ensures in
    let there = next_there ps (rank ps c.loop-next.place.0) c.in-Some.next c.next.result c.in-Some.is c.next.ensures in
    record { there = omega (arith, is, there); at = omega (arith, is, c.loop-next.invariant.at) }

pub returns : goal.returns
returns g c =
    let ps = g.O.Order.places c.args.order.now in
    omega (arith, next_last ps (rank ps c.loop-next.place.0) c.next.result c.in_default.is c.next.ensures, c.loop-next.invariant.there, c.loop-next.invariant.at)
