use Rattle.std.proofs.Common.{◌≡◌, suc, ◌+◌, ap, sym, ◌∙◌, arith}
use Rattle.pst_image_meaning.specs.Denoted.{places_of}
use Rattle.pst_image_unpack.proofs.Placing.{one_place, only_place, last_there, place_count, next_place}
use Rattle.pst_image_unpack.proofs.order.order_of.Goals as goal

pub loop-init : goal.loop-init
loop-init g c =
    let ps = g.O.Order.places c.in_ok-order.order in
    record { places = one_place ps c.in_ok-order.ensures c.numbered.ensures; last = ap suc (only_place ps c.first-last.result.0 c.in_ok-order.ensures c.numbered.ensures c.first-last.ensures.first) }

pub insert_after-requires-clause-in_list : goal.insert_after-requires-clause-in_list
insert_after-requires-clause-in_list g c = last_there (g.O.Order.places c.loop.order) c.loop.last.0 (c.loop.invariant.places ∙ ap places_of (sym c.loop.invariant.last))

pub insert_after-requires-clause-few : goal.insert_after-requires-clause-few
insert_after-requires-clause-few g c =
    let many = place_count (g.O.Order.places c.loop.order) c.loop.counter c.loop.invariant.places in
    omega (arith, many, c.loop-test.true, c.requires.few)

pub loop-preserved : goal.loop-preserved
loop-preserved g c =
    let last = c.loop.last.0 in
    let (is, places) = next_place (g.O.Order.places c.loop.order) (g.O.Order.places c.insert_after.new.self) last c.in_ok-last.last.0
    (c.loop.invariant.places ∙ ap places_of (sym c.loop.invariant.last)) c.in_ok-last.ensures.ok c.numbered-in-loop.ensures in
    let count : suc (suc last) ≡ c.loop.counter + 1 = omega (arith, c.loop.invariant.last) in
    record { places = places ∙ ap places_of count; last = ap suc is ∙ count }
