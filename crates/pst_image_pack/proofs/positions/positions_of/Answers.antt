use Rattle.std.proofs.Common.{◌≡◌, ℕ, ◌<◌, arith, length, get_or, ap, ◌∙◌}
use Rattle.std.proofs.Math.ListN.{length-set}
use Rattle.pst_order.specs.declared.order.Pos.{Pos}
use Rattle.pst_order.specs.Places.{rank}
use Rattle.pst_image_pack.proofs.Ranks.{next_rank, next_there, next_last, small_number, filled, fill_more, fill_all}
use Rattle.pst_image_pack.proofs.positions.positions_of.Goals as goal
use Rattle.pst_image_pack.proofs.positions.positions_of.Goals.{in-Some, in_default}

pub index_mut-requires : goal.index_mut-requires
index_mut-requires g c =
    let ps = g.O.Order.places c.args.order.now in
    omega (arith, small_number ps c.loop-position.place.0 c.numbered.ensures c.loop-position.invariant.there, c.loop-position.invariant.wide)

pub loop-position-preserved : goal.loop-position-preserved
loop-position-preserved g c =
    let ps = g.O.Order.places c.args.order.now in
    let k = c.loop-position.position in
    let inv = c.loop-position.invariant in
    let high : k < length ps = omega (arith, c.count_of-count.ensures) in
    let at = inv.at high in
    let small : c.loop-position.place.0 < length c.loop-position.positions.items = omega (arith, small_number ps c.loop-position.place.0 c.numbered.ensures inv.there, inv.wide) in
    let more = fill_more ps c.loop-position.positions.items k c.loop-position.place.0 high at inv.wide small inv.each in
    let wide = length-set c.loop-position.positions.items c.loop-position.place.0 k ∙ inv.wide in
    elim c.match-next.branch [
      | in-Some w ↦
          let is = next_rank ps (rank ps c.loop-position.place.0) w.in-Some.next c.next.result c.first-place.ensures.distinct w.in-Some.is c.next.ensures in
          let there = next_there ps (rank ps c.loop-position.place.0) w.in-Some.next c.next.result w.in-Some.is c.next.ensures in
          let same : rank ps c.match-next.place.0 ≡ rank ps w.in-Some.next.0 = ap (λ (q : Pos). rank ps q.0) w.place-is in
          record { wide = wide; there = omega (arith, same, is, there); at = λ l. omega (arith, same, is, at); each = more }
      | in_default w ↦
          let same : rank ps c.match-next.place.0 ≡ rank ps c.loop-position.place.0 = ap (λ (q : Pos). rank ps q.0) w.place-is in
          let last = next_last ps (rank ps c.loop-position.place.0) c.next.result w.in_default.is c.next.ensures in
          record { wide = wide; there = omega (arith, same, inv.there); at = λ l. absurd (omega (arith, l, last, at)); each = more }
    ]

pub returns : goal.returns
returns g c =
    let ps = g.O.Order.places c.args.order.now in
    let inv = c.loop-position.invariant in
    let last : c.loop-position.position ≡ length ps = omega (arith, c.count_of-count.ensures) in
    record {
      count = inv.wide;
      each = λ p. ap (get_or c.loop-position.positions.items p) inv.wide ∙ inv.each p ∙ ap (λ (k : ℕ). filled ps k p) last ∙ fill_all ps p;
    }
