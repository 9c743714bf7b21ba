use Rattle.std.proofs.Common.{refl, ◌≡◌, length, sym, ap, ◌∙◌, subst, arith}
use Rattle.pst_rows.specs.declared.row.Row.{Row}
use Rattle.pst_order.specs.Places.{rank}
use Rattle.pst_rows.specs.Rows.{IsRow, stamped_count}
use Rattle.pst_rows.specs.Changes.{IsSplitStamp}
use Rattle.pst_nodes.proofs.NodeLemmas.{row_in}
use Rattle.pst_repair.specs.Load.{stamped_at}
use Rattle.pst_repair.proofs.LoadLemmas.{stamped_is}
use Rattle.pst_repair.proofs.room.split_place.Goals as goal

pub split_stamp-requires : goal.split_stamp-requires
split_stamp-requires g c = subst (λ (v : Row). IsRow (rank (g.O.Order.places c.args.order.now)) (length (g.O.Order.places c.args.order.now)) v)
    (sym (c.row.ensures c.row.result.now)) (row_in (g.O.Order.places c.args.order.now) c.args.nodes.now.list.items c.args.id.0 c.row.result.now
    c.requires.there c.requires.rows)

pub unreachable-requires : goal.unreachable-requires
unreachable-requires g c =
    let e : stamped_at c.args.nodes.now.list.items c.args.id.0 ≡ 0 =
    stamped_is c.args.nodes.now.list.items c.args.id.0 c.row.result.now c.requires.there ∙ ap stamped_count (sym (c.row.ensures c.row.result.now))
    ∙ c.in-None.ensures.none.0 refl in
    omega (arith, c.requires.some)

pub returns : goal.returns
returns g c d = subst (λ (v : Row). IsSplitStamp (rank (g.O.Order.places c.args.order.now)) v ((rank (g.O.Order.places c.args.order.now)) c.in-Some.at.0)) (c.row.ensures d) c.in-Some.ensures.some
