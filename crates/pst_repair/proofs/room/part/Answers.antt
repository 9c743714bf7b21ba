use Rattle.pst_base.specs.declared.names.NodeId.{NodeId}
use Rattle.std.proofs.Common.{◌-◌, List, length, sym, ap, subst, arith}
use Rattle.pst_order.specs.Places.{rank}
use Rattle.pst_rows.specs.Changes.{IsSplitStamp}
use Rattle.pst_nodes.specs.declared.node.Node.{Node}
use Rattle.pst_nodes.specs.Arena.{row_at, AreRows}
use Rattle.pst_nodes.specs.Changes.{IsCutInTwo}
use Rattle.pst_repair.specs.Steps.{IsParted}
use Rattle.pst_repair.proofs.RoomLemmas.{if_ok_on, on_ok_of, on_err_on, on_err_of, same_rows, same_on, same_items}
use Rattle.pst_repair.proofs.room.part.Goals as goal

pub split_off-requires-clause-rows : goal.split_off-requires-clause-rows
split_off-requires-clause-rows g c = same_rows c.reserve.new.self.list.items c.make_room.new.nodes.list.items c.make_room.ensures.same
    (g.O.Order.places c.args.order.now) (subst (λ (ns : List Node). AreRows (g.O.Order.places c.args.order.now) ns) (sym c.reserve.ensures.items)
    c.requires.rows)

pub split_off-requires-clause-there : goal.split_off-requires-clause-there
split_off-requires-clause-there g c = omega (arith, c.make_room.ensures.same.count, ap length c.reserve.ensures.items, c.requires.there)

pub split_off-requires-clause-after : goal.split_off-requires-clause-after
split_off-requires-clause-after g c d =
    let i : IsSplitStamp (rank (g.O.Order.places c.args.order.now)) (row_at c.reserve.new.self.list.items c.args.x.0 d)
    ((rank (g.O.Order.places c.args.order.now)) c.args.at.0) =
    subst (λ (ns : List Node). IsSplitStamp (rank (g.O.Order.places c.args.order.now)) (row_at ns c.args.x.0 d)
    ((rank (g.O.Order.places c.args.order.now)) c.args.at.0)) (sym c.reserve.ensures.items) (c.requires.inside d) in
    rw ((ap (λ w. w.lo.0) (c.make_room.ensures.same.rows c.args.x.0 d))) i.low

pub split_off-requires-clause-before : goal.split_off-requires-clause-before
split_off-requires-clause-before g c d =
    let i : IsSplitStamp (rank (g.O.Order.places c.args.order.now)) (row_at c.reserve.new.self.list.items c.args.x.0 d)
    ((rank (g.O.Order.places c.args.order.now)) c.args.at.0) =
    subst (λ (ns : List Node). IsSplitStamp (rank (g.O.Order.places c.args.order.now)) (row_at ns c.args.x.0 d)
    ((rank (g.O.Order.places c.args.order.now)) c.args.at.0)) (sym c.reserve.ensures.items) (c.requires.inside d) in
    rw ((ap (λ w. w.hi.0) (c.make_room.ensures.same.rows c.args.x.0 d))) i.high

pub split_off-requires-clause-room : goal.split_off-requires-clause-room
split_off-requires-clause-room g c = omega (arith, c.make_room.ensures.same.count, c.make_room.ensures.spare, c.in_ok-reserve.ensures.room)

pub returns-clause-parted : goal.returns-clause-parted
returns-clause-parted g c =
    if_ok_on c.split_off.result {P = λ (z : NodeId). IsCutInTwo (g.O.Order.places c.args.order.now) c.make_room.new.nodes.list.items
    c.split_off.new.self.list.items c.args.x.0 z.0 c.args.at.0}
    {Q = λ (z : NodeId). IsParted (g.O.Order.places c.args.order.now) c.args.nodes.now.list.items c.split_off.new.self.list.items c.args.x.0 z.0
    c.args.at.0 c.args.first c.args.end (c.args.end - c.args.first)}
    (λ z h. record {
      mid = c.make_room.new.nodes.list.items;
      same =
          (same_on c.args.nodes.now.list.items c.reserve.new.self.list.items c.make_room.new.nodes.list.items
          (same_items c.args.nodes.now.list.items c.reserve.new.self.list.items c.reserve.ensures.items) c.make_room.ensures.same);
      room =
          c.in_ok-make_room.ensures.room;
      cut = h;
    })
    c.split_off.ensures.split

pub returns-clause-rows : goal.returns-clause-rows
returns-clause-rows g c = on_ok_of c.split_off.result c.split_off.ensures.rows

pub returns-clause-err : goal.returns-clause-err
returns-clause-err g c = on_err_on c.split_off.result (λ h. same_on c.args.nodes.now.list.items c.make_room.new.nodes.list.items
    c.split_off.new.self.list.items (same_on c.args.nodes.now.list.items c.reserve.new.self.list.items c.make_room.new.nodes.list.items
    (same_items c.args.nodes.now.list.items c.reserve.new.self.list.items c.reserve.ensures.items) c.make_room.ensures.same)
    (same_items c.make_room.new.nodes.list.items c.split_off.new.self.list.items h)) c.split_off.ensures.err

pub returns-in_err-make_room-clause-err : goal.returns-in_err-make_room-clause-err
returns-in_err-make_room-clause-err g c = on_err_of c.from_residual-in_err-make_room.result
    (same_on c.args.nodes.now.list.items c.reserve.new.self.list.items c.make_room.new.nodes.list.items
    (same_items c.args.nodes.now.list.items c.reserve.new.self.list.items c.reserve.ensures.items) c.make_room.ensures.same)

pub returns-in_err-reserve-clause-err : goal.returns-in_err-reserve-clause-err
returns-in_err-reserve-clause-err g c = on_err_of c.from_residual.result (same_items c.args.nodes.now.list.items c.reserve.new.self.list.items c.reserve.ensures.items)
