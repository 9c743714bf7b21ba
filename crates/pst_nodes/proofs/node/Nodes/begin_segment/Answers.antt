use Rattle.std.proofs.Common.{◌<◌, ◌≤◌}
use Rattle.pst_order.specs.Places.{rank}
use Rattle.pst_rows.specs.Rows.{width_of}
use Rattle.pst_nodes.specs.Arena.{HasRoom}
use Rattle.pst_nodes.proofs.NodeLemmas.{is_row, here, rows_set, begun_same, begun_edge, begun_cut, begun_touched, begun_stamped}
use Rattle.pst_nodes.proofs.node.Nodes.begin_segment.Goals as goal

pub begin_segment-requires-clause-row : goal.begin_segment-requires-clause-row
begin_segment-requires-clause-row g c = is_row c.args.self.now.list.items c.args.id.0 c.index_mut-node.result.now c.requires.slot.alive.there
    c.index_mut-node.ensures.value (g.O.Order.places c.args.order.now) c.requires.rows

pub begin_segment-requires-clause-slot : goal.begin_segment-requires-clause-slot
begin_segment-requires-clause-slot g c = here c.args.self.now.list.items c.args.id.0 c.index_mut-node.result.now c.requires.slot.alive.there
    c.index_mut-node.ensures.value (λ w. c.args.slot.0 < width_of w) c.requires.slot.slot_there

pub begin_segment-requires-clause-life : goal.begin_segment-requires-clause-life
begin_segment-requires-clause-life g c = record {
  after = here c.args.self.now.list.items c.args.id.0 c.index_mut-node.result.now c.requires.slot.alive.there c.index_mut-node.ensures.value
      (λ w. (rank (g.O.Order.places c.args.order.now)) w.lo.0 ≤ (rank (g.O.Order.places c.args.order.now)) c.args.at.0) c.requires.slot.alive.low;
  before = here c.args.self.now.list.items c.args.id.0 c.index_mut-node.result.now c.requires.slot.alive.there c.index_mut-node.ensures.value
      (λ w. (rank (g.O.Order.places c.args.order.now)) c.args.at.0 < (rank (g.O.Order.places c.args.order.now)) w.hi.0) c.requires.slot.alive.high;
}

pub begin_segment-requires-clause-spare : goal.begin_segment-requires-clause-spare
begin_segment-requires-clause-spare g c = here c.args.self.now.list.items c.args.id.0 c.index_mut-node.result.now c.requires.slot.alive.there
    c.index_mut-node.ensures.value (λ w. HasRoom w 1) c.requires.room

pub returns-clause-begun : goal.returns-clause-begun
returns-clause-begun g c = begun_edge (g.O.Order.places c.args.order.now) c.args.self.now.list.items c.args.id.0 c.index_mut-node.result.now
    c.requires.slot.alive.there c.index_mut-node.ensures.value c.args.slot.0 (rank (g.O.Order.places c.args.order.now) c.args.at.0) c.requires.rows
    c.requires.slot c.begin_segment.new.self c.begin_segment.result c.begin_segment.ensures.begun c.begin_segment.ensures.cut
    c.begin_segment.ensures.same c.begin_segment.ensures.more

pub returns-clause-cut : goal.returns-clause-cut
returns-clause-cut g c = begun_cut (g.O.Order.places c.args.order.now) c.args.self.now.list.items c.args.id.0 c.index_mut-node.result.now
    c.requires.slot.alive.there c.index_mut-node.ensures.value c.args.slot.0 (rank (g.O.Order.places c.args.order.now) c.args.at.0) c.requires.rows
    c.requires.slot c.begin_segment.new.self c.begin_segment.result c.begin_segment.ensures.begun c.begin_segment.ensures.cut
    c.begin_segment.ensures.same c.begin_segment.ensures.more

pub returns-clause-same : goal.returns-clause-same
returns-clause-same g c = begun_same (g.O.Order.places c.args.order.now) c.args.self.now.list.items c.args.id.0 c.index_mut-node.result.now
    c.requires.slot.alive.there c.index_mut-node.ensures.value c.args.slot.0 (rank (g.O.Order.places c.args.order.now) c.args.at.0) c.requires.rows
    c.requires.slot c.begin_segment.new.self c.begin_segment.result c.begin_segment.ensures.begun c.begin_segment.ensures.cut
    c.begin_segment.ensures.same c.begin_segment.ensures.more

pub returns-clause-touched : goal.returns-clause-touched
returns-clause-touched g c = begun_touched (g.O.Order.places c.args.order.now) c.args.self.now.list.items c.args.id.0 c.index_mut-node.result.now
    c.requires.slot.alive.there c.index_mut-node.ensures.value c.args.slot.0 (rank (g.O.Order.places c.args.order.now) c.args.at.0) c.requires.rows
    c.requires.slot c.begin_segment.new.self c.begin_segment.result c.begin_segment.ensures.begun c.begin_segment.ensures.cut
    c.begin_segment.ensures.same c.begin_segment.ensures.more

pub returns-clause-stamped : goal.returns-clause-stamped
returns-clause-stamped g c = begun_stamped (g.O.Order.places c.args.order.now) c.args.self.now.list.items c.args.id.0 c.index_mut-node.result.now
    c.requires.slot.alive.there c.index_mut-node.ensures.value c.args.slot.0 (rank (g.O.Order.places c.args.order.now) c.args.at.0) c.requires.rows
    c.requires.slot c.begin_segment.new.self c.begin_segment.result c.begin_segment.ensures.begun c.begin_segment.ensures.cut
    c.begin_segment.ensures.same c.begin_segment.ensures.more

pub returns-clause-rows : goal.returns-clause-rows
returns-clause-rows g c = rows_set c.args.self.now.list.items c.args.id.0 c.index_mut-node.result.now c.requires.slot.alive.there
    c.index_mut-node.ensures.value _ (g.O.Order.places c.args.order.now) c.begin_segment.ensures.row c.requires.rows
