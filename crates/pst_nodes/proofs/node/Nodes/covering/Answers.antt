use Rattle.std.proofs.Common.{length, ◌<◌, ◌≤◌, sym, ap, ◌∙◌, subst}
use Rattle.pst_rows.specs.declared.row.Row.{Row}
use Rattle.pst_order.specs.Places.{rank}
use Rattle.pst_rows.specs.Rows.{IsRow, content_at, width_of}
use Rattle.pst_rows.specs.Changes.{IsSegmentAround}
use Rattle.pst_nodes.proofs.NodeLemmas.{slot_row, segment_is, read_is}
use Rattle.pst_nodes.proofs.node.Nodes.covering.Goals as goal

pub covering-requires-clause-row : goal.covering-requires-clause-row
covering-requires-clause-row g c = subst (λ (v : Row). IsRow (rank (g.O.Order.places c.args.order.now)) (length (g.O.Order.places c.args.order.now))
    v) (sym (c.row.ensures c.row.result.now)) (slot_row (g.O.Order.places c.args.order.now) c.args.self.now.list.items c.args.id.0 c.args.slot.0
    ((rank (g.O.Order.places c.args.order.now)) c.args.at.0) c.row.result.now c.requires.rows c.requires.slot)

pub covering-requires-clause-slot : goal.covering-requires-clause-slot
covering-requires-clause-slot g c = subst (λ (v : Row). c.args.slot.0 < width_of v) (sym (c.row.ensures c.row.result.now)) (c.requires.slot.slot_there c.row.result.now)

pub covering-requires-clause-life : goal.covering-requires-clause-life
covering-requires-clause-life g c = record {
  after = subst (λ (v : Row). (rank (g.O.Order.places c.args.order.now)) v.lo.0 ≤ (rank (g.O.Order.places c.args.order.now)) c.args.at.0)
      (sym (c.row.ensures c.row.result.now)) (c.requires.slot.alive.low c.row.result.now);
  before = subst (λ (v : Row). (rank (g.O.Order.places c.args.order.now)) c.args.at.0 < (rank (g.O.Order.places c.args.order.now)) v.hi.0)
      (sym (c.row.ensures c.row.result.now)) (c.requires.slot.alive.high c.row.result.now);
}

pub returns-clause-segment : goal.returns-clause-segment
returns-clause-segment g c = segment_is (g.O.Order.places c.args.order.now) c.args.self.now.list.items c.args.id.0 c.args.slot.0
    ((rank (g.O.Order.places c.args.order.now)) c.args.at.0) c.row.result.now c.requires.rows c.requires.slot c.covering.result.begin.0
    c.covering.result.end.0 (subst (λ (v : Row). IsSegmentAround (rank (g.O.Order.places c.args.order.now)) v c.args.slot.0
    ((rank (g.O.Order.places c.args.order.now)) c.args.at.0) (rank (g.O.Order.places c.args.order.now) c.covering.result.begin.0)
    (rank (g.O.Order.places c.args.order.now) c.covering.result.end.0)) (c.row.ensures c.row.result.now) c.covering.ensures.segment)

pub returns-clause-content : goal.returns-clause-content
returns-clause-content g c = c.covering.ensures.content ∙ ap (λ (v : Row). content_at (rank (g.O.Order.places c.args.order.now)) v c.args.slot.0
    ((rank (g.O.Order.places c.args.order.now)) c.args.at.0)) (c.row.ensures c.row.result.now)
    ∙ read_is (g.O.Order.places c.args.order.now) c.args.self.now.list.items c.args.id.0 c.args.slot.0
    ((rank (g.O.Order.places c.args.order.now)) c.args.at.0) c.row.result.now c.requires.rows c.requires.slot
