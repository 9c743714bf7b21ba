use Rattle.std.proofs.Common.{length, ◌<◌, ◌≤◌, sym, ap, ◌∙◌, subst}
use Rattle.pst_rows.specs.declared.row.Row.{Row}
use Rattle.pst_order.specs.Places.{rank}
use Rattle.pst_rows.specs.Rows.{IsRow, content_at, width_of}
use Rattle.pst_nodes.proofs.NodeLemmas.{slot_row, read_is}
use Rattle.pst_nodes.proofs.node.Nodes.held_at.Goals as goal

pub held_at-requires-clause-row : goal.held_at-requires-clause-row
held_at-requires-clause-row g c = subst (λ (v : Row). IsRow (rank (g.O.Order.places c.args.order.now)) (length (g.O.Order.places c.args.order.now)) v)
    (sym (c.row.ensures c.row.result.now)) (slot_row (g.O.Order.places c.args.order.now) c.args.self.now.list.items c.args.id.0 c.args.slot.0
    ((rank (g.O.Order.places c.args.order.now)) c.args.at.0) c.row.result.now c.requires.rows c.requires.slot)

pub held_at-requires-clause-slot : goal.held_at-requires-clause-slot
held_at-requires-clause-slot g c = subst (λ (v : Row). c.args.slot.0 < width_of v) (sym (c.row.ensures c.row.result.now)) (c.requires.slot.slot_there c.row.result.now)

pub held_at-requires-clause-life : goal.held_at-requires-clause-life
held_at-requires-clause-life g c = record {
  after = subst (λ (v : Row). (rank (g.O.Order.places c.args.order.now)) v.lo.0 ≤ (rank (g.O.Order.places c.args.order.now)) c.args.at.0)
      (sym (c.row.ensures c.row.result.now)) (c.requires.slot.alive.low c.row.result.now);
  before = subst (λ (v : Row). (rank (g.O.Order.places c.args.order.now)) c.args.at.0 < (rank (g.O.Order.places c.args.order.now)) v.hi.0)
      (sym (c.row.ensures c.row.result.now)) (c.requires.slot.alive.high c.row.result.now);
}

pub returns : goal.returns
returns g c = c.held_at.ensures ∙ ap (λ (v : Row). content_at (rank (g.O.Order.places c.args.order.now)) v c.args.slot.0
    ((rank (g.O.Order.places c.args.order.now)) c.args.at.0)) (c.row.ensures c.row.result.now)
    ∙ read_is (g.O.Order.places c.args.order.now) c.args.self.now.list.items c.args.id.0 c.args.slot.0
    ((rank (g.O.Order.places c.args.order.now)) c.args.at.0) c.row.result.now c.requires.rows c.requires.slot
