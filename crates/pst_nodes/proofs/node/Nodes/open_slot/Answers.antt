use Rattle.std.proofs.Common.{arith}
use Rattle.pst_order.specs.Places.{rank}
use Rattle.pst_nodes.proofs.NodeLemmas.{inverse_slot}
use Rattle.pst_nodes.proofs.node.Nodes.open_slot.Goals as goal

pub overflow_cast-slot : goal.overflow_cast-slot
overflow_cast-slot g c = omega (
  arith,
  (inverse_slot c.args.shape.now (g.O.Order.places c.args.order.now) c.args.self.now.list.items c.args.id.0
      (rank (g.O.Order.places c.args.order.now) c.args.at.0) c.loop-index.index c.requires.rows c.requires.typed c.requires.alive
      (omega (arith, c.loop-index-test.true, c.inverse_slots-first.ensures.end))).1,
)
