use Rattle.std.proofs.Common.{subst, sym, refl, ◌≡◌, List, arith}
use Rattle.pst_mirror.specs.Mirror.{Chart}
use Rattle.pst_mirror.specs.Charts.{HasOneEdgeMore}
use Rattle.pst_order.specs.Places.{rank}
use Rattle.pst_nodes.specs.Arena.{chart}
use Rattle.pst_nodes.specs.declared.node.Node.{Node}
use Rattle.pst_nodes.proofs.NodeLemmas.{some_row}
use Rattle.pst_repair.specs.Steps.{AreGrown, KeepsQueue}
use Rattle.pst_repair.proofs.LoadLemmas.{chart_same, rows_kept, grown_same, grown_more, only_none, only_on}
use Rattle.pst_repair.proofs.CutLemmas.{queues_links, queue_touched, queue_nothing, grown_cut}
use Rattle.pst_repair.proofs.cuts.cut_slot.Goals as goal

pub queue_if_over-requires-clause-held : goal.queue_if_over-requires-clause-held
queue_if_over-requires-clause-held g c = (
  c.requires.held.0,
  queues_links c.args.nodes.now.list.items c.begin_segment.new.self.list.items
      c.args.queue.now c.requires.held.0 c.begin_segment.ensures.touched.count c.begin_segment.ensures.touched.links c.requires.held.1,
)

pub returns-then-begin_segment-clause-grown : goal.returns-then-begin_segment-clause-grown
returns-then-begin_segment-clause-grown g c =
    grown_cut c.args.shape.now c.args.nodes.now.list.items c.begin_segment.new.self.list.items c.queue_if_over.new.nodes.list.items
    c.args.place.node.0 c.requires.slot.alive.there c.begin_segment.ensures.touched (c.begin_segment.ensures.stamped c.if-begin_segment.true)
    c.queue_if_over.ensures.rows c.queue_if_over.ensures.frames (some_row c.args.nodes.now.list.items c.args.place.node.0 c.requires.slot.alive.there)

pub returns-then-begin_segment-clause-queue : goal.returns-then-begin_segment-clause-queue
returns-then-begin_segment-clause-queue g c = queue_touched 1 c.args.shape.now c.args.nodes.now.list.items c.begin_segment.new.self.list.items
    c.queue_if_over.new.nodes.list.items c.args.queue.now c.queue_if_over.new.queue c.args.place.node.0
    (some_row c.args.nodes.now.list.items c.args.place.node.0 c.requires.slot.alive.there) c.begin_segment.ensures.touched c.queue_if_over.ensures.queue

pub returns-then-begin_segment-clause-cut : goal.returns-then-begin_segment-clause-cut
returns-then-begin_segment-clause-cut g c =
    subst (λ (w : Chart). HasOneEdgeMore (chart (g.O.Order.places c.args.order.now) c.args.nodes.now.list.items) w c.args.place.node.0
    c.args.place.slot.0 (rank (g.O.Order.places c.args.order.now) c.args.at.0))
    (sym (chart_same (g.O.Order.places c.args.order.now) c.begin_segment.new.self.list.items c.queue_if_over.new.nodes.list.items c.queue_if_over.ensures.rows)) c.begin_segment.ensures.cut

pub returns-then-begin_segment-clause-rows : goal.returns-then-begin_segment-clause-rows
returns-then-begin_segment-clause-rows g c = rows_kept (g.O.Order.places c.args.order.now) c.begin_segment.new.self.list.items
    c.queue_if_over.new.nodes.list.items c.queue_if_over.ensures.rows c.begin_segment.ensures.rows

pub returns-then-begin_segment-clause-named : goal.returns-then-begin_segment-clause-named
returns-then-begin_segment-clause-named g c = only_on (λ i. i ≡ c.args.place.node.0) c.args.nodes.now.list.items c.begin_segment.new.self.list.items
    c.queue_if_over.new.nodes.list.items c.args.queue.now c.args.queue.now c.queue_if_over.new.queue
    (only_none (λ i. i ≡ c.args.place.node.0) c.args.nodes.now.list.items c.begin_segment.new.self.list.items c.args.queue.now
    (λ xs h. queues_links c.args.nodes.now.list.items c.begin_segment.new.self.list.items c.args.queue.now xs
    c.begin_segment.ensures.touched.count c.begin_segment.ensures.touched.links h))
    c.queue_if_over.ensures.named

pub returns-else-begin_segment-clause-grown : goal.returns-else-begin_segment-clause-grown
returns-else-begin_segment-clause-grown g c =
    subst (λ (ns : List Node). AreGrown 1 c.args.shape.now c.args.nodes.now.list.items ns)
    (sym (c.begin_segment.ensures.same c.if-begin_segment.false))
    (grown_more 0 1 c.args.shape.now c.args.nodes.now.list.items c.args.nodes.now.list.items (omega arith)
    (grown_same c.args.shape.now c.args.nodes.now.list.items c.args.nodes.now.list.items refl refl refl))

pub returns-else-begin_segment-clause-queue : goal.returns-else-begin_segment-clause-queue
returns-else-begin_segment-clause-queue g c = subst (λ (ns : List Node). KeepsQueue (λ _. ⊥) c.args.shape.now c.args.nodes.now.list.items ns
    c.args.queue.now c.args.queue.now) (sym (c.begin_segment.ensures.same c.if-begin_segment.false))
    (queue_nothing c.args.shape.now c.args.nodes.now.list.items c.args.queue.now)

pub returns-else-begin_segment-clause-named : goal.returns-else-begin_segment-clause-named
returns-else-begin_segment-clause-named g c = only_none (λ i. i ≡ c.args.place.node.0) c.args.nodes.now.list.items c.begin_segment.new.self.list.items
    c.args.queue.now (λ xs h. queues_links c.args.nodes.now.list.items c.begin_segment.new.self.list.items c.args.queue.now xs
    c.begin_segment.ensures.touched.count c.begin_segment.ensures.touched.links h)
