use Rattle.std.proofs.Common.{refl, inl, inr, arith}
use Rattle.pst_repair.proofs.CutLemmas.{same_count}
use Rattle.pst_store_arena.proofs.WriteQueue.{is_node, queue_first, queue_both, typed_rows}
use Rattle.pst_store_arena.proofs.writes.queue_pair.Goals as goal

pub queue_if_over-requires-clause-there : goal.queue_if_over-requires-clause-there
queue_if_over-requires-clause-there c = c.requires.there c.args.first.0 (inl refl)

pub queue_if_over-requires-clause-typed : goal.queue_if_over-requires-clause-typed
queue_if_over-requires-clause-typed c = c.requires.typed c.args.first.0 (c.requires.there c.args.first.0 (inl refl))

pub queue_if_over-requires-in-Some-clause-there : goal.queue_if_over-requires-in-Some-clause-there
queue_if_over-requires-in-Some-clause-there c = omega (
  arith,
  same_count c.args.nodes.now.list.items c.queue_if_over.new.nodes.list.items c.queue_if_over.ensures.rows,
  c.requires.there c.in-Some.node.0 (inr (is_node c.args.led c.in-Some.node c.in-Some.is)),
)

pub queue_if_over-requires-in-Some-clause-typed : goal.queue_if_over-requires-in-Some-clause-typed
queue_if_over-requires-in-Some-clause-typed c = typed_rows c.args.shape.now c.args.nodes.now.list.items c.queue_if_over.new.nodes.list.items
    c.queue_if_over.ensures.rows c.queue_if_over.ensures.frames c.requires.typed c.in-Some.node.0
    (omega (
      arith,
      same_count c.args.nodes.now.list.items c.queue_if_over.new.nodes.list.items c.queue_if_over.ensures.rows,
      c.requires.there c.in-Some.node.0 (inr (is_node c.args.led c.in-Some.node c.in-Some.is)),
    ))

pub returns-in-Some-clause-queue : goal.returns-in-Some-clause-queue
returns-in-Some-clause-queue c = queue_both c.args.shape.now c.args.nodes.now.list.items c.queue_if_over.new.nodes.list.items
    c.queue_if_over-in-Some.new.nodes.list.items c.args.queue.now c.queue_if_over.new.queue c.queue_if_over-in-Some.new.queue c.args.first.0
    c.args.led c.in-Some.node c.in-Some.is
    c.queue_if_over-in-Some.ensures.rows c.queue_if_over-in-Some.ensures.frames c.queue_if_over.ensures.queue c.queue_if_over-in-Some.ensures.queue

pub returns-in_default-clause-queue : goal.returns-in_default-clause-queue
returns-in_default-clause-queue c = queue_first c.args.shape.now c.args.nodes.now.list.items c.queue_if_over.new.nodes.list.items c.args.queue.now
    c.queue_if_over.new.queue c.args.first.0 c.args.led c.in_default.not-Some c.queue_if_over.ensures.queue
