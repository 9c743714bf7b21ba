use Rattle.std.proofs.Common.{◌≡◌, sym, ◌∙◌}
use Rattle.std.proofs.lemmas.Bool.{false≢true}
use Rattle.pst_repair.proofs.LoadLemmas.{queue_pushed, queue_kept, only_one, only_none}
use Rattle.pst_repair.proofs.load.queue_if_over.Goals as goal
use Rattle.pst_repair.proofs.load.queue_if_over.Goals.{else-is_over-via-then-is_over+else-not-waits, else-is_over-via-else-is_over}

pub returns-then-not-waits-clause-queue : goal.returns-then-not-waits-clause-queue
returns-then-not-waits-clause-queue c = queue_pushed c.args.shape.now c.args.nodes.now.list.items _ c.args.queue.now _ c.args.id.0
    c.push.ensures.rest.0 c.push.ensures.rest.1 (c.is_over.ensures.0 c.if-is_over.true) c.push.ensures.held

pub returns-else-is_over-clause-queue : goal.returns-else-is_over-clause-queue
returns-else-is_over-clause-queue c = queue_kept c.args.shape.now c.args.nodes.now.list.items c.args.queue.now c.args.id.0
    (λ xs h over. elim c.else-is_over.branch [
      | else-is_over-via-then-is_over+else-not-waits w ↦ sym (w.waits.ensures.list xs h) ∙ w.if-not-waits.false
      | else-is_over-via-else-is_over w ↦ absurd (false≢true (sym w.if-is_over.false ∙ c.is_over.ensures.1 over))
    ])

pub returns-then-not-waits-clause-named : goal.returns-then-not-waits-clause-named
returns-then-not-waits-clause-named c = only_one c.args.nodes.now.list.items _ c.args.queue.now _ c.args.id.0 c.push.ensures.held

pub returns-else-is_over-clause-named : goal.returns-else-is_over-clause-named
returns-else-is_over-clause-named c = only_none (λ i. i ≡ c.args.id.0) c.args.nodes.now.list.items c.args.nodes.now.list.items c.args.queue.now (λ xs h. h)
