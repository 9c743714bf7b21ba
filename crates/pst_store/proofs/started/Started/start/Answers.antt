use Rattle.pst_store.proofs.Starts.{start_kept, start_done}
use Rattle.pst_store.proofs.started.Started.start.Goals as goal

pub invariant_of-result : goal.invariant_of-result
invariant_of-result g c =
    start_kept c.args.shape.now _ _ _ _ _ c.requires c.in_ok-order.ensures c.first-begin.ensures.in_list c.in_ok-end.ensures.ok
    c.in_ok-started.ensures.root c.in_ok-started.ensures.noted _ _ _ _ c.in_ok-copy.ensures c.in_ok-new.ensures c.new-3.ensures c.new-5.ensures.items

pub returns : goal.returns
returns g c =
    start_done c.args.shape.now _ _ _ _ _ c.requires c.in_ok-order.ensures c.first-begin.ensures.in_list c.in_ok-end.ensures.ok
    c.in_ok-started.ensures.root c.in_ok-started.ensures.noted _ _ _ _ c.in_ok-copy.ensures c.in_ok-new.ensures c.new-3.ensures c.new-5.ensures.items
