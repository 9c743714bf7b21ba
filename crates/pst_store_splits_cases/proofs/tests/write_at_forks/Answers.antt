use Rattle.std.proofs.Common.{arith}
use Rattle.pst_store_splits_cases.proofs.Trying.{none_written, all_left, one_more, fork_number, fork_room, all_stay, ready_again, root_written}
use Rattle.pst_store_splits_cases.proofs.tests.write_at_forks.Goals as goal

pub loop-n-init : goal.loop-n-init
loop-n-init g c = record { ready = all_left _ _ _ _ c.requires; written = none_written _ _ _ c.new-places.ensures.items }

pub fork-requires-clause-published : goal.fork-requires-clause-published
fork-requires-clause-published g c = c.loop-n.invariant.ready.published

pub fork-requires-clause-calls : goal.fork-requires-clause-calls
fork-requires-clause-calls g c = omega (arith, c.loop-n.invariant.ready.calls)

pub store_value-requires-clause-field : goal.store_value-requires-clause-field
store_value-requires-clause-field g c =
    let h = one_more _ _ _ _ _ c.loop-n-test.true c.loop-n.invariant.ready in
    root_written _ _ _ _ c.root-r.ensures.name (fork_number _ _ _ _ _ _ h c.in_ok-at.ensures.ok)

pub store_value-requires-clause-room : goal.store_value-requires-clause-room
store_value-requires-clause-room g c =
    let h = one_more _ _ _ _ _ c.loop-n-test.true c.loop-n.invariant.ready in
    fork_room _ _ _ _ _ _ h c.in_ok-at.ensures.ok

pub loop-n-preserved : goal.loop-n-preserved
loop-n-preserved g c =
    let h = one_more _ _ _ _ _ c.loop-n-test.true c.loop-n.invariant.ready in
    record {
      ready = ready_again _ _ _ _ _ _ h c.in_ok-at.ensures.ok _ _ _ c.root-r.ensures.name c.in_ok-store_value.ensures.ok.0 c.in_ok-store_value.ensures.ok.1;
      written = all_stay _ _ _ _ _ _ h c.in_ok-at.ensures.ok _ _ _ c.root-r.ensures.name c.in_ok-store_value.ensures.ok.0
          c.in_ok-store_value.ensures.ok.1 _ _ c.in_ok-push.ensures.items c.loop-n.invariant.written;
    }

pub returns-clause-written : goal.returns-clause-written
returns-clause-written g c = c.loop-n.invariant.written
