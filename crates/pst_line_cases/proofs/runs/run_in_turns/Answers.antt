use Rattle.pst_line_cases.proofs.Trying.{two_left, published_ready, undone_ready}
use Rattle.pst_line_cases.proofs.runs.run_in_turns.Goals as goal

pub write-requires-in-loop-n : goal.write-requires-in-loop-n
write-requires-in-loop-n g c =
    let h = two_left _ _ c.args.field.0 c.loop-n.n c.args.times c.loop-n-test.true c.loop-n.invariant in
    (_, published_ready _ _ _ _ _ _ _ _ h (c.in_ok-write.ensures _ h) c.in_ok-publish.ensures.closed _ _ c.in_ok-publish.ensures.ok)

pub undo-requires : goal.undo-requires
undo-requires g c =
    let h = two_left _ _ c.args.field.0 c.loop-n.n c.args.times c.loop-n-test.true c.loop-n.invariant in
    let k = published_ready _ _ _ _ _ _ _ _ h (c.in_ok-write.ensures _ h) c.in_ok-publish.ensures.closed _ _ c.in_ok-publish.ensures.ok in
    (_, (c.in_ok-write-2.ensures _ k).writable)

pub loop-n-preserved : goal.loop-n-preserved
loop-n-preserved g c =
    let h = two_left _ _ c.args.field.0 c.loop-n.n c.args.times c.loop-n-test.true c.loop-n.invariant in
    let k = published_ready _ _ _ _ _ _ _ _ h (c.in_ok-write.ensures _ h) c.in_ok-publish.ensures.closed _ _ c.in_ok-publish.ensures.ok in
    undone_ready _ _ _ _ _ _ _ _ k (c.in_ok-write-2.ensures _ k) c.undo.ensures.closed c.undo.ensures.undone
