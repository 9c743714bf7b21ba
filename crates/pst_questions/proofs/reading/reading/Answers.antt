use Rattle.pst_questions.proofs.ReadingLemmas.{reads_root, reads_more}
use Rattle.pst_questions.proofs.reading.reading.Goals as goal

pub loop-step-init : goal.loop-step-init
loop-step-init g c = reads_root (g.H.HeapAt.state c.args.heap.now) c.args.at c.args.path.now c.root-object.result c.known.ensures c.requires.has
    c.root-object.ensures.live c.root-object.ensures.name c.requires.path

pub loop-step-preserved : goal.loop-step-preserved
loop-step-preserved g c =
    reads_more (g.H.HeapAt.state c.args.heap.now) c.args.at c.args.path.now c.loop-step.object c.in-Some.step.now c.loop-step.rest.now
    c.in-Some.after.now c.load_pointer.result c.in-Some-load_pointer.target
    c.in-Some.ensures.cases.0 c.if-is_empty.ensures c.loop-step.invariant c.known.ensures c.requires.has c.load_pointer.ensures.target c.in-Some-load_pointer.is c.in-Some-load_pointer.ensures.live
