use Rattle.std.proofs.Common.{refl, sym, ◌∙◌, arith}
use Rattle.pst_questions.specs.Change.{readings_of}
use Rattle.pst_questions.proofs.ChangeLemmas.{unchanged_first, same_at_parent, change_missing, parent_below}
use Rattle.pst_questions.proofs.change.changed.Goals as goal

pub loop-parent-init : goal.loop-parent-init
loop-parent-init g c = (c.requires.there, unchanged_first (readings_of (g.H.HeapAt.state c.args.heap.now) c.args.path.now) c.args.version.0)

pub reading_at-before-requires-clause-there : goal.reading_at-before-requires-clause-there
reading_at-before-requires-clause-there g c =
    omega (arith, c.loop-parent.invariant.0, parent_below (g.H.HeapAt.state c.args.heap.now) c.known.ensures c.loop-parent.current.0 c.parent.result c.in-Some.parent c.parent.ensures c.in-Some.is)

pub loop-parent-smaller : goal.loop-parent-smaller
loop-parent-smaller g c = parent_below (g.H.HeapAt.state c.args.heap.now) c.known.ensures c.loop-parent.current.0 c.parent.result c.in-Some.parent c.parent.ensures c.in-Some.is

pub loop-parent-preserved : goal.loop-parent-preserved
loop-parent-preserved g c =
    let s = g.H.HeapAt.state c.args.heap.now in
    let v = c.loop-parent.current.0 in
    let parent = c.in-Some.parent in (
      omega (arith, c.loop-parent.invariant.0, parent_below s c.known.ensures v c.parent.result parent c.parent.ensures c.in-Some.is),
      same_at_parent s c.args.path.now c.as_slice-steps.result.now c.args.version.0 v c.parent.result parent c.reading_at-read.result c.reading_at-before.result
          c.as_slice-steps.ensures c.reading_at-read.ensures c.reading_at-before.ensures (c.if-not-is_same.ensures.0 refl) c.parent.ensures c.in-Some.is c.loop-parent.invariant.1,
    )

pub returns-clause-never : goal.returns-clause-never
returns-clause-never g c =
    change_missing (readings_of (g.H.HeapAt.state c.args.heap.now) c.args.path.now) c.args.version.0 c.loop-parent.current.0 c.loop-parent.invariant.1 (sym c.parent.ensures ∙ c.in_default.is)
