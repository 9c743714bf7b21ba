use Rattle.std.proofs.Common.{List, subst}
use Rattle.pst_program.specs.View.{routines_of}
use Rattle.pst_program.specs.Outcome.{TaskCall, outcome}
use Rattle.pst_program.proofs.Outcomes.{older_fresh}
use Rattle.pst_eval.specs.Runs.{IsOutcome}
use Rattle.pst_history.specs.Direct.{direct}
use Rattle.pst_replay.proofs.program.execute.Goals as goal

pub evaluate-requires-clause-fresh : goal.evaluate-requires-clause-fresh
evaluate-requires-clause-fresh c = older_fresh c.args.heap.now.heap c.args.number c.requires.ready.older

pub returns-clause-ended : goal.returns-clause-ended
unfolding direct
returns-clause-ended c =
    let r = routines_of c.args.program.now in
    let P : List TaskCall → Type 0 = λ cs. IsOutcome c.in_ok-outcome.outcome c.evaluate.new.heap.heap
    (outcome r (record { run = c.args.number; calls = cs; budget = c.args.run.now.budget }) c.args.granted c.args.heap.now.heap) in
    let is = subst P c.requires.calls c.in_ok-outcome.ensures.outcome in
    record { end = is.end; printed = is.printed; counts = is.counts }

pub returns-clause-heap : goal.returns-clause-heap
unfolding direct
returns-clause-heap c =
    let r = routines_of c.args.program.now in
    let P : List TaskCall → Type 0 = λ cs. IsOutcome c.in_ok-outcome.outcome c.evaluate.new.heap.heap
    (outcome r (record { run = c.args.number; calls = cs; budget = c.args.run.now.budget }) c.args.granted c.args.heap.now.heap) in
    let is = subst P c.requires.calls c.in_ok-outcome.ensures.outcome in
    is.heap_left
