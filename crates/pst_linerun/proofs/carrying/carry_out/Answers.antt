use Rattle.std.proofs.Common.{◌∙◌, []}
use Rattle.pst_program.specs.Outcome.{no_counts}
use Rattle.pst_history.specs.History.{call_of}
use Rattle.pst_engine_runs.specs.Runs.{MayAdd, runs_of}
use Rattle.pst_linerun.proofs.CarriedOut.{came, may-add, waiting}
use Rattle.pst_linerun.proofs.carrying.carry_out.Given.{Over}
use Rattle.pst_linerun.proofs.carrying.carry_out.Goals.{In_ok-activation}
use Rattle.pst_linerun.proofs.carrying.carry_out.Goals as goal

-- the call can be added to the run without a call
added : (g : Over) (c : In_ok-activation g)
    → MayAdd (g.C.Meant.meant c.args.code.now).meaning (runs_of (λ a. a.stage) (g.C.Meant.meant c.args.code.now).parts)
    (g.H.HeapAt.state c.args.heap.now) c.in_ok-activation.activation (record { run = c.args.run; calls = []; budget = c.args.budget }) 0
    ((g.H.HeapAt.state c.args.heap.now).heap c.args.at) no_counts (call_of c.args.call.now)
added g c =
    let m = (g.C.Meant.meant c.args.code.now).meaning in
    let x = runs_of (λ a. a.stage) (g.C.Meant.meant c.args.code.now).parts in
    may-add m x (g.H.HeapAt.state c.args.heap.now) c.args.at c.args.run c.args.budget (call_of c.args.call.now) c.requires
    c.in_ok-activation.activation c.in_ok-activation.ensures.place (c.in_ok-activation.ensures.stands c.args.heap.now c.requires.free)

pub add-requires : goal.add-requires
add-requires g c = (c.args.heap.now, (_, _, _, _, added g (goal.at.add-requires g c).In_ok-activation))

pub advance-requires-clause-ready : goal.advance-requires-clause-ready
advance-requires-clause-ready g c =
    let m = (g.C.Meant.meant c.args.code.now).meaning in
    let x = runs_of (λ a. a.stage) (g.C.Meant.meant c.args.code.now).parts in
    let waits = c.in_ok-add.ensures.waits c.args.heap.now _ _ _ _ (added g (goal.at.advance-requires-clause-ready g c).In_ok-activation) in
    (_, _, _, _, waiting m x (g.H.HeapAt.state c.args.heap.now) c.args.at c.args.run c.args.budget (call_of c.args.call.now) c.requires c.add.new.activation waits)

pub returns-clause-ok : goal.returns-clause-ok
returns-clause-ok g c =
    let m = (g.C.Meant.meant c.args.code.now).meaning in
    let x = runs_of (λ a. a.stage) (g.C.Meant.meant c.args.code.now).parts in
    let s = g.H.HeapAt.state c.args.heap.now in
    let t = g.H.HeapAt.state c.advance.new.heap in
    let call = call_of c.args.call.now in
    let waits = c.in_ok-add.ensures.waits c.args.heap.now _ _ _ _ (added g (goal.at.returns-clause-ok g c).In_ok-activation) in
    let adv = c.in_ok-end.ensures.ok _ _ _ _ (waiting m x s c.args.at c.args.run c.args.budget call c.requires c.add.new.activation waits) in
    came m x s c.args.at c.args.run c.args.budget call c.requires c.add.new.activation c.advance.new.activation t c.in_ok-end.end
    (c.in_ok-add.ensures.place ∙ c.in_ok-activation.ensures.place) c.ranges.budget.fits adv c.in_ok-copy_of.field-0
    (c.in_ok-copy_of.ensures ∙ c.printed.ensures)
