use Rattle.std.proofs.Common.{Bool, subst}
use Rattle.pst_machine_steps.specs.declared.standing.Step.{Step}
use Rattle.pst_machine_frames.specs.Ready.{Ran}
use Rattle.pst_machine.specs.Advance.{GoesInto, IsInto}
use Rattle.pst_machine.proofs.Carrying.{carried_on, carried_rest}
use Rattle.pst_machine.proofs.calling.carry_out.Goals as goal

pub loop-there-preserved : goal.loop-there-preserved
loop-there-preserved g c =
    let parts = c.args.code.now in
    let s = g.H.HeapAt.state c.args.heap.now in
    let t = g.H.HeapAt.state c.loop-there.heap in
    let u = g.H.HeapAt.state c.run.new.heap in
    let a = c.loop-there.stage in
    let b = c.under_way.new.stage in
    let into : IsInto parts t a b = subst (λ (x : Bool). GoesInto parts t a x b) c.if-not-there.false c.in_ok-there.ensures.goes in
    carried_on parts c.requires.valid s t u c.args.stage.now a b c.run.new.standing c.loop-there.invariant into c.in-Ends.field-0
    (subst (λ (x : Step). Ran parts t b.standing x u c.run.new.standing) c.in-Ends.is c.in_ok-step.ensures.ran) c.let_go.new.standing
    c.let_go.ensures.empty c.let_go.ensures.same

pub returns-in_default : goal.returns-in_default
returns-in_default g c =
    let parts = c.args.code.now in
    let s = g.H.HeapAt.state c.args.heap.now in
    let t = g.H.HeapAt.state c.loop-there.heap in
    let u = g.H.HeapAt.state c.run.new.heap in
    let a = c.loop-there.stage in
    let b = c.under_way.new.stage in
    let into : IsInto parts t a b = subst (λ (x : Bool). GoesInto parts t a x b) c.if-not-there.false c.in_ok-there.ensures.goes in
    let out = carried_rest parts c.requires.valid s t u c.args.stage.now a b c.run.new.standing c.loop-there.invariant into c.in_ok-step.step
    c.in_ok-step.ensures.rests c.in_default.not-Ends c.in_ok-step.ensures.ran in
    record {
      out = out;
      rests = c.in_ok-step.ensures.rests;
      err = tt;
      reads = tt;
      terms = out.terms;
      home = (out.place, out.run);
    }
