use Rattle.std.proofs.Common.{◌≡◌, ℕ, ◌+◌, ◌-◌, ◌<◌, ◌^◌, List, Option, Some, None, IfSome, length, take, drop, ap, sym, subst, arith, ◌∙◌}
use Rattle.std.proofs.lemmas.List.{drop-drop, take_rest}
use Rattle.pst_code.specs.declared.instr.Instr.{Instr}
use Rattle.pst_code.specs.Machine.{next_instr}
use Rattle.pst_machine_steps.specs.declared.standing.Step.{Step}
use Rattle.pst_machine_steps.specs.declared.standing.Step.TheVariants.{Here, Switched}
use Rattle.pst_machine_steps.specs.View.{procedure_of}
use Rattle.pst_machine_steps.specs.Live.{IsRoot}
use Rattle.pst_machine_steps.specs.Steps.{IsSeen}
use Rattle.pst_machine_frames.specs.declared.running.Flow.{Flow}
use Rattle.pst_machine_frames.specs.declared.running.Rested.{Rested}
use Rattle.pst_machine_frames.specs.Ready.{GoesOn, IfNext, IfDue, Leaves, LeavesBy, StaysOn, came_with, current_of, whole}
use Rattle.pst_machine_frames.proofs.Moving.{bound, at_rest, ran_on, leaves, leaves_on, goes_as_moves, root_kept}
use Rattle.pst_machine_frames.proofs.Reading.{on_err, reads_on}
use Rattle.pst_machine_frames.proofs.running.go_on.Goals as goal
use Rattle.pst_machine_frames.proofs.running.go_on.Goals.{in-None, in-Some}

pub loop-rest-preserved-in-Next : goal.loop-rest-preserved-in-Next
loop-rest-preserved-in-Next g c =
    let parts = c.args.code.now in
    let s0 = g.H.HeapAt.state c.args.heap.now in
    let a0 = whole c.args.standing.now c.args.frame.now c.args.left.now in
    let s = g.H.HeapAt.state c.loop-rest.heap in
    let a = whole c.loop-rest.standing c.loop-rest.frame c.loop-rest.left in
    let t = g.H.HeapAt.state c.step.new.heap in
    let b = whole c.step.new.standing c.step.new.frame c.step.new.left in
    let goes : StaysOn parts s a t b = subst (λ (x : Flow). GoesOn parts s a x c.step.new.out t b) c.in-Next.is c.in_ok-step.ensures.on in
    let next : c.step.new.frame.at ≡ c.loop-rest.frame.at + 1 = subst (λ (x : Flow). IfNext x (c.step.new.frame.at ≡ c.loop-rest.frame.at + 1)) c.in-Next.is c.in_ok-step.ensures.next in
    let instrs : List Instr = c.args.procedure.now.instructions in
    record {
      ran = ran_on parts s0 s t a0 a b Switched c.loop-rest.invariant.ran (goes_as_moves parts s t a b goes.ran);
      procedure = ap (procedure_of parts) goes.stays ∙ c.loop-rest.invariant.procedure;
      top = subst (λ (r : g.row.H-Ref.Denot). IsRoot t b.place r) (sym c.step.ensures.top) (root_kept parts s t a b Here c.loop-rest.top.root goes.ran c.loop-rest.invariant.top);
      same = c.step.ensures.top ∙ c.loop-rest.invariant.same;
      last = subst (λ (p : g.row.H-Place.Denot). IfSome c.step.new.top.last (IsSeen t p)) (sym goes.ran.place) c.in_ok-step.ensures.last;
      rest = take_rest c.loop-rest.rest.now 1 ∙ ap (drop 1) c.loop-rest.invariant.rest ∙ drop-drop 1 c.loop-rest.frame.at instrs ∙ ap (λ (i : ℕ). drop i instrs) (sym next);
    }

pub loop-rest-preserved : goal.loop-rest-preserved
loop-rest-preserved g c =
    let parts = c.args.code.now in
    let s0 = g.H.HeapAt.state c.args.heap.now in
    let a0 = whole c.args.standing.now c.args.frame.now c.args.left.now in
    let s = g.H.HeapAt.state c.loop-rest.heap in
    let a = whole c.loop-rest.standing c.loop-rest.frame c.loop-rest.left in
    let t = g.H.HeapAt.state c.step.new.heap in
    let b = whole c.step.new.standing c.step.new.frame c.step.new.left in
    let goes : StaysOn parts s a t b = subst (λ (x : Flow). GoesOn parts s a x c.step.new.out t b) c.in-Here.is c.in_ok-step.ensures.on in
    let instrs : List Instr = c.args.procedure.now.instructions in
    record {
      ran = ran_on parts s0 s t a0 a b Switched c.loop-rest.invariant.ran (goes_as_moves parts s t a b goes.ran);
      procedure = ap (procedure_of parts) goes.stays ∙ c.loop-rest.invariant.procedure;
      top = subst (λ (r : g.row.H-Ref.Denot). IsRoot t b.place r) (sym c.step.ensures.top) (root_kept parts s t a b Here c.loop-rest.top.root goes.ran c.loop-rest.invariant.top);
      same = c.step.ensures.top ∙ c.loop-rest.invariant.same;
      last = subst (λ (p : g.row.H-Place.Denot). IfSome c.step.new.top.last (IsSeen t p)) (sym goes.ran.place) c.in_ok-step.ensures.last;
      rest = ap (λ (is : List Instr). take (length is - c.step.new.frame.at) (drop c.step.new.frame.at is)) c.as_slice-instrs.ensures ∙ take_rest instrs c.step.new.frame.at;
    }

pub loop-rest-preserved-in-Behind : goal.loop-rest-preserved-in-Behind
loop-rest-preserved-in-Behind g c =
    let parts = c.args.code.now in
    let s0 = g.H.HeapAt.state c.args.heap.now in
    let a0 = whole c.args.standing.now c.args.frame.now c.args.left.now in
    let s = g.H.HeapAt.state c.loop-rest.heap in
    let a = whole c.loop-rest.standing c.loop-rest.frame c.loop-rest.left in
    let t = g.H.HeapAt.state c.step.new.heap in
    let b = whole c.step.new.standing c.step.new.frame c.step.new.left in
    let goes : StaysOn parts s a t b = subst (λ (x : Flow). GoesOn parts s a x c.step.new.out t b) c.in-Behind.is c.in_ok-step.ensures.on in
    let instrs : List Instr = c.args.procedure.now.instructions in
    record {
      ran = ran_on parts s0 s t a0 a b Switched c.loop-rest.invariant.ran (goes_as_moves parts s t a b goes.ran);
      procedure = ap (procedure_of parts) goes.stays ∙ c.loop-rest.invariant.procedure;
      top = subst (λ (r : g.row.H-Ref.Denot). IsRoot t b.place r) (sym c.step.ensures.top) (root_kept parts s t a b Here c.loop-rest.top.root goes.ran c.loop-rest.invariant.top);
      same = c.step.ensures.top ∙ c.loop-rest.invariant.same;
      last = subst (λ (p : g.row.H-Place.Denot). IfSome c.step.new.top.last (IsSeen t p)) (sym goes.ran.place) c.in_ok-step.ensures.last;
      rest = ap (λ (is : List Instr). take (length is - c.step.new.frame.at) (drop c.step.new.frame.at is)) c.as_slice-instrs.ensures ∙ take_rest instrs c.step.new.frame.at;
    }

pub returns-in-Out-clause-ran : goal.returns-in-Out-clause-ran
returns-in-Out-clause-ran g c =
    let parts = c.args.code.now in
    let s0 = g.H.HeapAt.state c.args.heap.now in
    let a0 = whole c.args.standing.now c.args.frame.now c.args.left.now in
    let s = g.H.HeapAt.state c.loop-rest.heap in
    let a = whole c.loop-rest.standing c.loop-rest.frame c.loop-rest.left in
    let t = g.H.HeapAt.state c.step.new.heap in
    let b = whole c.step.new.standing c.step.new.frame c.step.new.left in
    let out = c.step.new.out in
    let goes : LeavesBy parts s a out t b = subst (λ (x : Flow). GoesOn parts s a x out t b) c.in-Out.is c.in_ok-step.ensures.on in
    let came : came_with c.match-out.result ≡ out = elim c.match-out.branch [
      | in-Some w ↦ ap came_with w.result-is ∙ sym w.in-Some.is
      | in-None w ↦ ap came_with w.result-is ∙ sym w.in-None.is
    ] in
    let did : Leaves parts s0 a0 out t b = leaves_on parts s0 s t a0 a b out c.loop-rest.invariant.ran (c.loop-rest.invariant.procedure ∙ sym c.requires.procedure) (leaves parts s t a b out goes) in
    subst (λ (o : Option Step). Leaves parts s0 a0 o t b) (sym came) did

pub returns-in_err-step-clause-reads : goal.returns-in_err-step-clause-reads
returns-in_err-step-clause-reads g c =
    let parts = c.args.code.now in
    let a0 = whole c.args.standing.now c.args.frame.now c.args.left.now in
    let a = whole c.loop-rest.standing c.loop-rest.frame c.loop-rest.left in
    on_err c.from_residual.result (reads_on parts c.requires.valid (g.H.HeapAt.state c.args.heap.now) (g.H.HeapAt.state c.loop-rest.heap) a0 a
    c.requires.running (g.H.HeapAt.state c.step.new.heap) c.loop-rest.invariant.ran c.in_err-step.ensures.reads)

pub returns-in-Out-clause-due : goal.returns-in-Out-clause-due
returns-in-Out-clause-due g c =
    let parts = c.args.code.now in
    let s = g.H.HeapAt.state c.loop-rest.heap in
    let a = whole c.loop-rest.standing c.loop-rest.frame c.loop-rest.left in
    let t = g.H.HeapAt.state c.step.new.heap in
    let b = whole c.step.new.standing c.step.new.frame c.step.new.left in
    let out = c.step.new.out in
    let goes : LeavesBy parts s a out t b = subst (λ (x : Flow). GoesOn parts s a x out t b) c.in-Out.is c.in_ok-step.ensures.on in
    let here = at_rest parts s a c.index-rest-0.result c.args.procedure.now c.loop-rest.rest.now c.loop-rest.invariant.ran.running
    c.loop-rest.invariant.procedure c.loop-rest.invariant.rest c.index-rest-0.is in
    elim c.match-out.branch [
      | in-Some w ↦ subst (λ (r : Rested). IfDue r (λ instr. next_instr (current_of parts t b) ≡ Some instr)) (sym w.result-is) tt
      | in-None w ↦
          let by : LeavesBy parts s a None t b = subst (λ (o : Option Step). LeavesBy parts s a o t b) w.in-None.is goes in
          subst (λ (r : Rested). IfDue r (λ instr. next_instr (current_of parts t b) ≡ Some instr)) (sym w.result-is) (by.1 ∙ here)
    ]

pub returns-in-Out-clause-at : goal.returns-in-Out-clause-at
returns-in-Out-clause-at g c =
    let parts = c.args.code.now in
    let s = g.H.HeapAt.state c.loop-rest.heap in
    let a = whole c.loop-rest.standing c.loop-rest.frame c.loop-rest.left in
    let t = g.H.HeapAt.state c.step.new.heap in
    let b = whole c.step.new.standing c.step.new.frame c.step.new.left in
    let out = c.step.new.out in
    let goes : LeavesBy parts s a out t b = subst (λ (x : Flow). GoesOn parts s a x out t b) c.in-Out.is c.in_ok-step.ensures.on in
    elim c.match-out.branch [
      | in-Some w ↦ subst (λ (r : Rested). IfDue r (λ instr. b.current.at + 1 < 2 ^ 64)) (sym w.result-is) tt
      | in-None w ↦
          let by : LeavesBy parts s a None t b = subst (λ (o : Option Step). LeavesBy parts s a o t b) w.in-None.is goes in
          let lt = bound parts t b c.args.procedure.now c.as_slice-instrs.result.now by.0.0.running (by.0.2 ∙ c.loop-rest.invariant.procedure) c.as_slice-instrs.ensures in
          let small : b.current.at + 1 < 2 ^ 64 = omega arith in
          subst (λ (r : Rested). IfDue r (λ instr. b.current.at + 1 < 2 ^ 64)) (sym w.result-is) small
    ]

pub returns-in-Out-clause-last : goal.returns-in-Out-clause-last
returns-in-Out-clause-last g c =
    let t = g.H.HeapAt.state c.step.new.heap in
    subst (λ (p : g.row.H-Place.Denot). IfSome c.step.new.top.last (IsSeen t p)) c.loop-rest.invariant.ran.place c.in_ok-step.ensures.last
