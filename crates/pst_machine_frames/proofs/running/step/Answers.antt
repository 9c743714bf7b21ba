use Rattle.std.proofs.Common.{ap, sym, subst, ◌∙◌, ◌≡◌, arith}
use Rattle.pst_code.specs.declared.procedure.Procedure.{Procedure}
use Rattle.pst_machine_steps.specs.declared.standing.Step.TheVariants.{Next, Here}
use Rattle.pst_machine_frames.specs.Ready.{Acted, CameTo, IsOff, IfOut, IfNext, whole, came_to}
use Rattle.pst_machine_frames.specs.declared.running.Flow.{Flow}
use Rattle.pst_machine_frames.proofs.Moving.{acted_on, acted_other, left_by}
use Rattle.pst_machine_frames.proofs.running.step.Goals as goal

pub instruction-requires-clause-kinds : goal.instruction-requires-clause-kinds
instruction-requires-clause-kinds g c = c.requires.kinds ∙ ap (λ (p : Procedure). p.kinds) (sym c.requires.procedure)

pub overflow_add-frame : goal.overflow_add-frame
overflow_add-frame g c =
    let still : c.instruction.new.frame.at ≡ c.args.frame.now.at = subst (λ (x : Flow). IfNext x (c.instruction.new.frame.at ≡ c.args.frame.now.at)) c.in-Next.is c.in_ok-instruction.ensures.still in
    omega (arith, still, c.requires.at)

pub overflow_add-frame-in-Behind : goal.overflow_add-frame-in-Behind
overflow_add-frame-in-Behind g c =
    let still : c.instruction.new.frame.at ≡ c.args.frame.now.at = subst (λ (x : Flow). IfNext x (c.instruction.new.frame.at ≡ c.args.frame.now.at)) c.in-Behind.is c.in_ok-instruction.ensures.still in
    omega (arith, still, c.requires.at)

pub returns-in-Next-clause-on : goal.returns-in-Next-clause-on
returns-in-Next-clause-on g c =
    let s = g.H.HeapAt.state c.args.heap.now in
    let a = whole c.args.standing.now c.args.frame.now c.args.left.now in
    let parts = c.args.code.now in
    let t = g.H.HeapAt.state c.instruction.new.heap in
    let b = whole c.instruction.new.standing c.instruction.new.frame c.instruction.new.left in
    let out = c.instruction.new.out in
    let instr = c.args.instr.now in
    let acted : Acted parts s a instr Next t b = subst (λ (x : Flow). CameTo parts s a instr (came_to x out) t b) c.in-Next.is c.in_ok-instruction.ensures.acted in
    let on = acted_on parts s t a b instr c.requires.valid c.requires.running c.requires.funded c.requires.instr acted in
    record { ran = on.0; less = on.1; stays = acted.stays tt }

pub returns-in-Behind-clause-on : goal.returns-in-Behind-clause-on
returns-in-Behind-clause-on g c =
    let s = g.H.HeapAt.state c.args.heap.now in
    let a = whole c.args.standing.now c.args.frame.now c.args.left.now in
    let parts = c.args.code.now in
    let t = g.H.HeapAt.state c.instruction.new.heap in
    let b = whole c.instruction.new.standing c.instruction.new.frame c.instruction.new.left in
    let out = c.instruction.new.out in
    let instr = c.args.instr.now in
    let acted : Acted parts s a instr Next t b = subst (λ (x : Flow). CameTo parts s a instr (came_to x out) t b) c.in-Behind.is c.in_ok-instruction.ensures.acted in
    let on = acted_on parts s t a b instr c.requires.valid c.requires.running c.requires.funded c.requires.instr acted in
    record { ran = on.0; less = on.1; stays = acted.stays tt }

pub returns-in-Next-clause-next : goal.returns-in-Next-clause-next
returns-in-Next-clause-next g c =
    let still : c.instruction.new.frame.at ≡ c.args.frame.now.at = subst (λ (x : Flow). IfNext x (c.instruction.new.frame.at ≡ c.args.frame.now.at)) c.in-Next.is c.in_ok-instruction.ensures.still in
    omega (arith, still)

pub returns-in-Behind-clause-next : goal.returns-in-Behind-clause-next
returns-in-Behind-clause-next g c =
    let still : c.instruction.new.frame.at ≡ c.args.frame.now.at = subst (λ (x : Flow). IfNext x (c.instruction.new.frame.at ≡ c.args.frame.now.at)) c.in-Behind.is c.in_ok-instruction.ensures.still in
    omega (arith, still)

pub returns-in-Here-clause-on : goal.returns-in-Here-clause-on
returns-in-Here-clause-on g c =
    let s = g.H.HeapAt.state c.args.heap.now in
    let a = whole c.args.standing.now c.args.frame.now c.args.left.now in
    let parts = c.args.code.now in
    let t = g.H.HeapAt.state c.instruction.new.heap in
    let b = whole c.instruction.new.standing c.instruction.new.frame c.instruction.new.left in
    let out = c.instruction.new.out in
    let instr = c.args.instr.now in
    let acted : Acted parts s a instr Here t b = subst (λ (x : Flow). CameTo parts s a instr (came_to x out) t b) c.in-Here.is c.in_ok-instruction.ensures.acted in
    let ran = acted_other parts s t a b instr Here c.requires.valid c.requires.running c.requires.funded c.requires.instr (λ e. absurd (cc)) acted in
    record { ran = ran.0; less = ran.1; stays = acted.stays tt }

pub returns-in-Out-clause-on : goal.returns-in-Out-clause-on
returns-in-Out-clause-on g c =
    let s = g.H.HeapAt.state c.args.heap.now in
    let a = whole c.args.standing.now c.args.frame.now c.args.left.now in
    let parts = c.args.code.now in
    let t = g.H.HeapAt.state c.instruction.new.heap in
    let b = whole c.instruction.new.standing c.instruction.new.frame c.instruction.new.left in
    let out = c.instruction.new.out in
    let instr = c.args.instr.now in
    let came : CameTo parts s a instr out t b = subst (λ (x : Flow). CameTo parts s a instr (came_to x out) t b) c.in-Out.is c.in_ok-instruction.ensures.acted in
    let off : IsOff out = subst (λ (x : Flow). IfOut x (IsOff out)) c.in-Out.is c.in_ok-instruction.ensures.out in
    left_by parts s t a b instr out c.requires.valid c.requires.running c.requires.funded c.requires.instr off came
