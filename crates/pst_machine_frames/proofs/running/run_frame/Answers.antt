use Rattle.std.proofs.Common.{◌≡◌, ◌+◌, ◌<◌, ◌^◌, Some, subst, ◌∙◌}
use Rattle.std.proofs.lemmas.Result.{IfOk-weaker}
use Rattle.pst_code.specs.Machine.{next_instr}
use Rattle.pst_machine_steps.specs.declared.standing.Step.TheVariants.{Switched}
use Rattle.pst_machine_frames.specs.Ready.{IfDue, Leaves, came_with, current_of, whole, total_of}
use Rattle.pst_machine_frames.specs.declared.running.Rested.{Rested}
use Rattle.pst_machine_frames.proofs.Moving.{ran_on, below_on}
use Rattle.pst_machine_frames.proofs.Reading.{on_err, on_ok, ran_reads}
use Rattle.pst_machine_frames.proofs.running.run_frame.Goals as goal

pub returns-in-At : goal.returns-in-At
returns-in-At g c =
    let l = subst (λ (r : Rested). Leaves c.args.code.now (g.H.HeapAt.state c.args.heap.now)
    (whole c.args.standing.now c.args.frame.now c.args.left.now) (came_with r) (g.H.HeapAt.state c.go_on.new.heap)
    (whole c.go_on.new.standing c.go_on.new.frame c.go_on.new.left)) c.in-At.is c.in_ok-step.ensures.ran in
    record { ran = l.0; falls = l.1; out = l.2; err = tt; reads = tt; top = c.go_on.ensures.top; last = c.in_ok-step.ensures.last; home = c.go_on.ensures.home }

pub switch-requires : goal.switch-requires
switch-requires g c =
    let l = subst (λ (r : Rested). Leaves c.args.code.now (g.H.HeapAt.state c.args.heap.now)
    (whole c.args.standing.now c.args.frame.now c.args.left.now) (came_with r) (g.H.HeapAt.state c.go_on.new.heap)
    (whole c.go_on.new.standing c.go_on.new.frame c.go_on.new.left)) c.in-Due.is c.in_ok-step.ensures.ran in
    let b = whole c.go_on.new.standing c.go_on.new.frame c.go_on.new.left in
    record {
      valid = c.requires.valid;
      running = l.0.running;
      funded = l.0.funded;
      at = subst (λ (r : Rested). IfDue r (λ instr. b.current.at + 1 < 2 ^ 64)) c.in-Due.is c.in_ok-step.ensures.at;
      instr = subst (λ (r : Rested). IfDue r (λ instr. next_instr (current_of c.args.code.now (g.H.HeapAt.state c.go_on.new.heap) b) ≡ Some instr)) c.in-Due.is c.in_ok-step.ensures.due;
      due = l.1;
    }

pub returns-in-Due : goal.returns-in-Due
returns-in-Due g c =
    let parts = c.args.code.now in
    let s = g.H.HeapAt.state c.args.heap.now in
    let t = g.H.HeapAt.state c.go_on.new.heap in
    let a = (whole c.args.standing.now c.args.frame.now c.args.left.now) in
    let b = (whole c.go_on.new.standing c.go_on.new.frame c.go_on.new.left) in
    let d = whole c.switch.new.standing c.switch.new.frame c.go_on.new.left in
    let l = subst (λ (r : Rested). Leaves parts s a (came_with r) t b) c.in-Due.is c.in_ok-step.ensures.ran in
    record {
      ran = IfOk-weaker c.switch.result _ _ (λ step r. ran_on parts s t t a b d step l.0 r) c.switch.ensures.ran;
      falls = IfOk-weaker c.switch.result _ _ (λ step less. below_on step (total_of parts t d) (total_of parts t b) (total_of parts s a) l.0.less less) c.switch.ensures.falls;
      out = c.switch.ensures.out;
      err = on_err c.switch.result l.0.kept;
      reads = on_err c.switch.result (ran_reads parts c.requires.valid s t a b c.requires.running Switched l.0);
      top = c.go_on.ensures.top;
      last = on_ok c.switch.result c.in_ok-step.ensures.last;
      home = (c.switch.ensures.home.0 ∙ c.go_on.ensures.home.0, c.switch.ensures.home.1 ∙ c.go_on.ensures.home.1);
    }
