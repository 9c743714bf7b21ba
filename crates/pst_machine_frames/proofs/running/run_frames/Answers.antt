use Rattle.std.proofs.Common.{ap, ◌∙◌, subst, sym, IfSome, length, Option, inl, inr, refl, ⊎_elim}
use Rattle.std.specs.Prelude.{unwrap_or}
use Rattle.std.proofs.lemmas.Bool.{cases_lt}
use Rattle.std.proofs.lemmas.Option.{slice_get_past}
use Rattle.pst_code.specs.declared.procedure.Procedure.{Procedure}
use Rattle.pst_machine_steps.specs.declared.standing.Step.{Step}
use Rattle.pst_machine_steps.specs.declared.standing.Step.TheVariants.{Switched}
use Rattle.pst_machine_steps.specs.View.{no_procedure}
use Rattle.pst_machine_steps.specs.declared.standing.Seen.{Seen}
use Rattle.pst_machine_steps.specs.Live.{IsRoot}
use Rattle.pst_machine_steps.specs.Steps.{IsSeen}
use Rattle.pst_machine_frames.specs.Ready.{Ran, whole, current_of}
use Rattle.pst_machine_frames.proofs.Moving.{ran_none, ran_on, root_kept, rest_of, procedure_there}
use Rattle.pst_machine_frames.proofs.Reading.{on_err, reads_on}
use Rattle.pst_machine_frames.proofs.running.run_frames.Goals as goal

pub loop-step-init : goal.loop-step-init
loop-step-init g c = record {
  ran = ran_none c.args.code.now (g.H.HeapAt.state c.args.heap.now) (whole c.args.standing.now c.args.frame.now c.args.left.now) c.requires.running c.requires.funded;
  top = subst (IsRoot (g.H.HeapAt.state c.args.heap.now) c.args.standing.now.place) (sym c.new-top.ensures.root) (record { live = c.root.ensures.live; name = c.root.ensures.name });
  last = subst (λ (o : Option (Seen g.row.H-Ref.Denot)). IfSome o (IsSeen (g.H.HeapAt.state c.args.heap.now) c.args.standing.now.place)) (sym c.new-top.ensures.last) tt;
}

pub body-procedure-requires : goal.body-procedure-requires
body-procedure-requires g c =
    let parts = c.args.code.now in
    let s = g.H.HeapAt.state c.loop-step.heap in
    let a = whole c.loop-step.standing c.loop-step.frame c.loop-step.left in
    procedure_there parts (s.heap a.place) a.current.procedure.0
    (⊎_elim (λ lt. inl lt) (λ le. inr (slice_get_past parts.procedures a.current.procedure.0 le))
    (cases_lt a.current.procedure.0 (length parts.procedures))) (current_of parts s a) refl c.loop-step.invariant.ran.running.sound.frame

pub run_near-requires-clause-procedure : goal.run_near-requires-clause-procedure
run_near-requires-clause-procedure g c = ap (λ (o : Option Procedure). unwrap_or o no_procedure) c.body-procedure.ensures

pub loop-step-preserved : goal.loop-step-preserved
loop-step-preserved g c =
    let t = g.H.HeapAt.state c.run_near.new.heap in
    let b = whole c.run_near.new.standing c.run_near.new.frame c.run_near.new.left in
    let parts = c.args.code.now in
    let s = g.H.HeapAt.state c.loop-step.heap in
    let a = whole c.loop-step.standing c.loop-step.frame c.loop-step.left in
    let moves : Ran parts s a Switched t b = subst (λ (x : Step). Ran parts s a x t b) c.in-Switched.is c.in_ok-step.ensures.ran in
    record {
      ran = ran_on parts (g.H.HeapAt.state c.args.heap.now) s t (whole c.args.standing.now c.args.frame.now c.args.left.now) a b Switched c.loop-step.invariant.ran moves;
      top = subst (λ (r : g.row.H-Ref.Denot). IsRoot t b.place r) (sym c.run_near.ensures.top) (root_kept parts s t a b Switched c.loop-step.top.root moves c.loop-step.invariant.top);
      last = subst (λ (p : g.row.H-Place.Denot). IfSome c.run_near.new.top.last (IsSeen t p)) (sym moves.place) c.in_ok-step.ensures.last;
    }

pub returns-in_default : goal.returns-in_default
returns-in_default g c =
    let t = g.H.HeapAt.state c.run_near.new.heap in
    let b = whole c.run_near.new.standing c.run_near.new.frame c.run_near.new.left in
    let parts = c.args.code.now in
    let s = g.H.HeapAt.state c.loop-step.heap in
    let a = whole c.loop-step.standing c.loop-step.frame c.loop-step.left in
    record {
      ran = ran_on parts (g.H.HeapAt.state c.args.heap.now) s t (whole c.args.standing.now c.args.frame.now c.args.left.now) a b c.in_ok-step.step c.loop-step.invariant.ran c.in_ok-step.ensures.ran;
      rests = rest_of c.in_ok-step.step c.in_default.not-Switched c.in_ok-step.ensures.out;
      err = tt;
      reads = tt;
      home = (c.run_near.ensures.home.0 ∙ c.loop-step.invariant.ran.place, c.run_near.ensures.home.1 ∙ c.loop-step.invariant.ran.run);
    }

pub returns-in_err-step-clause-reads : goal.returns-in_err-step-clause-reads
returns-in_err-step-clause-reads g c =
    let parts = c.args.code.now in
    on_err c.from_residual.result (reads_on parts c.requires.valid (g.H.HeapAt.state c.args.heap.now) (g.H.HeapAt.state c.loop-step.heap)
    (whole c.args.standing.now c.args.frame.now c.args.left.now) (whole c.loop-step.standing c.loop-step.frame c.loop-step.left)
    c.requires.running (g.H.HeapAt.state c.run_near.new.heap) c.loop-step.invariant.ran c.in_err-step.ensures.reads)
