use Rattle.std.proofs.Common.{◌≡◌, ℕ, List, Option, Some, IfSome, refl, sym, subst, ap, ◌∙◌, inl, inr}
use Rattle.std.specs.Prelude.{slice_get}
use Rattle.std.proofs.lemmas.Result.{IfOk-weaker}
use Rattle.std.proofs.lemmas.Option.{slice_get_within, same_Some}
use Rattle.pst_base.specs.declared.names.ProcNo.{ProcNo}
use Rattle.pst_code.specs.declared.instr.Reg.{Reg}
use Rattle.pst_code.specs.declared.instr.Instr.{Instr}
use Rattle.pst_code.specs.declared.instr.Instr.TheVariants.{Call, Return}
use Rattle.pst_code.specs.declared.procedure.Procedure.{Procedure}
use Rattle.pst_code.specs.declared.procedure.Parts.{Parts}
use Rattle.pst_code.specs.Valid.{IsValidCode}
use Rattle.pst_code.specs.Machine.{next_instr}
use Rattle.pst_versions.specs.State.{State}
use Rattle.pst_machine_steps.specs.declared.standing.CallFrame.{CallFrame}
use Rattle.pst_machine_steps.specs.declared.standing.Standing.{Standing}
use Rattle.pst_machine_steps.specs.declared.standing.Step.{Step}
use Rattle.pst_machine_steps.specs.Calls.{Called, Left, SameTally}
use Rattle.pst_machine_frames.specs.Ready.{IsRunning, IsFunded, IsOut, Leaves, whole, current_of}
use Rattle.pst_machine_frames.proofs.Fitting.{callee_here}
use Rattle.pst_machine_frames.proofs.Acting.{called_acted, called_out, left_acted, left_out}
use Rattle.pst_machine_frames.proofs.Moving.{acted_other, not_next}
use Rattle.pst_machine_frames.proofs.running.switch.Goals as goal

-- the place, the run, the charges and what was made and printed stay beside the charges that are held apart too
same_whole : {P R : Type 0} {a b : Standing P R} {f f' : CallFrame R} {left : ℕ} → SameTally a b → SameTally (whole a f left) (whole b f' left)
same_whole d = record { place = d.place; run = d.run; left = refl; made = d.made; printed = d.printed }

module _ {P R : Type 0} (parts : Parts) (s : State P R) (a : Standing P R) (valid : IsValidCode parts) (running : IsRunning parts s a) (funded : IsFunded parts s a) where
  called : (p : ProcNo) (into : Option Reg) (arguments rs : List Reg) (b : Standing P R) → rs ≡ arguments → next_instr (current_of parts s a) ≡ Some (Call p into arguments) → (step : Step)
      → IfSome (slice_get parts.procedures p.0) (λ q. Called a.current a.callers.items p into rs q.kinds step b.current b.callers.items) → SameTally a b → Leaves parts s a (Some step) s b
  called p into arguments rs b same_list next step d same =
      let q = callee_here parts s a valid running p into arguments next in
      let does : Called a.current a.callers.items p into arguments q.procedure.kinds step b.current b.callers.items =
      subst (λ (rs : List Reg). Called a.current a.callers.items p into rs q.procedure.kinds step b.current b.callers.items) same_list
      (subst (λ (o : Option Procedure). IfSome o (λ q. Called a.current a.callers.items p into rs q.kinds step b.current b.callers.items)) q.there d) in
      let out : IsOut step = called_out parts s a.current b.current a.callers.items b.callers.items p into arguments q.procedure.kinds step does in
      let ran = acted_other parts s s a b (Call p into arguments) step valid running funded next (not_next step out)
      (called_acted parts s a b p into arguments step q.procedure running.live q.there does same) in
      (ran.0, ran.1, out)

  back : (r : Option Reg) (b : Standing P R) → next_instr (current_of parts s a) ≡ Some (Return r) → (step : Step)
      → Left a.current a.callers.items r step b.current b.callers.items → SameTally a b → Leaves parts s a (Some step) s b
  back r b next step does same =
      let out : IsOut step = left_out parts s a.current b.current a.callers.items b.callers.items r step does in
      let ran = acted_other parts s s a b (Return r) step valid running funded next (not_next step out) (left_acted parts s a b r step running.live does same) in
      (ran.0, ran.1, out)

pub unreachable-requires : goal.unreachable-requires
unreachable-requires g c =
    let same : c.requires.due.instr ≡ c.args.instr.now = same_Some c.requires.due.instr c.args.instr.now (sym c.requires.due.is ∙ c.requires.instr) in
    elim (c.requires.due.switches) [
      | inl w ↦ c.in_default.not-Call w.0 w.1 w.2 (sym same ∙ w.3)
      | inr w ↦ c.in_default.not-Return w.0 (sym same ∙ w.1)
    ]

pub call-requires-clause-known : goal.call-requires-clause-known
call-requires-clause-known g c =
    let s = g.H.HeapAt.state c.args.heap.now in
    let a = whole c.args.standing.now c.args.frame.now c.args._left in
    let parts = c.args.code.now in
    let q = callee_here parts s a c.requires.valid c.requires.running c.in-Call.p c.in-Call.into c.in-Call.arguments (c.requires.instr ∙ ap (λ (i : Instr). Some i) c.in-Call.is) in
    slice_get_within parts.procedures c.in-Call.p.0 q.procedure q.there

pub returns-in-Call-clause-ran : goal.returns-in-Call-clause-ran
returns-in-Call-clause-ran g c =
    let s = g.H.HeapAt.state c.args.heap.now in
    let a = whole c.args.standing.now c.args.frame.now c.args._left in
    let parts = c.args.code.now in
    IfOk-weaker c.call.result _ _ (λ step d. (called parts s a c.requires.valid c.requires.running c.requires.funded c.in-Call.p c.in-Call.into
    c.in-Call.arguments c.as_slice.result.now (whole c.call.new.standing c.call.new.frame c.args._left) c.as_slice.ensures
    (c.requires.instr ∙ ap (λ (i : Instr). Some i) c.in-Call.is) step d (same_whole c.call.ensures.same)).0) c.call.ensures.called

pub returns-in-Call-clause-falls : goal.returns-in-Call-clause-falls
returns-in-Call-clause-falls g c =
    let s = g.H.HeapAt.state c.args.heap.now in
    let a = whole c.args.standing.now c.args.frame.now c.args._left in
    let parts = c.args.code.now in
    IfOk-weaker c.call.result _ _ (λ step d. (called parts s a c.requires.valid c.requires.running c.requires.funded c.in-Call.p c.in-Call.into
    c.in-Call.arguments c.as_slice.result.now (whole c.call.new.standing c.call.new.frame c.args._left) c.as_slice.ensures
    (c.requires.instr ∙ ap (λ (i : Instr). Some i) c.in-Call.is) step d (same_whole c.call.ensures.same)).1) c.call.ensures.called

pub returns-in-Call-clause-out : goal.returns-in-Call-clause-out
returns-in-Call-clause-out g c =
    let s = g.H.HeapAt.state c.args.heap.now in
    let a = whole c.args.standing.now c.args.frame.now c.args._left in
    let parts = c.args.code.now in
    IfOk-weaker c.call.result _ _ (λ step d. (called parts s a c.requires.valid c.requires.running c.requires.funded c.in-Call.p c.in-Call.into
    c.in-Call.arguments c.as_slice.result.now (whole c.call.new.standing c.call.new.frame c.args._left) c.as_slice.ensures
    (c.requires.instr ∙ ap (λ (i : Instr). Some i) c.in-Call.is) step d (same_whole c.call.ensures.same)).2) c.call.ensures.called

pub returns-in-Return-clause-ran : goal.returns-in-Return-clause-ran
returns-in-Return-clause-ran g c =
    let s = g.H.HeapAt.state c.args.heap.now in
    let a = whole c.args.standing.now c.args.frame.now c.args._left in
    let parts = c.args.code.now in
    IfOk-weaker c.leave.result _ _ (λ step d. (back parts s a c.requires.valid c.requires.running c.requires.funded c.in-Return.s
    (whole c.leave.new.standing c.leave.new.frame c.args._left) (c.requires.instr ∙ ap (λ (i : Instr). Some i) c.in-Return.is) step d
    (same_whole c.leave.ensures.same)).0) c.leave.ensures.left

pub returns-in-Return-clause-falls : goal.returns-in-Return-clause-falls
returns-in-Return-clause-falls g c =
    let s = g.H.HeapAt.state c.args.heap.now in
    let a = whole c.args.standing.now c.args.frame.now c.args._left in
    let parts = c.args.code.now in
    IfOk-weaker c.leave.result _ _ (λ step d. (back parts s a c.requires.valid c.requires.running c.requires.funded c.in-Return.s
    (whole c.leave.new.standing c.leave.new.frame c.args._left) (c.requires.instr ∙ ap (λ (i : Instr). Some i) c.in-Return.is) step d
    (same_whole c.leave.ensures.same)).1) c.leave.ensures.left

pub returns-in-Return-clause-out : goal.returns-in-Return-clause-out
returns-in-Return-clause-out g c =
    let s = g.H.HeapAt.state c.args.heap.now in
    let a = whole c.args.standing.now c.args.frame.now c.args._left in
    let parts = c.args.code.now in
    IfOk-weaker c.leave.result _ _ (λ step d. (back parts s a c.requires.valid c.requires.running c.requires.funded c.in-Return.s
    (whole c.leave.new.standing c.leave.new.frame c.args._left) (c.requires.instr ∙ ap (λ (i : Instr). Some i) c.in-Return.is) step d
    (same_whole c.leave.ensures.same)).2) c.leave.ensures.left
