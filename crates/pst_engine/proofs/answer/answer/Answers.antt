use Rattle.std.proofs.Common.{subst, sym}
use Rattle.pst_script.specs.declared.command.Command.{Command}
use Rattle.pst_engine_runs.specs.Runs.{machine_runs}
use Rattle.pst_engine.specs.Stands.{MayAnswer, Carries}
use Rattle.std.specs.Prelude.{IfOk}
use Rattle.std.proofs.Common.{refl, ap, ◌∙◌}
use Rattle.pst_script.specs.declared.reply.Reply.TheVariants as answer
use Rattle.pst_engine.proofs.Commands.{budget-keeps, budget-set, parents-are}
use Rattle.pst_engine.proofs.answer.answer.Goals as goal

pub run-requires : goal.run-requires
run-requires g c =
    let Q : Command → Type 0 = λ x. MayAnswer (g.C.Meant.meant c.args.code.now) c.args.engine.now (g.H.HeapAt.state c.args.heap.now) x in
    subst Q c.in-Run.is c.requires

pub ask-requires : goal.ask-requires
ask-requires g c =
    let Q : Command → Type 0 = λ x. MayAnswer (g.C.Meant.meant c.args.code.now) c.args.engine.now (g.H.HeapAt.state c.args.heap.now) x in
    subst Q c.in-Query.is c.requires

pub open_run-requires : goal.open_run-requires
open_run-requires g c =
    let Q : Command → Type 0 = λ x. MayAnswer (g.C.Meant.meant c.args.code.now) c.args.engine.now (g.H.HeapAt.state c.args.heap.now) x in
    subst Q c.in-OpenRun.is c.requires

pub open_empty-requires : goal.open_empty-requires
open_empty-requires g c =
    let Q : Command → Type 0 = λ x. MayAnswer (g.C.Meant.meant c.args.code.now) c.args.engine.now (g.H.HeapAt.state c.args.heap.now) x in
    subst Q c.in-OpenEmpty.is c.requires

pub call_run-requires : goal.call_run-requires
call_run-requires g c =
    let Q : Command → Type 0 = λ x. MayAnswer (g.C.Meant.meant c.args.code.now) c.args.engine.now (g.H.HeapAt.state c.args.heap.now) x in
    subst Q c.in-CallRun.is c.requires

pub step_run-requires : goal.step_run-requires
step_run-requires g c =
    let Q : Command → Type 0 = λ x. MayAnswer (g.C.Meant.meant c.args.code.now) c.args.engine.now (g.H.HeapAt.state c.args.heap.now) x in
    subst Q c.in-StepRun.is c.requires

pub close_run-requires : goal.close_run-requires
close_run-requires g c =
    let Q : Command → Type 0 = λ x. MayAnswer (g.C.Meant.meant c.args.code.now) c.args.engine.now (g.H.HeapAt.state c.args.heap.now) x in
    subst Q c.in-CloseRun.is c.requires

pub drop_run-requires : goal.drop_run-requires
drop_run-requires g c =
    let Q : Command → Type 0 = λ x. MayAnswer (g.C.Meant.meant c.args.code.now) c.args.engine.now (g.H.HeapAt.state c.args.heap.now) x in
    subst Q c.in-DropRun.is c.requires

pub returns-in-Run-clause-ok : goal.returns-in-Run-clause-ok
returns-in-Run-clause-ok g c =
    let Q : Command → Type 0 = λ x. IfOk c.run.result (Carries (g.C.Meant.meant c.args.code.now) c.args.engine.now (g.H.HeapAt.state c.args.heap.now)
    x c.run.new.engine (g.H.HeapAt.state c.run.new.heap)) in
    subst Q (sym c.in-Run.is) c.run.ensures.ok

pub returns-in-CallRun-clause-ok : goal.returns-in-CallRun-clause-ok
returns-in-CallRun-clause-ok g c =
    let Q : Command → Type 0 = λ x. IfOk c.call_run.result (Carries (g.C.Meant.meant c.args.code.now) c.args.engine.now
    (g.H.HeapAt.state c.args.heap.now) x c.call_run.new.engine (g.H.HeapAt.state c.call_run.new.heap)) in
    subst Q (sym c.in-CallRun.is) c.call_run.ensures.ok

pub returns-in-StepRun-clause-ok : goal.returns-in-StepRun-clause-ok
returns-in-StepRun-clause-ok g c =
    let Q : Command → Type 0 = λ x. IfOk c.step_run.result (Carries (g.C.Meant.meant c.args.code.now) c.args.engine.now
    (g.H.HeapAt.state c.args.heap.now) x c.step_run.new.engine (g.H.HeapAt.state c.step_run.new.heap)) in
    subst Q (sym c.in-StepRun.is) c.step_run.ensures.ok

pub returns-in-CloseRun-clause-ok : goal.returns-in-CloseRun-clause-ok
returns-in-CloseRun-clause-ok g c =
    let Q : Command → Type 0 = λ x. IfOk c.close_run.result (Carries (g.C.Meant.meant c.args.code.now) c.args.engine.now
    (g.H.HeapAt.state c.args.heap.now) x c.close_run.new.engine (g.H.HeapAt.state c.close_run.new.heap)) in
    subst Q (sym c.in-CloseRun.is) c.close_run.ensures.ok

pub returns-in-DropRun-clause-ok : goal.returns-in-DropRun-clause-ok
returns-in-DropRun-clause-ok g c =
    let s = g.H.HeapAt.state c.args.heap.now in
    let Q : Command → Type 0 = λ x. Carries (g.C.Meant.meant c.args.code.now) c.args.engine.now s x c.drop_run.new.engine s c.drop_run.result in
    subst Q (sym c.in-DropRun.is) c.drop_run.ensures.carries

pub returns-in-Budget-clause-ok : goal.returns-in-Budget-clause-ok
returns-in-Budget-clause-ok g c =
    let code = g.C.Meant.meant c.args.code.now in
    let m = code.meaning in
    let s = g.H.HeapAt.state c.args.heap.now in
    let engine = c.args.engine.now in
    let charges = c.in-Budget.charges in
    let Q : Command → Type 0 = λ l. Carries code engine s l (record engine { budget = charges }) s (answer.BudgetSet charges) in
    subst Q (sym c.in-Budget.is) (λ h stand none. record {
      stands = λ range. budget-keeps m (machine_runs code.parts) s engine.active.items.items engine.budget charges engine.next_run.0 h
          (budget-set m c.known.ensures.lawful h charges range stand.sound none) stand;
      reply = refl;
    })

pub returns-in_ok-parents-in-Versions-clause-ok : goal.returns-in_ok-parents-in-Versions-clause-ok
returns-in_ok-parents-in-Versions-clause-ok g c =
    let code = g.C.Meant.meant c.args.code.now in
    let m = code.meaning in
    let s = g.H.HeapAt.state c.args.heap.now in
    let engine = c.args.engine.now in
    let list = c.in_ok-parents-in-Versions.field-0 in
    let Q : Command → Type 0 = λ l. Carries code engine s l engine s (answer.VersionList list) in
    subst Q (sym c.in-Versions.is) (λ h stand none. record {
      stands = λ range. stand;
      reply =
          ap answer.VersionList (c.in_ok-parents-in-Versions.ensures ∙ parents-are m s h stand.sound stand.versions);
    })
