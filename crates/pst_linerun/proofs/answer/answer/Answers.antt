use Rattle.std.proofs.Common.{◌≡◌, ◌∙◌, None, ap, sym, subst, refl}
use Rattle.pst_script.specs.declared.command.Command.{Command}
use Rattle.pst_script.specs.declared.reply.Reply.TheVariants as answer
use Rattle.pst_history.specs.History.{History}
use Rattle.pst_engine.proofs.Commands.{parents-are}
use Rattle.pst_engine_runs.proofs.Slicing.{on-err}
use Rattle.pst_linerun.specs.Linear.{line_refusal}
use Rattle.pst_linerun.specs.Standing.{LineStands}
use Rattle.pst_linerun.specs.Carried.{IsCarried}
use Rattle.pst_linerun.proofs.Answering.{budget-stands}
use Rattle.pst_linerun.proofs.Holding.{stays-refl}
use Rattle.pst_linerun.proofs.answer.answer.Goals as goal

pub returns-in_err-parents-in-Versions-clause-err :
    goal.returns-in_err-parents-in-Versions-clause-err
returns-in_err-parents-in-Versions-clause-err g c = on-err c.from_residual-in_err-parents-in-Versions.result (stays-refl (g.S.HeapAt.state c.args.store.now) c.known_line.ensures.chain)

pub returns-in-Budget-clause-ok : goal.returns-in-Budget-clause-ok
returns-in-Budget-clause-ok g c =
    let m = (g.C.Meant.meant c.args.code.now).meaning in
    let s = g.S.HeapAt.state c.args.store.now in
    let stored = g.S.LineCalls.stored c.args.store.now in
    let session = c.args.session.now in
    let charges = c.in-Budget.charges in
    let Q : Command → Type 0 = λ l. (h : History) → LineStands m session.budget session.next_run.0 s stored h → line_refusal m h l ≡ None
    → IsCarried m l (answer.BudgetSet charges) charges session.next_run.0 s stored h in
    subst Q (sym c.in-Budget.is) (λ h stand none. record {
      stands = λ range. budget-stands m c.known.ensures.lawful session.budget session.next_run.0 charges s stored h stand range;
      reply = refl;
    })

pub returns-in_ok-parents-in-Versions-clause-ok : goal.returns-in_ok-parents-in-Versions-clause-ok
returns-in_ok-parents-in-Versions-clause-ok g c =
    let m = (g.C.Meant.meant c.args.code.now).meaning in
    let s = g.S.HeapAt.state c.args.store.now in
    let stored = g.S.LineCalls.stored c.args.store.now in
    let session = c.args.session.now in
    let list = c.in_ok-parents-in-Versions.field-0 in
    let Q : Command → Type 0 = λ l. (h : History) → LineStands m session.budget session.next_run.0 s stored h → line_refusal m h l ≡ None
    → IsCarried m l (answer.VersionList list) session.budget session.next_run.0 s stored h in
    subst Q (sym c.in-Versions.is) (λ h stand none. record {
      stands = λ range. stand;
      reply = ap answer.VersionList (c.in_ok-parents-in-Versions.ensures ∙ parents-are m s h stand.sound stand.versions);
    })
