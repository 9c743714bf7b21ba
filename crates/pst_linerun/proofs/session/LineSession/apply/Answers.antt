use Rattle.std.proofs.Common.{◌≡◌, None, false, ◌∙◌, sym, subst, refl}
use Rattle.pst_engine_runs.proofs.Slicing.{on-err, stay-holds}
use Rattle.pst_history.specs.History.{History}
use Rattle.pst_linerun.specs.Linear.{line_refusal, line_after}
use Rattle.pst_linerun.specs.Standing.{SessionStands}
use Rattle.pst_linerun.proofs.Refusing.{carried-after, carried-reply, told}
use Rattle.pst_linerun.proofs.session.LineSession.apply.Given.{Over}
use Rattle.pst_linerun.proofs.session.LineSession.apply.Goals.{After-refused}
use Rattle.pst_linerun.proofs.session.LineSession.apply.Goals as goal

-- the refusal that was found is that of the history
found : (g : Over) (c : After-refused g) (h : History) → SessionStands (g.C.Meant.meant c.args.code.now).meaning c.args.self.now
    (g.S.HeapAt.state c.args.store.now) (g.S.LineCalls.stored c.args.store.now) h
    → line_refusal (g.C.Meant.meant c.args.code.now).meaning h c.args.command.now ≡ c.refused.result
found g c h stand =
    let session = c.args.self.now in
    sym (told (g.C.Meant.meant c.args.code.now).meaning session.budget session.next_run.0 (g.S.HeapAt.state c.args.store.now)
    (g.S.LineCalls.stored c.args.store.now) h stand.stands c.args.command.now) ∙ sym c.refused.ensures

pub returns-clause-answers : goal.returns-clause-answers
returns-clause-answers g c = λ h stand.
    let m = (g.C.Meant.meant c.args.code.now).meaning in
    let none : line_refusal m h c.args.command.now ≡ None = found g (goal.at.returns-clause-answers g c).After-refused h stand ∙ c.in_default.is in
    let is = c.in_ok-reply.ensures.ok h stand.stands none in
    record {
      stands = λ range. subst (λ y. SessionStands m (record c.answer.new.session { failed = false }) (g.S.HeapAt.state c.answer.new.store)
          (g.S.LineCalls.stored c.answer.new.store) y) (carried-after m h c.args.command.now none) (record { works = refl; stands = is.stands range });
      reply = carried-reply m h c.args.command.now c.in_ok-reply.reply none is.reply;
    }

pub returns-clause-may : goal.returns-clause-may
returns-clause-may g c = λ range.
    let m = (g.C.Meant.meant c.args.code.now).meaning in
    let may = c.requires c.if-self.false in
    let none : line_refusal m may.history c.args.command.now ≡ None = found g (goal.at.returns-clause-may g c).After-refused may.history may.stands ∙ c.in_default.is in
    let is = c.in_ok-reply.ensures.ok may.history may.stands.stands none in
    record {
      history = line_after m may.history c.args.command.now;
      stands = subst (λ y. SessionStands m (record c.answer.new.session { failed = false }) (g.S.HeapAt.state c.answer.new.store)
          (g.S.LineCalls.stored c.answer.new.store) y) (carried-after m may.history c.args.command.now none)
          (record { works = refl; stands = is.stands range });
    }

pub returns-in_err-reply-clause-holds : goal.returns-in_err-reply-clause-holds
returns-in_err-reply-clause-holds g c = on-err c.from_residual.result
    (λ h stand. stay-holds (g.C.Meant.meant c.args.code.now).meaning (g.S.HeapAt.state c.args.store.now) (g.S.HeapAt.state c.answer.new.store) h
    c.in_err-reply.ensures.err stand.stands.versions)
