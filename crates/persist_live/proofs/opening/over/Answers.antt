use Rattle.std.proofs.Common.{sym, ap, subst, arith}
use Rattle.pst_program.specs.declared.program.Program.{Program}
use Rattle.pst_program.specs.View.{routines_of}
use Rattle.pst_typing.specs.View.{program_of}
use Rattle.pst_history.specs.History.{Opening, begun}
use Rattle.pst_history.specs.Direct.{meaning_of}
use Rattle.pst_cli_serving.specs.Storing.{IsRunning}
use Rattle.pst_cli_serving.proofs.Keeping.{meaning_shape}
use Rattle.pst_image_rules.specs.declared.rule.Rule.TheVariants.{Ranges}
use Rattle.pst_image_unpack.specs.Unpacked.{IsAccepted}
use Rattle.pst_cli_images.specs.Opening.{opening_in}
use Rattle.pst_cli_images.proofs.Taking.{opens_in, opening_is}
use Rattle.persist_live.proofs.opening.over.Goals as goal

pub over-requires-clause-next : goal.over-requires-clause-next
over-requires-clause-next c =
    let (p, tells, is) = c.requires.taken in
    let r = tells.accepted.rules Ranges in
    let low = r.run_low in
    let high = r.run_high in
    let same = ap (λ n. n.0) tells.next_run_is in
    (omega (arith, low, same), omega (arith, high, same))

pub over-requires-clause-budget : goal.over-requires-clause-budget
over-requires-clause-budget c =
    let (p, tells, is) = c.requires.taken in
    let r = tells.accepted.rules Ranges in
    let low = r.budget_low in
    let high = r.budget_high in
    let same = tells.budget_is in
    (omega (arith, low, same), omega (arith, high, same))

pub over-requires-clause-heap : goal.over-requires-clause-heap
over-requires-clause-heap c =
    let (p, tells, is) = c.requires.taken in
    let program = c.args.unpacked.program in
    opens_in (meaning_of program) program.shape p c.args.unpacked.store c.args.unpacked.next_run (sym (meaning_shape (routines_of program)))
    (tells.accepted.rules Ranges) tells.next_run_is is c.whole.ensures.store

pub returns-clause-resumes : goal.returns-clause-resumes
returns-clause-resumes c =
    let (p, tells, is) = c.requires.taken in
    let u = c.args.unpacked in
    let s = c.in-Ok.session in
    let same = opening_is u.program.shape p u.store u.next_run u.budget tells.next_run_is tells.budget_is is c.whole.ensures.store in
    let about = sym c.in-Ok.ensures.about in
    record {
      image = p;
      accepted = subst (λ (g : Program). IsAccepted c.args.bytes.now p (program_of g) u.length) about tells.accepted;
      text_is = tells.text_is;
      stands =
          subst (λ (g : Program). IsRunning s.code s.engine u.store (meaning_of g) (begun (opening_in g.shape p))) about
          (subst (λ (o : Opening). IsRunning s.code s.engine u.store (meaning_of u.program) (begun o)) same c.in-Ok.ensures.stands);
    }
