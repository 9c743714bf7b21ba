use Rattle.std.proofs.Common.{inl, inr, refl, sym, ap, arith, Ok, Err, []}
use Rattle.std.proofs.KnownBytes.{Appends-nil}
use Rattle.pst_program.specs.View.{routines_of}
use Rattle.pst_history.specs.History.{begun}
use Rattle.pst_history.specs.Direct.{meaning_of}
use Rattle.pst_engine.specs.Stands.{opening_of}
use Rattle.pst_store.specs.Whole.{state_in}
use Rattle.pst_cli_serving.proofs.Keeping.{meaning_shape}
use Rattle.pst_cli_words.specs.declared.status.Status.TheVariants.{Done}
use Rattle.pst_image_rules.specs.declared.rule.Rule.TheVariants.{Ranges}
use Rattle.pst_cli_images.specs.Resuming.{resumed_in}
use Rattle.pst_cli_images.proofs.Taking.{opens_in, opening_is}
use Rattle.pst_cli_serve.proofs.Rows.{lines_behind}
use Rattle.pst_cli_serve.proofs.serving.go_on.Goals as goal

pub over-requires-clause-next : goal.over-requires-clause-next
over-requires-clause-next g c =
    let (p, tells, is) = c.requires.taken in
    let r = tells.accepted.rules Ranges in
    let low = r.run_low in
    let high = r.run_high in
    let same = ap (λ n. n.0) tells.next_run_is in
    (omega (arith, low, same), omega (arith, high, same))

pub over-requires-clause-budget : goal.over-requires-clause-budget
over-requires-clause-budget g c =
    let (p, tells, is) = c.requires.taken in
    let r = tells.accepted.rules Ranges in
    let low = r.budget_low in
    let high = r.budget_high in
    let same = tells.budget_is in
    (omega (arith, low, same), omega (arith, high, same))

pub over-requires-clause-heap : goal.over-requires-clause-heap
over-requires-clause-heap g c =
    let (p, tells, is) = c.requires.taken in
    let program = c.args.unpacked.program in
    opens_in (meaning_of program) program.shape p c.args.unpacked.store c.args.unpacked.next_run (sym (meaning_shape (routines_of program)))
    (tells.accepted.rules Ranges) tells.next_run_is is c.whole.ensures.store

pub returns-in_default-clause-served : goal.returns-in_default-clause-served
returns-in_default-clause-served g c = ([], Appends-nil _, inl (refl, (refl, refl), (refl, refl)))

pub returns-in-Ok-serve_script-clause-served : goal.returns-in-Ok-serve_script-clause-served
returns-in-Ok-serve_script-clause-served g c =
    let (p, tells, is) = c.requires.taken in
    let u = c.args.unpacked in
    let m = meaning_of u.program in
    let o = opening_of (state_in u.store) u.next_run.0 u.budget in
    let k = resumed_in c.args.store.now c.serve_script.new.store in
    let same = opening_is u.program.shape p u.store u.next_run u.budget tells.next_run_is tells.budget_is is c.whole.ensures.store in
    let (out, written, w) = c.in-Ok-serve_script.ensures.served m (begun o) c.in-Ok.ensures.stands in
    let about = c.in-Ok.ensures.about in
    (out, written, lines_behind k (Ok tt) Done c.args.bytes.items out _ _ _ _ p u.program c.in-Ok.session.code u.length o about refl tells.accepted same w)

pub returns-clause-served : goal.returns-clause-served
returns-clause-served g c =
    let (p, tells, is) = c.requires.taken in
    let u = c.args.unpacked in
    let m = meaning_of u.program in
    let o = opening_of (state_in u.store) u.next_run.0 u.budget in
    let k = resumed_in c.args.store.now c.serve_script.new.store in
    let same = opening_is u.program.shape p u.store u.next_run u.budget tells.next_run_is tells.budget_is is c.whole.ensures.store in
    let (out, written, w) = c.in-Err.ensures.served m (begun o) c.in-Ok.ensures.stands in
    let about = c.in-Ok.ensures.about in
    (out, written, lines_behind k (Err c.in-Err.stop) c.status_of.result c.args.bytes.items out _ _ _ _ p u.program c.in-Ok.session.code u.length o about c.status_of.ensures tells.accepted same w)
