use Rattle.std.proofs.Common.{inl, refl, sym, ap, arith, Ok, Err, []}
use Rattle.std.proofs.KnownBytes.{Appends-nil}
use Rattle.std.proofs.lemmas.List.{take_rest}
use Rattle.pst_program.specs.View.{routines_of}
use Rattle.pst_history.specs.History.{begun}
use Rattle.pst_history.specs.Direct.{meaning_of}
use Rattle.pst_engine.specs.Stands.{opening_of}
use Rattle.pst_store.specs.Whole.{state_in}
use Rattle.pst_cli_serving.proofs.Keeping.{meaning_shape}
use Rattle.pst_image_rules.specs.declared.rule.Rule.TheVariants.{Ranges}
use Rattle.pst_cli_images.specs.Resuming.{resumed_in}
use Rattle.pst_cli_images.proofs.Taking.{opens_in, opening_is}
use Rattle.pst_cli_images.proofs.Rows.{behind, script_stops}
use Rattle.pst_cli_images.proofs.resuming.go_on.Goals as goal

pub over-requires-clause-next : goal.over-requires-clause-next
over-requires-clause-next g c =
    let (p, tells, is) = c.requires.taken in
    let r = tells.accepted.rules Ranges in
    let low = r.run_low in
    let high = r.run_high in
    let same = ap (λ n. n.0) tells.next_run_is in
    (omega (arith, low, same), omega (arith, high, same))

pub over-requires-clause-budget : goal.over-requires-clause-budget
over-requires-clause-budget g c =
    let (p, tells, is) = c.requires.taken in
    let r = tells.accepted.rules Ranges in
    let low = r.budget_low in
    let high = r.budget_high in
    let same = tells.budget_is in
    (omega (arith, low, same), omega (arith, high, same))

pub over-requires-clause-heap : goal.over-requires-clause-heap
over-requires-clause-heap g c =
    let (p, tells, is) = c.requires.taken in
    let program = c.args.unpacked.program in
    opens_in (meaning_of program) program.shape p c.args.unpacked.store c.args.unpacked.next_run (sym (meaning_shape (routines_of program)))
    (tells.accepted.rules Ranges) tells.next_run_is is c.whole.ensures.store

pub returns-in_default-clause-resumed : goal.returns-in_default-clause-resumed
returns-in_default-clause-resumed g c = ([], Appends-nil _, inl (refl, refl))

pub returns-in-Ok-answer_text-clause-resumed : goal.returns-in-Ok-answer_text-clause-resumed
returns-in-Ok-answer_text-clause-resumed g c =
    let (p, tells, is) = c.requires.taken in
    let u = c.args.unpacked in
    let m = meaning_of u.program in
    let o = opening_of (state_in u.store) u.next_run.0 u.budget in
    let k = resumed_in c.args.store.now c.answer_text.new.held in
    let same = opening_is u.program.shape p u.store u.next_run u.budget tells.next_run_is tells.budget_is is c.whole.ensures.store in
    let (out, written, w) = c.in-Ok-answer_text.ensures.answered m (begun o) c.in-Ok.ensures.stands in
    (out, written, behind k (Ok tt) c.args.bytes.now out p u.program u.length o (take_rest c.args.bytes.now u.length) tells.accepted same w)

pub returns-clause-resumed : goal.returns-clause-resumed
returns-clause-resumed g c =
    let (p, tells, is) = c.requires.taken in
    let u = c.args.unpacked in
    let m = meaning_of u.program in
    let o = opening_of (state_in u.store) u.next_run.0 u.budget in
    let k = resumed_in c.args.store.now c.answer_text.new.held in
    let s = c.in-Err.stop in
    let same = opening_is u.program.shape p u.store u.next_run u.budget tells.next_run_is tells.budget_is is c.whole.ensures.store in
    let (out, written, w) = c.in-Err.ensures.answered m (begun o) c.in-Ok.ensures.stands in (
      out,
      written,
      rw c.status_of.ensures (script_stops s k c.args.bytes.now out
          (behind k (Err s) c.args.bytes.now out p u.program u.length o (take_rest c.args.bytes.now u.length) tells.accepted same w)),
    )
