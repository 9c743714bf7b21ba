use Rattle.std.proofs.Common.{◌∙◌, inl, inr, sym, ap, subst, arith}
use Rattle.std.specs.Prelude.{MatchResult}
use Rattle.std.proofs.lemmas.List.{take_rest}
use Rattle.std.proofs.lemmas.Result.{err_from_is_err_and}
use Rattle.pst_program.specs.View.{routines_of}
use Rattle.pst_history.specs.History.{begun}
use Rattle.pst_history.specs.Direct.{meaning_of}
use Rattle.pst_engine.specs.Stands.{opening_of}
use Rattle.pst_store.specs.Whole.{state_in}
use Rattle.pst_cli_serving.proofs.Keeping.{meaning_shape}
use Rattle.pst_image_rules.specs.declared.rule.Rule.TheVariants.{Ranges}
use Rattle.pst_cli_images.specs.Resuming.{resumed_in}
use Rattle.pst_cli_images.proofs.Taking.{opens_in, opening_is}
use Rattle.pst_cli_images.specs.Left.{Lacks, Leaves}
use Rattle.pst_cli_images.proofs.Behind.{breaks, carries, leaves}
use Rattle.pst_cli_images.proofs.repacking.left_behind.Goals as goal

pub over-requires-clause-next : goal.over-requires-clause-next
over-requires-clause-next g c =
    let (p, tells, is) = c.requires.taken in
    let r = tells.accepted.rules Ranges in
    let low = r.run_low in
    let high = r.run_high in
    let same = ap (λ n. n.0) tells.next_run_is in
    (omega (arith, low, same), omega (arith, high, same))

pub over-requires-clause-budget : goal.over-requires-clause-budget
over-requires-clause-budget g c =
    let (p, tells, is) = c.requires.taken in
    let r = tells.accepted.rules Ranges in
    let low = r.budget_low in
    let high = r.budget_high in
    let same = tells.budget_is in
    (omega (arith, low, same), omega (arith, high, same))

pub over-requires-clause-heap : goal.over-requires-clause-heap
over-requires-clause-heap g c =
    let (p, tells, is) = c.requires.taken in
    let program = c.args.unpacked.program in
    opens_in (meaning_of program) program.shape p c.args.unpacked.store c.args.unpacked.next_run (sym (meaning_shape (routines_of program)))
    (tells.accepted.rules Ranges) tells.next_run_is is c.whole.ensures.store

pub returns-in_err-carry_text : goal.returns-in_err-carry_text
returns-in_err-carry_text g c =
    let (p, tells, is) = c.requires.taken in
    let u = c.args.unpacked in
    let m = meaning_of u.program in
    let o = opening_of (state_in u.store) u.next_run.0 u.budget in
    let k = resumed_in c.args.store.now c.carry_text.new.held in
    let input = c.args.bytes.now in
    let same = opening_is u.program.shape p u.store u.next_run u.budget tells.next_run_is tells.budget_is is c.whole.ensures.store in
    let (given, behind, first, broken) = c.in_err-carry_text.ensures.carried m (begun o) c.in-Ok.ensures.stands in
    let e = err_from_is_err_and c.from_residual.result c.from_residual.ensures.1 in
    record {
      left = subst (λ r. MatchResult r (λ left. Leaves k c.carry_text.new.held left input) (λ _. Lacks k input)) (sym e.1)
          (inr (inl (breaks k input p u.program u.length tells.accepted o same (take_rest input u.length) given behind first broken)));
    }

pub image_left-requires : goal.image_left-requires
image_left-requires g c =
    let (p, tells, is) = c.requires.taken in
    let u = c.args.unpacked in
    let m = meaning_of u.program in
    let o = opening_of (state_in u.store) u.next_run.0 u.budget in
    record { stands = (m, _, c.in_ok-carry_text.ensures.carried m (begun o) c.in-Ok.ensures.stands) }

pub returns-in-Ok-image_left : goal.returns-in-Ok-image_left
returns-in-Ok-image_left g c =
    let (p, tells, is) = c.requires.taken in
    let u = c.args.unpacked in
    let m = meaning_of u.program in
    let o = opening_of (state_in u.store) u.next_run.0 u.budget in
    let k = resumed_in c.args.store.now c.carry_text.new.held in
    let input = c.args.bytes.now in
    let same = opening_is u.program.shape p u.store u.next_run u.budget tells.next_run_is tells.budget_is is c.whole.ensures.store in
    let now = c.in_ok-carry_text.ensures.carried m (begun o) c.in-Ok.ensures.stands in
    record {
      left = leaves k input p u.program u.length tells.accepted o same (take_rest input u.length) c.carry_text.new.held c.as_slice.result.now
          (c.as_slice.ensures ∙ tells.text_is) c.in-Ok-image_left.left
          (c.known.ensures.leaves m _ now) (c.in-Ok-image_left.ensures.left m _ now);
    }

pub returns : goal.returns
returns g c =
    let (p, tells, is) = c.requires.taken in
    let u = c.args.unpacked in
    let m = meaning_of u.program in
    let o = opening_of (state_in u.store) u.next_run.0 u.budget in
    let k = resumed_in c.args.store.now c.carry_text.new.held in
    let input = c.args.bytes.now in
    let same = opening_is u.program.shape p u.store u.next_run u.budget tells.next_run_is tells.budget_is is c.whole.ensures.store in
    let now = c.in_ok-carry_text.ensures.carried m (begun o) c.in-Ok.ensures.stands in
    record { left = inr (inr (carries k input p u.program u.length tells.accepted o same (take_rest input u.length) (c.known.ensures.leaves m _ now))) }
