use Rattle.std.proofs.Common.{[], inl, refl, sym, subst}
use Rattle.std.proofs.KnownBytes.{Appends-nil}
use Rattle.pst_history.specs.Direct.{meaning_of}
use Rattle.pst_cli_scripts.specs.Script.{by_tree}
use Rattle.pst_cli_scripts.specs.Kept.{kept_by, history_after}
use Rattle.pst_cli_serving.specs.Storing.{IsLeft, IsBroken}
use Rattle.pst_cli_questions.specs.Telling.{Tells}
use Rattle.pst_cli_questions.specs.Asking.{AnsweredWhole, AnsweredInPart}
use Rattle.pst_cli_questions.proofs.AskRows.{fault_asked, answer_asked, answer_stopped, script_asked}
use Rattle.pst_cli_questions.proofs.asking.inquire.Goals as goal

pub returns-in-Err-Memory-clause-asked : goal.returns-in-Err-Memory-clause-asked
returns-in-Err-Memory-clause-asked g c = ([], Appends-nil _, (refl, inl (refl, (refl, refl))))

pub returns-in-Err-Fault-clause-asked : goal.returns-in-Err-Fault-clause-asked
returns-in-Err-Fault-clause-asked g c =
    let (out, written, w) = c.refuse.ensures.refused in
    let k = kept_by by_tree IsLeft IsBroken c.args.store.now c.args.store.now in (
      out,
      written,
      fault_asked c.refuse.result k (AnsweredWhole k c.args.question c.args.path.now) (AnsweredInPart k c.args.question c.args.path.now)
          _ _ c.args.text.items out c.in-Err-Fault.fault refl (rw c.in-Err-Fault.field-0-is at c.in-Err-Fault.ensures.verdict)
          (rw c.in-Err-Fault.field-0-is at w),
    )

pub returns-in-Err-clause-asked : goal.returns-in-Err-clause-asked
returns-in-Err-clause-asked g c =
    let (syntax, judged) = c.in-Ok.ensures.verdict in
    let k = kept_by by_tree IsLeft IsBroken c.args.store.now c.answer_to.new.store in (
      [],
      Appends-nil _,
      rw c.status_of.ensures (script_asked k (AnsweredWhole k c.args.question c.args.path.now)
          (AnsweredInPart k c.args.question c.args.path.now) _ _ _ _ c.args.text.items syntax c.in-Ok.program judged c.in-Err.stop c.in-Err.ensures.found),
    )

pub returns-in-Ok-say-clause-asked : goal.returns-in-Ok-say-clause-asked
returns-in-Ok-say-clause-asked g c =
    let (syntax, judged) = c.in-Ok.ensures.verdict in
    let m = meaning_of c.in-Ok.program in
    let k = kept_by by_tree IsLeft IsBroken c.args.store.now c.answer_to.new.store in
    let (lines, all, kept, told) = c.in-Ok-answer_to.ensures.found in
    let (out, written, w) = c.in-Ok-say.ensures.said in
    let piece = c.as_slice.result.now in
    let tells = subst (Tells c.in-Ok.program m (history_after by_tree m lines) c.args.question c.args.path.now) (sym c.as_slice.ensures) told in (
      out,
      written,
      answer_asked k (AnsweredWhole k c.args.question c.args.path.now) (AnsweredInPart k c.args.question c.args.path.now) _ _ _ _
          c.args.text.items syntax c.in-Ok.program judged lines out all
          (kept, (c.in-Ok.program, refl, subst (Tells c.in-Ok.program m (history_after by_tree m lines) c.args.question c.args.path.now) (sym w) tells)),
    )

pub returns-clause-asked : goal.returns-clause-asked
returns-clause-asked g c =
    let (syntax, judged) = c.in-Ok.ensures.verdict in
    let m = meaning_of c.in-Ok.program in
    let k = kept_by by_tree IsLeft IsBroken c.args.store.now c.answer_to.new.store in
    let (lines, all, kept, told) = c.in-Ok-answer_to.ensures.found in
    let (out, written, w) = c.in-Err-say.ensures.said in
    let piece = c.as_slice.result.now in
    let tells = subst (Tells c.in-Ok.program m (history_after by_tree m lines) c.args.question c.args.path.now) (sym c.as_slice.ensures) told in (
      out,
      written,
      rw c.status_of-in-Err-say.ensures (answer_stopped k (AnsweredWhole k c.args.question c.args.path.now)
          (AnsweredInPart k c.args.question c.args.path.now) _ _ _ _ c.args.text.items syntax c.in-Ok.program judged c.in-Err-say.stop lines piece out
          all kept (λ part. (kept, (c.in-Ok.program, refl, (piece, tells, part)))) w),
    )
