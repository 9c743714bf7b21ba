use Rattle.std.proofs.Common.{◌≡◌, [], inl, refl, ◌∙◌, subst}
use Rattle.std.proofs.KnownBytes.{Appends-nil}
use Rattle.pst_history.specs.Direct.{meaning_of}
use Rattle.pst_cli_scripts.specs.Pieces.{IsPartOf}
use Rattle.pst_cli_scripts.specs.Script.{by_tree}
use Rattle.pst_cli_scripts.specs.Kept.{kept_by}
use Rattle.pst_cli_serving.specs.Storing.{IsLeft, IsBroken}
use Rattle.pst_cli_questions.proofs.AskRows.{fault_asked, answer_asked, answer_stopped, script_asked}
use Rattle.pst_cli_images.specs.Packing.{PacksWhole, PacksInPart}
use Rattle.pst_cli_images.proofs.Found.{packed}
use Rattle.pst_cli_images.proofs.packing.pack_text.Goals as goal

pub returns-in-Err-Memory-clause-packed : goal.returns-in-Err-Memory-clause-packed
returns-in-Err-Memory-clause-packed g c = ([], Appends-nil _, (refl, inl (refl, (refl, refl))))

pub returns-in-Err-Fault-clause-packed : goal.returns-in-Err-Fault-clause-packed
returns-in-Err-Fault-clause-packed g c =
    let (out, written, w) = c.refuse.ensures.refused in
    let k = kept_by by_tree IsLeft IsBroken c.args.store.now c.args.store.now in (
      out,
      written,
      fault_asked c.refuse.result k (PacksWhole k c.args.store.now) (PacksInPart k c.args.store.now) _ _ c.args.text.items out
          c.in-Err-Fault.fault refl (rw c.in-Err-Fault.field-0-is at c.in-Err-Fault.ensures.verdict) w,
    )

pub returns-in-Err-clause-packed : goal.returns-in-Err-clause-packed
returns-in-Err-clause-packed g c =
    let (syntax, judged, same) = c.in-Ok.ensures.verdict in
    let k = kept_by by_tree IsLeft IsBroken c.args.store.now c.image_of.new.store in (
      [],
      Appends-nil _,
      rw c.status_of.ensures (script_asked k (PacksWhole k c.image_of.new.store) (PacksInPart k c.image_of.new.store) _ _ _ _
          c.args.text.items syntax c.in-Ok.program judged c.in-Err.stop c.in-Err.ensures.found),
    )

pub returns-in-Ok-say-clause-packed : goal.returns-in-Ok-say-clause-packed
returns-in-Ok-say-clause-packed g c =
    let (syntax, judged, same) = c.in-Ok.ensures.verdict in
    let m = meaning_of c.in-Ok.program in
    let k = kept_by by_tree IsLeft IsBroken c.args.store.now c.image_of.new.store in
    let (lines, all, kept, is) = c.in-Ok-image_of.ensures.found in
    let (out, written, w) = c.in-Ok-say.ensures.said in (
      out,
      written,
      answer_asked k (PacksWhole k c.image_of.new.store) (PacksInPart k c.image_of.new.store) _ _ _ _ c.args.text.items syntax c.in-Ok.program judged lines out all
          (packed k c.image_of.new.store (λ image written. written ≡ image) syntax c.in-Ok.program lines c.as_slice.result.now c.in-Ok-image_of.image
          out (c.as_slice.ensures ∙ same) kept is (w ∙ c.as_slice-in-Ok-image_of.ensures)),
    )

pub returns-clause-packed : goal.returns-clause-packed
returns-clause-packed g c =
    let (syntax, judged, same) = c.in-Ok.ensures.verdict in
    let m = meaning_of c.in-Ok.program in
    let k = kept_by by_tree IsLeft IsBroken c.args.store.now c.image_of.new.store in
    let (lines, all, kept, is) = c.in-Ok-image_of.ensures.found in
    let (out, written, w) = c.in-Err-say.ensures.said in (
      out,
      written,
      rw c.status_of-in-Err-say.ensures (answer_stopped k (PacksWhole k c.image_of.new.store) (PacksInPart k c.image_of.new.store) _ _ _ _
          c.args.text.items syntax c.in-Ok.program judged c.in-Err-say.stop lines c.as_slice-in-Ok-image_of.result.now out all kept
          (λ part. packed k c.image_of.new.store IsPartOf syntax c.in-Ok.program lines c.as_slice.result.now c.in-Ok-image_of.image out
          (c.as_slice.ensures ∙ same) kept is (subst (λ p. IsPartOf p out) c.as_slice-in-Ok-image_of.ensures part)) w),
    )
