use Rattle.std.proofs.Common.{◌∙◌, refl, subst, []}
use Rattle.std.proofs.KnownBytes.{Appends-nil}
use Rattle.pst_cli_images.specs.Resuming.{resumed_in}
use Rattle.pst_cli_images.specs.declared.repacking.Left.{Left}
use Rattle.pst_cli_images.specs.Repacking.{IsWhole}
use Rattle.pst_cli_images.specs.Left.{Leaves}
use Rattle.pst_cli_images.proofs.Behind.{line_counts, image_repacks, image_stops}
use Rattle.pst_cli_images.proofs.repacking.go_on.Goals as goal

pub returns-in-Err-clause-repacked : goal.returns-in-Err-clause-repacked
returns-in-Err-clause-repacked g c = ([], Appends-nil _, (refl, c.in-Err.ensures.left))

pub returns-in-Ok-TooMuch-clause-repacked : goal.returns-in-Ok-TooMuch-clause-repacked
returns-in-Ok-TooMuch-clause-repacked g c =
    let k = resumed_in c.args.store.now c.left_behind.new.store in
    let (out, written, w) = c.refuse_image.ensures.refused in
    let here = subst (λ (l : Left). Leaves k c.left_behind.new.store l c.args.bytes.now) c.in-Ok-TooMuch.field-0-is c.in-Ok-TooMuch.ensures.left in
    (out, written, line_counts c.left_behind.new.store c.refuse_image.result k c.args.bytes.now out here w)

pub returns-in-Ok-clause-repacked : goal.returns-in-Ok-clause-repacked
returns-in-Ok-clause-repacked g c =
    let k = resumed_in c.args.store.now c.left_behind.new.store in
    let (out, written, w) = c.in-Ok.ensures.said in
    let here = subst (λ (l : Left). Leaves k c.left_behind.new.store l c.args.bytes.now) c.in-Ok-Image.field-0-is c.in-Ok-Image.ensures.left in
    (out, written, image_repacks k c.left_behind.new.store IsWhole c.args.bytes.now c.in-Ok-Image.image out here (w ∙ c.as_slice.ensures))

pub returns-clause-repacked : goal.returns-clause-repacked
returns-clause-repacked g c =
    let k = resumed_in c.args.store.now c.left_behind.new.store in
    let (out, written, w) = c.in-Err-say.ensures.said in
    let here = subst (λ (l : Left). Leaves k c.left_behind.new.store l c.args.bytes.now) c.in-Ok-Image.field-0-is c.in-Ok-Image.ensures.left in
    (out, written, rw c.status_of.ensures (image_stops c.left_behind.new.store c.in-Err-say.stop k c.args.bytes.now c.in-Ok-Image.image c.as_slice.result.now out c.as_slice.ensures here w))
