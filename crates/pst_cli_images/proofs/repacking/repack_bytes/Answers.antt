use Rattle.std.proofs.Common.{refl, ap, inl, [], Err}
use Rattle.std.proofs.KnownBytes.{Appends-nil}
use Rattle.pst_cli_images.specs.Resuming.{resumed_in}
use Rattle.pst_cli_images.proofs.Behind.{line_repacks}
use Rattle.pst_cli_images.proofs.repacking.repack_bytes.Goals as goal

pub returns-in-Err-Memory-clause-repacked : goal.returns-in-Err-Memory-clause-repacked
returns-in-Err-Memory-clause-repacked g c = ([], Appends-nil _, (refl, inl refl))

pub returns-in-Err-Bad-clause-repacked : goal.returns-in-Err-Bad-clause-repacked
returns-in-Err-Bad-clause-repacked g c =
    let (out, written, w) = c.refuse_image.ensures.refused in
    let k = resumed_in c.args.store.now c.args.store.now in (
      out,
      written,
      line_repacks c.args.store.now c.refuse_image.result k c.in-Err-Bad.rule c.args.bytes.now out refl
          (c.in-Err-Bad.ensures.bad c.in-Err-Bad.rule (ap (λ f. Err f) c.in-Err-Bad.field-0-is)) w,
    )
