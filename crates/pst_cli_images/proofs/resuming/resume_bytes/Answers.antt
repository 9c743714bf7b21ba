use Rattle.std.proofs.Common.{refl, ap, inl, [], Err}
use Rattle.std.proofs.KnownBytes.{Appends-nil}
use Rattle.pst_cli_images.specs.Resuming.{resumed_in}
use Rattle.pst_cli_images.proofs.Rows.{line_resumes}
use Rattle.pst_cli_images.proofs.resuming.resume_bytes.Goals as goal

pub returns-in-Err-Memory-clause-resumed : goal.returns-in-Err-Memory-clause-resumed
returns-in-Err-Memory-clause-resumed g c = ([], Appends-nil _, inl (refl, refl))

pub returns-in-Err-Bad-clause-resumed : goal.returns-in-Err-Bad-clause-resumed
returns-in-Err-Bad-clause-resumed g c =
    let (out, written, w) = c.refuse_image.ensures.refused in
    let k = resumed_in c.args.store.now c.args.store.now in
    (out, written, line_resumes c.refuse_image.result k c.in-Err-Bad.rule c.args.bytes.now out refl (c.in-Err-Bad.ensures.bad c.in-Err-Bad.rule (ap (λ f. Err f) c.in-Err-Bad.field-0-is)) w)
