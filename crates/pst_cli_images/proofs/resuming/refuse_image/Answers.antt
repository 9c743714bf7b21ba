use Rattle.std.proofs.Common.{◌∙◌}
use Rattle.pst_cli_images.proofs.Rows.{line_stopped}
use Rattle.pst_cli_images.proofs.resuming.refuse_image.Goals as goal

pub returns-clause-refused : goal.returns-clause-refused
returns-clause-refused g c =
    let (out, written, w) = c.in-Err-say.ensures.said in
    (out, written, rw c.status_of.ensures (line_stopped c.in-Err-say.stop c.args.rule c.as_bytes.result.now out (c.as_bytes.ensures.value ∙ c.in-Ok.ensures) w))
