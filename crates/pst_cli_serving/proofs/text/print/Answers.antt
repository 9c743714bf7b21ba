use Rattle.std.proofs.Common.{◌∙◌}
use Rattle.pst_cli_serving.proofs.Serving.{fault_printed, page_printed, page_stopped}
use Rattle.pst_cli_serving.proofs.text.print.Goals as goal

pub returns-in-Err-Fault-clause-printed : goal.returns-in-Err-Fault-clause-printed
returns-in-Err-Fault-clause-printed g c =
    let (out, written, w) = c.refuse.ensures.refused in
    (out, written, fault_printed c.refuse.result c.args.page c.args.text.items out c.in-Err-Fault.fault (rw c.in-Err-Fault.field-0-is at c.in-Err-Fault.ensures) w)

pub returns-in-Ok-say-clause-printed : goal.returns-in-Ok-say-clause-printed
returns-in-Ok-say-clause-printed g c =
    let (syntax, program, judged, is) = c.in-Ok.ensures in
    let (out, written, w) = c.in-Ok-say.ensures.said in
    (out, written, page_printed c.args.page c.args.text.items c.as_slice.result.now out syntax program judged (c.as_slice.ensures ∙ is) w)

pub returns-clause-printed : goal.returns-clause-printed
returns-clause-printed g c =
    let (syntax, program, judged, is) = c.in-Ok.ensures in
    let (out, written, w) = c.in-Err.ensures.said in
    (out, written, rw c.status_of.ensures (page_stopped c.in-Err.stop c.args.page c.args.text.items c.as_slice.result.now out syntax program judged (c.as_slice.ensures ∙ is) w))
