use Rattle.std.proofs.Common.{◌∙◌, ap, refl, Err}
use Rattle.pst_cli_serving.specs.Serving.{status_of}
use Rattle.pst_cli_images.specs.Resuming.{resumed_in}
use Rattle.pst_cli_serve.proofs.Rows.{answered_row, fault_row}
use Rattle.pst_cli_serve.proofs.serving.serve_input.Goals as goal

pub returns-in-Err-clause-served : goal.returns-in-Err-clause-served
returns-in-Err-clause-served g c =
    let e = c.in-Err.ensures in
    fault_row c.in-Err.fault c.status_of.result (resumed_in c.args.store.now c.args.store.now) c.up_to-lines.result c.read_front.new.lines _ _ _
    c.new-bytes.result.items c.read_front.new.bytes.items (Err c.in-Err.fault) refl (c.status_of.ensures ∙ ap status_of c.from.ensures) refl
    (ap (λ s. s.input) c.up_to-lines.ensures) c.new-bytes.ensures.items e.on e.few

pub returns-clause-served : goal.returns-clause-served
returns-clause-served g c =
    let e = c.in-Ok.ensures in
    let b = c.serve_from.ensures in
    answered_row c.serve_from.result (resumed_in c.args.store.now c.serve_from.new.store) c.up_to-lines.result c.read_front.new.lines c.serve_from.new.lines.input _ _ _ _ _
    c.new-bytes.result.items c.read_front.new.bytes.items (ap (λ s. s.input) c.up_to-lines.ensures) c.new-bytes.ensures.items (e.on.hands (λ is. cc)) e.front
    e.on.ready.opened e.on.ready.near e.on.within e.on.limit b.within b.limit b.served
