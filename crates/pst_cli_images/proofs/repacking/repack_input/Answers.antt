use Rattle.std.proofs.Common.{◌∙◌, ap, Ok, Err, refl}
use Rattle.pst_io.specs.declared.room.TheConstants.{MOST_SERVED}
use Rattle.pst_cli_serving.specs.Serving.{status_of}
use Rattle.pst_cli_images.specs.Resuming.{resumed_in}
use Rattle.pst_cli_images.specs.Repacking.{RepackComes}
use Rattle.pst_cli_images.proofs.Behind.{comes_whole}
use Rattle.pst_cli_images.proofs.HandedRows.{is_over, over_row, stopped_row}
use Rattle.pst_cli_images.proofs.repacking.repack_input.Goals as goal

pub returns-in-Err-clause-repacked : goal.returns-in-Err-clause-repacked
returns-in-Err-clause-repacked g c =
    let e = c.in-Err.ensures in
    stopped_row MOST_SERVED (RepackComes c.args.store.now) c.in-Err.fault c.status_of.result (resumed_in c.args.store.now c.args.store.now) c.up_to-lines.result.input c.hand.new.self.input
    _ _ _ c.new-bytes.result.items c.hand.new.text.items (c.status_of.ensures ∙ ap status_of c.from.ensures) refl (ap (λ s. s.input) c.up_to-lines.ensures) c.new-bytes.ensures.items
    (λ other. e.hands (λ is. other cc)) (λ is. e.past (ap (λ f. Err f) is)) e.within e.limit

pub returns-in-Ok-clause-repacked : goal.returns-in-Ok-clause-repacked
returns-in-Ok-clause-repacked g c =
    let e = c.in-Ok.ensures in
    let new = ap (λ s. s.input) c.up_to-lines.ensures in
    let h = e.hands (λ is. cc) in
    let over =
    is_over c.in-Ok.field-0 c.up_to-lines.result.input c.hand.new.self.input _ _ c.new-bytes.result.items c.hand.new.text.items new c.new-bytes.ensures.items h
    (λ is. e.whole (ap (λ b. Ok b) is)) (λ is. (e.end (ap (λ b. Ok b) is)).1) e.within e.limit in
    over_row MOST_SERVED (RepackComes c.repack_bytes.new.store) (comes_whole c.repack_bytes.new.store) c.repack_bytes.result (resumed_in c.args.store.now c.repack_bytes.new.store)
    c.up_to-lines.result.input c.hand.new.self.input _ _ _ _ c.new-bytes.result.items c.hand.new.text.items new c.new-bytes.ensures.items h over (e.open.seen over.1) e.within e.limit
    (rw c.as_slice.ensures.value at c.repack_bytes.ensures.repacked)
