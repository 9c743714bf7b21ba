use Rattle.std.proofs.Common.{◌≤◌, ap, Err, refl, arith}
use Rattle.pst_io.specs.declared.room.TheConstants.{MOST_INPUT}
use Rattle.pst_io.specs.Input.{bytes_read}
use Rattle.pst_cli_words.specs.declared.job.Job.TheVariants.{Run}
use Rattle.pst_cli_serving.specs.Held.{kept_in}
use Rattle.pst_cli_questions.proofs.AskRows.{text_unread, text_asked}
use Rattle.pst_cli_images.specs.Packing.{PacksWhole, PacksInPart}
use Rattle.pst_cli_images.proofs.packing.pack_input.Goals as goal

pub returns-in-Err-clause-packed : goal.returns-in-Err-clause-packed
returns-in-Err-clause-packed g c =
    let r = c.in-Err.ensures in
    let (given, stopped, none) = r.stopped in
    let k = kept_in c.args.store.now c.args.store.now Run in
    text_unread k (PacksWhole k c.args.store.now) (PacksInPart k c.args.store.now) c.in-Err.stop c.status_of.result c.new-lines.result.input
    c.read_text.new.lines.input _ _ _ _ given refl c.status_of.ensures
    (ap (λ s. s.input) c.new-lines.ensures) refl (λ e. r.not_write (ap (λ s. Err s) e)) stopped none r.within

pub returns-clause-packed : goal.returns-clause-packed
returns-clause-packed g c =
    let r = c.in-Ok.ensures in
    let most : bytes_read c.pack_text.new.lines.input ≤ MOST_INPUT = omega (arith, c.pack_text.ensures.within, c.pack_text.ensures.limit, r.limit) in
    let k = kept_in c.args.store.now c.pack_text.new.store Run in
    text_asked k (PacksWhole k c.pack_text.new.store) (PacksInPart k c.pack_text.new.store) c.pack_text.result c.new-lines.result.input
    c.read_text.new.lines.input c.pack_text.new.lines.input _ _ _ _ _ c.in-Ok.text.items
    (ap (λ s. s.input) c.new-lines.ensures) r.text r.open.seen r.within most c.pack_text.ensures.packed
