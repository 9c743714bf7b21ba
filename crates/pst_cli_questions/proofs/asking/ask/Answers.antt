use Rattle.std.proofs.Common.{◌≤◌, ap, Err, refl, arith}
use Rattle.pst_io.specs.declared.room.TheConstants.{MOST_INPUT}
use Rattle.pst_io.specs.Input.{bytes_read}
use Rattle.pst_cli_words.specs.declared.job.Job.TheVariants.{Run}
use Rattle.pst_cli_serving.specs.Held.{kept_in}
use Rattle.pst_cli_questions.specs.Asking.{AnsweredWhole, AnsweredInPart}
use Rattle.pst_cli_questions.proofs.AskRows.{text_unread, text_asked}
use Rattle.pst_cli_questions.proofs.asking.ask.Goals as goal

pub returns-in-Err-clause-asked : goal.returns-in-Err-clause-asked
returns-in-Err-clause-asked g c =
    let r = c.in-Err.ensures in
    let (given, stopped, none) = r.stopped in
    let k = kept_in c.args.store.now c.args.store.now Run in
    text_unread k (AnsweredWhole k c.args.question c.args.path.now) (AnsweredInPart k c.args.question c.args.path.now) c.in-Err.stop
    c.status_of.result c.new-lines.result.input c.read_text.new.lines.input _ _ _ _ given refl c.status_of.ensures
    (ap (λ s. s.input) c.new-lines.ensures) refl (λ e. r.not_write (ap (λ s. Err s) e)) stopped none r.within

pub returns-clause-asked : goal.returns-clause-asked
returns-clause-asked g c =
    let r = c.in-Ok.ensures in
    let most : bytes_read c.inquire.new.lines.input ≤ MOST_INPUT = omega (arith, c.inquire.ensures.within, c.inquire.ensures.limit, r.limit) in
    let k = kept_in c.args.store.now c.inquire.new.store Run in
    text_asked k (AnsweredWhole k c.args.question c.args.path.now) (AnsweredInPart k c.args.question c.args.path.now) c.inquire.result
    c.new-lines.result.input c.read_text.new.lines.input c.inquire.new.lines.input _ _ _ _ _ c.in-Ok.text.items
    (ap (λ s. s.input) c.new-lines.ensures) r.text r.open.seen r.within most c.inquire.ensures.asked
