use Rattle.std.proofs.Common.{ap, Err, refl}
use Rattle.pst_io.specs.declared.room.TheConstants.{MOST_INPUT}
use Rattle.pst_cli_images.specs.Resuming.{Resumes, resumed_in}
use Rattle.pst_cli_images.proofs.Rows.{resumes_whole, unread, read_whole}
use Rattle.pst_cli_images.proofs.resuming.resume_input.Goals as goal

pub returns-in-Err-clause-resumed : goal.returns-in-Err-clause-resumed
returns-in-Err-clause-resumed g c =
    let r = c.in-Err.ensures in
    let (given, stopped) = r.stopped in
    unread Resumes (resumed_in c.args.store.now c.args.store.now) c.in-Err.stop c.status_of.result c.new-lines.result.input c.read_all.new.lines.input
    _ _ _ given refl c.status_of.ensures (ap (λ s. s.input) c.new-lines.ensures)
    (λ e. r.not_write (ap (λ s. Err s) e)) stopped r.within

pub returns-clause-resumed : goal.returns-clause-resumed
returns-clause-resumed g c =
    let r = c.in-Ok.ensures in
    read_whole Resumes resumes_whole MOST_INPUT (resumed_in c.args.store.now c.resume_bytes.new.store) c.resume_bytes.result c.new-lines.result.input
    c.read_all.new.lines.input _ _ _ _ c.in-Ok.bytes.items (ap (λ s. s.input) c.new-lines.ensures) r.whole r.few
    (rw c.as_slice.ensures.value at c.resume_bytes.ensures.resumed)
