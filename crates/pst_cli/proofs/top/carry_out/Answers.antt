use Rattle.std.proofs.Common.{◌≡◌, ◌≤◌, ap, Err, refl, arith}
use Rattle.pst_io.specs.declared.room.TheConstants.{MOST_INPUT}
use Rattle.pst_io.specs.Input.{bytes_read}
use Rattle.pst_cli_words.specs.declared.job.Job.TheVariants.{Run, Replay, Line}
use Rattle.pst_front.specs.declared.page.Page.TheVariants.{Canonical, Listing}
use Rattle.pst_cli_scripts.specs.Kept.{still, together}
use Rattle.pst_cli_serving.specs.Held.{kept_in}
use Rattle.pst_cli.specs.Held.{lined_in}
use Rattle.pst_cli.proofs.Stores.{untouched, then_still, still_then}
use Rattle.pst_cli_serving.proofs.RowLemmas.{text_stopped, text_served, text_printed}
use Rattle.pst_cli_serving.proofs.Serving.{served_as, all_still}
use Rattle.pst_cli.proofs.top.carry_out.Goals as goal

pub returns-in-Err-clause-table : goal.returns-in-Err-clause-table
returns-in-Err-clause-table g c =
    let r = c.in-Err.ensures in
    let (given, stopped, none) = r.stopped in
    let state = g.L.HeapAt.state in
    let stored = g.L.LineCalls.stored in
    let store = c.args.store.now in
    let line = c.args.line.now in
    text_stopped (together (kept_in store store c.args.job) (lined_in state stored line line c.args.job)) c.args.job c.in-Err.stop c.status_of.result
    c.new-lines.result.input c.read_text.new.lines.input _ _ _ given
    (untouched state stored store line c.args.job) c.status_of.ensures (ap (λ s. s.input) c.new-lines.ensures) (λ e. r.not_write (ap (λ s. Err s) e)) stopped none r.within

pub returns-in-Check-clause-table : goal.returns-in-Check-clause-table
returns-in-Check-clause-table g c =
    let r = c.in-Ok.ensures in
    rw c.in-Check.is (text_printed c.print.result _ (refl, refl) Canonical c.new-lines.result.input c.read_text.new.lines.input _ _ _ _
    c.in-Ok.text.items (ap (λ s. s.input) c.new-lines.ensures) r.text r.open.seen r.within c.print.ensures.printed)

pub returns-in-Code-clause-table : goal.returns-in-Code-clause-table
returns-in-Code-clause-table g c =
    let r = c.in-Ok.ensures in
    rw c.in-Code.is (text_printed c.print-in-Code.result _ (refl, refl) Listing c.new-lines.result.input c.read_text.new.lines.input _ _ _ _
    c.in-Ok.text.items (ap (λ s. s.input) c.new-lines.ensures) r.text r.open.seen r.within
    c.print-in-Code.ensures.printed)

pub returns-in-Run-clause-table : goal.returns-in-Run-clause-table
returns-in-Run-clause-table g c =
    let r = c.in-Ok.ensures in
    let most : bytes_read c.serve.new.lines.input ≤ MOST_INPUT = omega (arith, c.serve.ensures.within, c.serve.ensures.limit, r.limit) in
    let line = c.args.line.now in
    let k = kept_in c.args.store.now c.serve.new.held Run in
    rw c.in-Run.is (text_served (together k (still (line ≡ line))) Run tt c.serve.result c.new-lines.result.input c.read_text.new.lines.input
    c.serve.new.lines.input _ _ _ _ _ c.in-Ok.text.items (ap (λ s. s.input) c.new-lines.ensures) r.text
    r.open.seen r.within most (served_as c.serve.result _ k _ (then_still (line ≡ line) refl k) _ _ _ _ _ _ _ c.serve.ensures.served))

pub returns-in-Replay-clause-table : goal.returns-in-Replay-clause-table
returns-in-Replay-clause-table g c =
    let r = c.in-Ok.ensures in
    let most : bytes_read c.serve-in-Replay.new.lines.input ≤ MOST_INPUT = omega (arith, c.serve-in-Replay.ensures.within, c.serve-in-Replay.ensures.limit, r.limit) in
    let store = c.args.store.now in
    let line = c.args.line.now in
    let k = still ((store ≡ store) × (line ≡ line)) in
    rw c.in-Replay.is (text_served k Replay tt c.serve-in-Replay.result c.new-lines.result.input c.read_text.new.lines.input
    c.serve-in-Replay.new.lines.input _ _ _ _ _ c.in-Ok.text.items (ap (λ s. s.input) c.new-lines.ensures) r.text r.open.seen
    r.within most (served_as c.serve-in-Replay.result _ _ k (all_still _ (refl, refl) _) _ _ _ _ _ _ _ c.serve-in-Replay.ensures.served))

pub returns-in-Line-clause-table : goal.returns-in-Line-clause-table
returns-in-Line-clause-table g c =
    let r = c.in-Ok.ensures in
    let most : bytes_read c.serve-in-Line.new.lines.input ≤ MOST_INPUT = omega (arith, c.serve-in-Line.ensures.within, c.serve-in-Line.ensures.limit, r.limit) in
    let store = c.args.store.now in
    let k = lined_in g.L.HeapAt.state g.L.LineCalls.stored c.args.line.now c.serve-in-Line.new.held Line in
    rw c.in-Line.is (text_served (together (still (store ≡ store)) k) Line tt c.serve-in-Line.result c.new-lines.result.input
    c.read_text.new.lines.input c.serve-in-Line.new.lines.input _ _ _ _ _ c.in-Ok.text.items
    (ap (λ s. s.input) c.new-lines.ensures) r.text r.open.seen r.within most (served_as c.serve-in-Line.result _ k _ (still_then (store ≡ store) refl k) _ _ _ _ _ _ _ c.serve-in-Line.ensures.served))
