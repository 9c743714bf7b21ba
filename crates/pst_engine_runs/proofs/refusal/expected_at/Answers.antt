use Rattle.std.proofs.Common.{◌-◌, slice_index_or, sym}
use Rattle.pst_engine_runs.proofs.Entries.{looked-at}
use Rattle.pst_engine_runs.proofs.Slicing.{entry-at}
use Rattle.pst_engine_runs.proofs.refusal.expected_at.Goals as goal

pub returns-then-is_run-clause-run : goal.returns-then-is_run-clause-run
returns-then-is_run-clause-run g c =
    let active = c.args.active.now in
    let e = c.index-active-at.result in
    let at = c.args.run.0 - (slice_index_or active 0 c.index-active-0-2.result).run.0 in
    let found = entry-at active at e c.if-at-active.true c.index-active-at.is in
    looked-at active c.args.run at e found (sym c.if-is_run.ensures)
