use Rattle.std.proofs.Common.{◌≡◌, ap, sym, ◌∙◌}
use Rattle.std.specs.Prelude.{Some, position}
use Rattle.pst_engine_runs.specs.Refused.{is_run}
use Rattle.pst_engine_runs.proofs.Entries.{found-at, is-run-at}
use Rattle.pst_engine_runs.proofs.refusal.index_of.Goals as goal

pub returns-clause-at : goal.returns-clause-at
returns-clause-at g c =
    let is : position (is_run c.args.run) c.args.active.now.items.items ≡ Some c.unwrap.result =
    ap (position (is_run c.args.run)) (sym c.as_slice-entries.ensures.value) ∙ sym c.entry_at.ensures ∙ c.unwrap.ensures in
    (found-at c.args.active.now.items.items c.args.run c.unwrap.result is).within

pub returns-clause-run : goal.returns-clause-run
returns-clause-run g c =
    let is : position (is_run c.args.run) c.args.active.now.items.items ≡ Some c.unwrap.result =
    ap (position (is_run c.args.run)) (sym c.as_slice-entries.ensures.value) ∙ sym c.entry_at.ensures ∙ c.unwrap.ensures in
    is-run-at c.args.active.now.items.items c.args.run c.unwrap.result (found-at c.args.active.now.items.items c.args.run c.unwrap.result is)
