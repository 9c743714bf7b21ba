use Rattle.std.proofs.Common.{sym, subst, refl}
use Rattle.pst_history.specs.History.{with_run, dropped_run, run_at}
use Rattle.pst_history.proofs.Accepting.{drop-open}
use Rattle.pst_engine_runs.specs.Stands.{StandsFor}
use Rattle.pst_engine_runs.specs.Runs.{machine_runs}
use Rattle.pst_engine_runs.proofs.Entries.{open-found-if, entry-there}
use Rattle.pst_engine.proofs.Commands.{drop-keeps}
use Rattle.pst_engine.proofs.lines.drop_run.Goals as goal

pub index_of-at-requires : goal.index_of-at-requires
index_of-at-requires g c =
    let may = c.requires in
    open-found-if (g.C.Meant.meant c.args._code.now).meaning (machine_runs (g.C.Meant.meant c.args._code.now).parts)
    (g.H.HeapAt.state c.args._heap.now) c.args.engine.now.active.items.items c.args.engine.now.budget c.args.engine.now.next_run.0 may.history
    may.stands c.args.run (drop-open (g.C.Meant.meant c.args._code.now).meaning may.history c.args.run may.accepted)

pub returns-clause-carries : goal.returns-clause-carries
returns-clause-carries g c = λ h stand none.
    let m = (g.C.Meant.meant c.args._code.now).meaning in
    let x = machine_runs {H = g.row.H.Denot} {P = g.row.H-Place.Denot} {R = g.row.H-Ref.Denot} (g.C.Meant.meant c.args._code.now).parts in
    let s = g.H.HeapAt.state c.args._heap.now in
    let active = c.args.engine.now.active.items.items in
    let w = entry-there active c.index_of-at.result c.args.run c.index_of-at.ensures.at c.index_of-at.ensures.run in
    let all = drop-keeps m x s active c.args.engine.now.budget c.args.engine.now.next_run.0 h stand c.index_of-at.result c.args.run w.0 w.1 w.2 in
    record {
      stands = λ range. subst (λ items. StandsFor m x items c.args.engine.now.budget c.args.engine.now.next_run.0 s
          (with_run h c.args.run.0 dropped_run (run_at h c.args.run.0))) (sym c.remove.ensures.items) all;
      reply = refl;
    }
