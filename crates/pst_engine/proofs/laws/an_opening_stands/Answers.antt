use Rattle.std.proofs.Common.{sym, subst}
use Rattle.pst_history.specs.History.{begun}
use Rattle.pst_engine_runs.specs.Stands.{StandsFor}
use Rattle.pst_engine_runs.specs.Runs.{machine_runs}
use Rattle.pst_engine.specs.Stands.{opening_of}
use Rattle.pst_engine.proofs.Fresh.{begins}
use Rattle.pst_engine.proofs.laws.an_opening_stands.Goals as goal

pub returns : goal.returns
returns g c =
    let m = (g.C.Meant.meant c.args.code.now).meaning in
    let x = machine_runs {H = g.row.H.Denot} {P = g.row.H-Place.Denot} {R = g.row.H-Ref.Denot} (g.C.Meant.meant c.args.code.now).parts in
    let s = g.H.HeapAt.state c.args.heap.now in
    let engine = c.args.engine.now in
    subst (λ items. StandsFor m x items engine.budget engine.next_run.0 s (begun (opening_of s engine.next_run.0 engine.budget))) (sym c.requires.idle)
    (begins m c.known-2.ensures.lawful s c.known.ensures c.known_versions.ensures engine.next_run.0 engine.budget c.requires.heap
    c.requires.next_run.0 c.requires.next_run.1 c.requires.budget.0 c.requires.budget.1 x)
