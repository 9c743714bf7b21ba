use Rattle.std.proofs.Common.{ℕ, [], sym, subst, arith}
use Rattle.pst_history.specs.History.{Opening, begun, opening}
use Rattle.pst_engine_runs.specs.Stands.{StandsFor}
use Rattle.pst_engine_runs.specs.Runs.{machine_runs}
use Rattle.pst_engine.specs.Stands.{opening_of}
use Rattle.pst_engine.proofs.Fresh.{begins, started-opens, started-opening}
use Rattle.pst_engine.proofs.laws.a_new_engine_stands.Goals as goal
use Rattle.pst_history.specs.declared.history.TheConstants.{BUDGET}

pub returns : goal.returns
returns g c =
    let m = (g.C.Meant.meant c.args.code.now).meaning in
    let x = machine_runs {H = g.row.H.Denot} {P = g.row.H-Place.Denot} {R = g.row.H-Ref.Denot} (g.C.Meant.meant c.args.code.now).parts in
    let s = g.H.HeapAt.state c.args.heap.now in
    let engine = c.args.engine.now in
    let one : StandsFor m x [] BUDGET 1 s (begun (opening_of s 1 BUDGET)) =
    begins m c.known-2.ensures.lawful s c.known.ensures c.known_versions.ensures 1 BUDGET
    (started-opens m c.known-2.ensures.lawful s c.requires.heap) (omega arith) (omega arith) (omega arith) (omega arith) x in
    let two : StandsFor m x [] BUDGET 1 s (begun (opening m.shape)) = let Q : Opening → Type 0 = λ o. StandsFor m x [] BUDGET 1 s (begun o) in subst Q (started-opening m s c.requires.heap) one in
    let three : StandsFor m x [] BUDGET engine.next_run.0 s (begun (opening m.shape)) = subst (λ (n : ℕ). StandsFor m x [] BUDGET n s (begun (opening m.shape))) (sym c.requires.new.1) two in
    let four : StandsFor m x [] engine.budget engine.next_run.0 s (begun (opening m.shape)) =
    subst (λ (b : ℕ). StandsFor m x [] b engine.next_run.0 s (begun (opening m.shape))) (sym c.requires.new.2) three in
    subst (λ items. StandsFor m x items engine.budget engine.next_run.0 s (begun (opening m.shape))) (sym c.requires.new.0) four
