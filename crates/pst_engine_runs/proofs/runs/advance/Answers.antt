use Rattle.std.proofs.Common.{ap, refl, subst}
use Rattle.pst_code.specs.declared.procedure.Parts.{Parts}
use Rattle.pst_machine.specs.Advance.{Advanced, IsReady, trap_of}
use Rattle.pst_engine_runs.proofs.Standing.{any_advanced}
use Rattle.pst_engine_runs.proofs.runs.advance.Goals as goal

pub returns-clause-ok : goal.returns-clause-ok
returns-clause-ok g c = λ w k y counts waits.
    let parts = (g.C.Meant.meant c.args.code.now).parts in
    let m = (g.C.Meant.meant c.args.code.now).meaning in
    let s = g.H.HeapAt.state c.args.heap.now in
    let t = g.H.HeapAt.state c.advance.new.heap in
    let a = c.args.activation.now in
    let b = c.advance.new.self in
    let ok = subst (λ (x : Parts). Advanced x s a.stage c.args.charges c.in_ok-progress.progress t b.stage) c.code-code.ensures.code c.in_ok-progress.ensures.ok in
    let ready = subst (λ (x : Parts). IsReady x t b.stage) c.code-code.ensures.code c.in_ok-progress.ensures.ready.0 in
    any_advanced parts m c.code-code.ensures.means c.code-code.ensures.lawful w y waits.ready (λ x. x.stage) s a k counts waits.waits
    waits.granted_within t b c.args.charges c.in_ok-progress.progress c.ended_of.result (trap_of a.stage.ended) refl ok
    (ready, c.in_ok-progress.ensures.ready.1)
    (λ some. ap g.H.HeapAt.state (c.advance.ensures.over waits.waits.works some).1) c.ended_of.ensures
