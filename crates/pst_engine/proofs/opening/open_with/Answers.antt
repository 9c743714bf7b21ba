use Rattle.std.proofs.Common.{◌+◌, [], ◌∷◌, subst}
use Rattle.pst_history.specs.History.{call_of, opened}
use Rattle.pst_engine_runs.specs.Stands.{StandsFor}
use Rattle.pst_engine_runs.specs.Runs.{machine_runs}
use Rattle.pst_engine.proofs.Begin.{opened-called-as, opened-may-call-as, may-open-empty}
use Rattle.pst_engine.proofs.opening.open_with.Goals as goal

pub open-requires : goal.open-requires
open-requires g c = record {
  history = c.requires.history;
  stands = c.requires.stands;
  may =
      may-open-empty (g.C.Meant.meant c.args.code.now).meaning c.requires.history c.args.first.now.version (call_of c.args.first.now ∷ []) c.requires.may;
}

pub call-requires-clause-stands : goal.call-requires-clause-stands
call-requires-clause-stands g c =
    let m = (g.C.Meant.meant c.args.code.now).meaning in
    let h = c.requires.history in
    let stand = c.requires.stands in
    let first = c.args.first.now in
    let stands = c.in_ok-at.ensures.ok h stand (may-open-empty m h first.version (call_of first ∷ []) c.requires.may) in
    record {
      budget = c.args.budget;
      next = c.args.next_run.0 + 1;
      history = opened h first.version [];
      stands = stands;
      may =
          opened-may-call-as m h first.version (call_of first) c.args.next_run.0 stand.same_next c.requires.may;
    }

pub returns-clause-ok : goal.returns-clause-ok
returns-clause-ok g c = λ h stand may.
    let m = (g.C.Meant.meant c.args.code.now).meaning in
    let x = machine_runs {H = g.row.H.Denot} {P = g.row.H-Place.Denot} {R = g.row.H-Ref.Denot} (g.C.Meant.meant c.args.code.now).parts in
    let first = c.args.first.now in
    let t = g.H.HeapAt.state c.call.new.heap in
    let stands = c.in_ok-at.ensures.ok h stand (may-open-empty m h first.version (call_of first ∷ []) may) in
    let called = c.in_ok-call.ensures.ok c.args.budget (c.args.next_run.0 + 1) (opened h first.version []) stands
    (opened-may-call-as m h first.version (call_of first) c.args.next_run.0 stand.same_next may) in
    subst (λ y. StandsFor m x c.call.new.active.items c.args.budget (c.args.next_run.0 + 1) t y) (opened-called-as h first.version (call_of first) c.args.next_run.0 stand.same_next) called.stands
