use Rattle.std.proofs.Common.{◌+◌, ◌<◌, ◌^◌, [], ◌∷◌, arith}
use Rattle.pst_history.specs.History.{opened, call_of}
use Rattle.pst_history.proofs.After.{run-opens}
use Rattle.pst_engine_runs.specs.Runs.{machine_runs}
use Rattle.pst_engine.proofs.Commands.{run-answers}
use Rattle.pst_engine_runs.proofs.Slicing.{on-err, stay-trans}
use Rattle.pst_engine.proofs.lines.run.Goals as goal

pub open_with-requires : goal.open_with-requires
open_with-requires g c = record {
  history = c.requires.history;
  stands = c.requires.stands;
  may =
      run-opens (g.C.Meant.meant c.args.code.now).meaning c.requires.history c.args.first.now c.requires.accepted;
}

pub close-requires-clause-stands : goal.close-requires-clause-stands
close-requires-clause-stands g c =
    let h = c.requires.history in
    record {
      budget = c.args.engine.now.budget;
      next = c.args.engine.now.next_run.0 + 1;
      history =
          opened h c.args.first.now.version (call_of c.args.first.now ∷ []);
      stands =
          c.in_ok-at.ensures.ok h c.requires.stands (run-opens (g.C.Meant.meant c.args.code.now).meaning h c.args.first.now c.requires.accepted);
    }

pub overflow_add-engine : goal.overflow_add-engine
overflow_add-engine g c =
    let may = run-opens (g.C.Meant.meant c.args.code.now).meaning c.requires.history c.args.first.now c.requires.accepted in
    let room = may.room in
    let same = c.requires.stands.same_next in
    let fits : c.args.engine.now.next_run.0 + 1 < 2 ^ 32 = omega arith in
    search

pub returns-in_err-reply-clause-err : goal.returns-in_err-reply-clause-err
returns-in_err-reply-clause-err g c = on-err c.from_residual-in_err-reply.result
    (stay-trans (g.H.HeapAt.state c.args.heap.now) (g.H.HeapAt.state c.open_with.new.heap) (g.H.HeapAt.state c.close.new.heap) c.in_ok-at.ensures.stay
    c.in_err-reply.ensures.err)

pub returns-clause-ok : goal.returns-clause-ok
returns-clause-ok g c = λ h stand none.
    let m = (g.C.Meant.meant c.args.code.now).meaning in
    let first = c.args.first.now in
    let stands = c.in_ok-at.ensures.ok h stand (run-opens m h first none) in
    let both = c.in_ok-reply.ensures.ok c.args.engine.now.budget (c.args.engine.now.next_run.0 + 1) (opened h first.version (call_of first ∷ [])) stands in
    let all = run-answers m (machine_runs (g.C.Meant.meant c.args.code.now).parts) (g.H.HeapAt.state c.close.new.heap) _ c.args.engine.now.budget
    (c.args.engine.now.next_run.0 + 1) c.args.engine.now.next_run h first c.in_ok-reply.reply stand.sound stand.same_next (both.stands, both.reply) in
    record { stands = λ range. all.0; reply = all.1 }
