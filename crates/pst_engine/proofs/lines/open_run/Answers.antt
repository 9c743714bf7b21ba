use Rattle.std.proofs.Common.{◌+◌, ◌<◌, ◌^◌, arith}
use Rattle.pst_history.proofs.After.{open-opens}
use Rattle.pst_engine_runs.specs.Runs.{machine_runs}
use Rattle.pst_engine.proofs.Commands.{opened-reply}
use Rattle.pst_engine.proofs.lines.open_run.Goals as goal

pub open_with-requires : goal.open_with-requires
open_with-requires g c = record {
  history = c.requires.history;
  stands = c.requires.stands;
  may =
      open-opens (g.C.Meant.meant c.args.code.now).meaning c.requires.history c.args.first.now c.requires.accepted;
}

pub overflow_add-engine : goal.overflow_add-engine
overflow_add-engine g c =
    let may = open-opens (g.C.Meant.meant c.args.code.now).meaning c.requires.history c.args.first.now c.requires.accepted in
    let room = may.room in
    let same = c.requires.stands.same_next in
    let fits : c.args.engine.now.next_run.0 + 1 < 2 ^ 32 = omega arith in
    search

pub returns-clause-ok : goal.returns-clause-ok
returns-clause-ok g c = λ h stand none.
    let m = (g.C.Meant.meant c.args.code.now).meaning in
    record {
      stands = λ range. c.in_ok-open_with.ensures.ok h stand (open-opens m h c.args.first.now none);
      reply =
          opened-reply m (machine_runs (g.C.Meant.meant c.args.code.now).parts) (g.H.HeapAt.state c.args.heap.now) c.args.engine.now.active.items.items
          c.args.engine.now.budget c.args.engine.now.next_run h stand;
    }
