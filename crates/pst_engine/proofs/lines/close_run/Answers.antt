use Rattle.pst_history.proofs.Accepting.{close-open}
use Rattle.pst_engine_runs.specs.Runs.{machine_runs}
use Rattle.pst_engine_runs.proofs.Entries.{open-found-if}
use Rattle.pst_engine_runs.proofs.Slicing.{if-ok-map}
use Rattle.pst_engine.proofs.lines.close_run.Goals as goal

pub index_of-at-requires : goal.index_of-at-requires
index_of-at-requires g c =
    let may = c.requires in
    open-found-if (g.C.Meant.meant c.args.code.now).meaning (machine_runs (g.C.Meant.meant c.args.code.now).parts) (g.H.HeapAt.state c.args.heap.now)
    c.args.engine.now.active.items.items c.args.engine.now.budget c.args.engine.now.next_run.0 may.history may.stands c.args.run
    (close-open (g.C.Meant.meant c.args.code.now).meaning may.history c.args.run may.accepted)

pub close-requires-clause-stands : goal.close-requires-clause-stands
close-requires-clause-stands g c = record { budget = c.args.engine.now.budget; next = c.args.engine.now.next_run.0; history = c.requires.history; stands = c.requires.stands }

pub returns-clause-ok : goal.returns-clause-ok
returns-clause-ok g c = if-ok-map c.close.result c.close.ensures.ok
    (λ r all h stand none. let is = all c.args.engine.now.budget c.args.engine.now.next_run.0 h stand in
    record { stands = λ range. is.stands; reply = is.reply })
