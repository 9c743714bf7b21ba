use Rattle.std.proofs.Common.{arith}
use Rattle.pst_engine_runs.proofs.Slicing.{on-err}
use Rattle.pst_linerun.proofs.Holding.{many-rows}
use Rattle.pst_linerun.proofs.Running.{run-carried, run-may, settled-some, unchanged-after}
use Rattle.pst_linerun.proofs.lines.run.Goals as goal

pub carry_out-requires : goal.carry_out-requires
carry_out-requires g c =
    let m = (g.C.Meant.meant c.args.code.now).meaning in
    let s = g.S.HeapAt.state c.args.store.now in
    run-may m c.known.ensures.lawful c.args.budget c.args.number s (g.S.LineCalls.stored c.args.store.now) c.requires.history c.requires.stands
    c.known_line.ensures.means c.known_line.ensures.chain c.args.call.now c.requires.accepted (g.S.HeapAt.state c.begin-at.new.self)
    c.begin-at.result c.begin-at.ensures c.known-2.ensures

pub returns-in_err-reply-clause-err : goal.returns-in_err-reply-clause-err
returns-in_err-reply-clause-err g c =
    let m = (g.C.Meant.meant c.args.code.now).meaning in
    let s = g.S.HeapAt.state c.args.store.now in
    on-err c.from_residual-in_err-reply.result (unchanged-after m c.known.ensures.lawful c.args.budget c.args.number s
    (g.S.LineCalls.stored c.args.store.now) c.requires.history c.requires.stands c.known_line.ensures.means c.known_line.ensures.chain
    c.args.call.now c.requires.accepted
    (g.S.HeapAt.state c.begin-at.new.self) c.begin-at.result c.begin-at.ensures c.known-2.ensures (g.S.HeapAt.state c.carry_out.new.heap)
    c.carry_out.ensures.kept (g.S.HeapAt.state c.settle.new.store) c.in_err-reply.ensures.err)

pub returns-clause-ok : goal.returns-clause-ok
returns-clause-ok g c = λ h stand accepted.
    let m = (g.C.Meant.meant c.args.code.now).meaning in
    let law = c.known.ensures.lawful in
    let s = g.S.HeapAt.state c.args.store.now in
    let s1 = g.S.HeapAt.state c.begin-at.new.self in
    let t = g.S.HeapAt.state c.carry_out.new.heap in
    let u = g.S.HeapAt.state c.settle.new.store in
    let stored = g.S.LineCalls.stored c.args.store.now in
    let stored_t = g.S.LineCalls.stored c.carry_out.new.heap in
    let stored_u = g.S.LineCalls.stored c.settle.new.store in
    let means = c.known_line.ensures.means in
    let chain = c.known_line.ensures.chain in
    let some = settled-some m law c.args.budget c.args.number s stored h stand means chain c.args.call.now accepted s1 c.begin-at.result
    c.begin-at.ensures c.known-2.ensures t c.carry_out.ensures.kept c.in_ok-printed.ensures.writes stored_t c.known_line-2.ensures.means
    c.in_ok-printed.printed c.in_ok-printed.end c.in_ok-printed.ensures.ok c.in_ok-printed.end c.in_ok-reply.reply u c.in_ok-reply.ensures.ok in
    let many = many-rows u stored_u c.known_line-3.ensures.means in
    run-carried m law c.args.budget c.args.number s stored h stand means chain c.args.call.now accepted s1 c.begin-at.result c.begin-at.ensures
    c.known-2.ensures t c.carry_out.ensures.kept c.in_ok-printed.ensures.writes stored_t c.known_line-2.ensures.means
    c.in_ok-printed.printed c.in_ok-printed.end c.in_ok-printed.ensures.ok u stored_u c.in_ok-reply.ensures.closed
    (c.known_line-3.ensures.closed (omega arith) c.in_ok-reply.ensures.closed).0 c.in_ok-reply.reply c.in_ok-reply.ensures.ok
