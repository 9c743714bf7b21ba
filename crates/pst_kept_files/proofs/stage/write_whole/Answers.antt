use Rattle.std.proofs.Common.{◌∙◌, inl, inr, arith}
use Rattle.pst_kept_files.specs.Standing.{body_of}
use Rattle.pst_kept_files.proofs.StageLemmas.{not_one, shut_leaves, raise_leaves, raised, spare_is}
use Rattle.pst_kept_files.proofs.stage.write_whole.Goals as goal

pub returns-in_err-write_synced-clause-any_return : goal.returns-in_err-write_synced-clause-any_return
returns-in_err-write_synced-clause-any_return g c left may =
    shut_leaves (body_of c.args.head.now c.args.image.now) (g.D.Disk.seen c.args.disk.now) left (c.write_synced.ensures.any_return left may)

pub replace-requires-clause-gate : goal.replace-requires-clause-gate
replace-requires-clause-gate g c = c.in_ok-write_synced.ensures.written.holds.each 0 (omega arith)

pub replace-requires-clause-some : goal.replace-requires-clause-some
replace-requires-clause-some g c = omega (arith, c.in_ok-write_synced.ensures.written.holds.within)

pub returns-in_err-replace-clause-any_return : goal.returns-in_err-replace-clause-any_return
returns-in_err-replace-clause-any_return g c left may = inr (inl (not_one _ (c.replace.ensures.any_return left may)))

pub returns-in_err-write_synced-2-clause-any_return : goal.returns-in_err-write_synced-2-clause-any_return
returns-in_err-write_synced-2-clause-any_return g c left may =
    let body = body_of c.args.head.now c.args.image.now in
    let mid = spare_is c.args.head.now c.args.image.now c.deref.result.now (c.deref.ensures.value ∙ c.in_ok-room.ensures.zeros) in
    raise_leaves (g.D.Disk.seen c.args.disk.now) body (g.D.Disk.seen c.replace.new.disk) left (c.in_ok-replace.ensures.written ∙ mid) (c.write_synced-2.ensures.any_return left may)

pub returns-clause-any_return : goal.returns-clause-any_return
returns-clause-any_return g c left may =
    let body = body_of c.args.head.now c.args.image.now in
    let mid = spare_is c.args.head.now c.args.image.now c.deref.result.now (c.deref.ensures.value ∙ c.in_ok-room.ensures.zeros) in
    raise_leaves (g.D.Disk.seen c.args.disk.now) body (g.D.Disk.seen c.replace.new.disk) left (c.in_ok-replace.ensures.written ∙ mid) (c.write_synced-2.ensures.any_return left may)

pub returns-clause-written : goal.returns-clause-written
returns-clause-written g c =
    let w = c.in_ok-write_synced-2.ensures.written in
    let mid = spare_is c.args.head.now c.args.image.now c.deref.result.now (c.deref.ensures.value ∙ c.in_ok-room.ensures.zeros) in
    raised (body_of c.args.head.now c.args.image.now) (g.D.Disk.seen c.replace.new.disk) (g.D.Disk.seen c.write_synced-2.new.disk) (c.in_ok-replace.ensures.written ∙ mid) w.torn w.holds
