use Rattle.std.proofs.Common.{inl, inr, None, sym, subst}
use Rattle.pst_base.specs.Heap.{IsPointer}
use Rattle.pst_store_meaning.proofs.Around.{unchanged_after}
use Rattle.pst_store.proofs.Around.{kind_kept, room_kept, target_around, writes_around}
use Rattle.pst_store.proofs.Stores.{on_err, on_ok_both}
use Rattle.pst_store.proofs.Stamping.{only_split}
use Rattle.pst_store.proofs.started.Started.write_null.Goals as goal

pub stamp_null-requires-clause-writable : goal.stamp_null-requires-clause-writable
stamp_null-requires-clause-writable g c = c.repair.ensures.stays.kept c.args.at c.requires.writable

pub stamp_null-requires-clause-live : goal.stamp_null-requires-clause-live
stamp_null-requires-clause-live g c = c.repair.ensures.same.keeps.grows.live c.args.at c.args.r c.requires.live

pub stamp_null-requires-clause-field : goal.stamp_null-requires-clause-field
stamp_null-requires-clause-field g c = subst IsPointer (sym (kind_kept c.args.self.now c.repair.new.self c.args.at c.args.r c.args.field.0 c.repair.ensures.same c.requires.live)) c.requires.field

pub stamp_null-requires-clause-room : goal.stamp_null-requires-clause-room
stamp_null-requires-clause-room g c = room_kept c.args.self.now c.repair.new.self c.repair.ensures.same c.requires.room

pub returns-in_err-repair-clause-err : goal.returns-in_err-repair-clause-err
returns-in_err-repair-clause-err g c = on_err _ _ (inl c.repair.ensures.same)

pub returns-in_err-stamp_null-clause-err : goal.returns-in_err-stamp_null-clause-err
returns-in_err-stamp_null-clause-err g c = on_err _ _ (inl (unchanged_after _ _ _ c.repair.ensures.same c.in_err-stamp_null.ensures.err))

pub returns-clause-ok : goal.returns-clause-ok
returns-clause-ok g c =
    on_ok_both _ _ _
    (target_around c.args.self.now c.repair.new.self c.stamp_null.new.self c.repair-2.new.self c.args.at c.args.r c.args.field.0 None c.requires.live
    c.repair.ensures.same c.in_ok-stamp_null.ensures.ok.0 c.repair-2.ensures.same)
    (writes_around c.args.self.now c.repair.new.self c.stamp_null.new.self c.repair-2.new.self c.repair.ensures.stays c.in_ok-stamp_null.ensures.ok.1 c.repair-2.ensures.stays)

pub returns-clause-err : goal.returns-clause-err
returns-clause-err g c =
    on_err _ _ (inr (target_around c.args.self.now c.repair.new.self c.stamp_null.new.self c.repair-2.new.self c.args.at c.args.r c.args.field.0 None
    c.requires.live c.repair.ensures.same c.in_ok-stamp_null.ensures.ok.0 c.repair-2.ensures.same))

pub returns-in_err-repair-clause-stamps : goal.returns-in_err-repair-clause-stamps
returns-in_err-repair-clause-stamps g c = only_split 6 c.args.self.now c.repair.new.self c.repair.ensures.splits
