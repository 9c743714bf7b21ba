use Rattle.std.proofs.Common.{◌∙◌, inl, inr}
use Rattle.std.proofs.lemmas.Int.{to_z-of_z}
use Rattle.pst_store_meaning.proofs.Around.{unchanged_after}
use Rattle.pst_store.proofs.Around.{kind_kept, number_around, room_kept, writes_around}
use Rattle.pst_store.proofs.Stores.{on_err, on_ok_both}
use Rattle.pst_store.proofs.Stamping.{only_split}
use Rattle.pst_store.proofs.started.Started.write_number.Goals as goal

pub stamp_number-requires-clause-writable : goal.stamp_number-requires-clause-writable
stamp_number-requires-clause-writable g c = c.repair.ensures.stays.kept c.args.at c.requires.writable

pub stamp_number-requires-clause-live : goal.stamp_number-requires-clause-live
stamp_number-requires-clause-live g c = c.repair.ensures.same.keeps.grows.live c.args.at c.args.r c.requires.live

pub stamp_number-requires-clause-field : goal.stamp_number-requires-clause-field
stamp_number-requires-clause-field g c = kind_kept c.args.self.now c.repair.new.self c.args.at c.args.r c.args.field.0 c.repair.ensures.same c.requires.live ∙ c.requires.field

pub stamp_number-requires-clause-room : goal.stamp_number-requires-clause-room
stamp_number-requires-clause-room g c = room_kept c.args.self.now c.repair.new.self c.repair.ensures.same c.requires.room

pub returns-in_err-repair-clause-err : goal.returns-in_err-repair-clause-err
returns-in_err-repair-clause-err g c = on_err _ _ (inl c.repair.ensures.same)

pub returns-in_err-stamp_number-clause-err : goal.returns-in_err-stamp_number-clause-err
returns-in_err-stamp_number-clause-err g c = on_err _ _ (inl (unchanged_after _ _ _ c.repair.ensures.same c.in_err-stamp_number.ensures.err))

pub returns-clause-ok : goal.returns-clause-ok
returns-clause-ok g c =
    let fits = c.ranges.n in
    on_ok_both _ _ _
    (number_around c.args.self.now c.repair.new.self c.stamp_number.new.self c.repair-2.new.self c.args.at c.args.r c.args.field.0 c.args.n
    c.requires.live c.repair.ensures.same (simp to_z-of_z at c.in_ok-stamp_number.ensures.ok).0 c.repair-2.ensures.same)
    (writes_around c.args.self.now c.repair.new.self c.stamp_number.new.self c.repair-2.new.self c.repair.ensures.stays c.in_ok-stamp_number.ensures.ok.1 c.repair-2.ensures.stays)

pub returns-clause-err : goal.returns-clause-err
returns-clause-err g c =
    let fits = c.ranges.n in
    on_err _ _ (inr (number_around c.args.self.now c.repair.new.self c.stamp_number.new.self c.repair-2.new.self c.args.at c.args.r c.args.field.0
    c.args.n c.requires.live c.repair.ensures.same (simp to_z-of_z at c.in_ok-stamp_number.ensures.ok).0 c.repair-2.ensures.same))

pub returns-in_err-repair-clause-stamps : goal.returns-in_err-repair-clause-stamps
returns-in_err-repair-clause-stamps g c = only_split 2 c.args.self.now c.repair.new.self c.repair.ensures.splits
