use Rattle.pst_line_nodes.proofs.Results.{on_err}
use Rattle.pst_line.proofs.Ends.{at_stamp_pointer, pointer_slot, unchanged_end, newest_end}
use Rattle.pst_line.proofs.Linking.{last_z, some_slot, open_line, some_of, target_end, target_ends}
use Rattle.pst_line.proofs.inner.Core.connect.Goals as goal

pub enter-requires-clause-field : goal.enter-requires-clause-field
enter-requires-clause-field g c = at_stamp_pointer c.args.self.now c.args.at c.requires.may.writable c.args.r c.args.field.0 c.requires.may.fits.0

pub open_slot-requires : goal.open_slot-requires
open_slot-requires g c = record { newest = last_z _ _ c.args.self.now c.self.view_is c.whole.ensures c.args.at c.args.r c.args.field.0 c.args.q c.requires.may c.requires.roomy c.in_ok-x.x.0 c.in_ok-x.ensures.ok _ c.stamp-stamp.ensures c.cover-z.result.0 c.cover-z.ensures.covers c.cover-z.ensures.home }

pub unwrap-slot-requires : goal.unwrap-slot-requires
unwrap-slot-requires g c = some_slot _ _ c.args.self.now c.self.view_is c.whole.ensures c.args.at c.args.r c.args.field.0 c.args.q c.requires.may c.requires.roomy c.in_ok-x.x.0 c.in_ok-x.ensures.ok _ c.stamp-stamp.ensures c.cover-z.result.0 c.cover-z.ensures.covers c.cover-z.ensures.home _ c.open_slot.ensures.none

pub set_target-requires-clause-line : goal.set_target-requires-clause-line
set_target-requires-clause-line g c = open_line _ _ c.args.self.now c.self.view_is c.whole.ensures c.args.at c.args.r c.args.field.0 c.args.q c.requires.may c.requires.roomy c.in_ok-x.x.0 c.in_ok-x.ensures.ok _ c.stamp-stamp.ensures c.cover-z.result.0 c.cover-z.ensures.covers c.cover-z.ensures.home _ (some_of _ _ _ c.unwrap-slot.ensures c.open_slot.ensures.some)

pub set_target-requires-clause-newest : goal.set_target-requires-clause-newest
set_target-requires-clause-newest g c = newest_end _ _ c.args.self.now c.self.view_is c.whole.ensures c.args.at c.requires.may.writable c.args.r c.args.field.0 c.requires.may.live c.requires.may.room c.in_ok-x.x.0 c.in_ok-x.ensures.ok _ c.stamp-stamp.ensures

pub set_target-requires-clause-field : goal.set_target-requires-clause-field
set_target-requires-clause-field g c = pointer_slot _ _ c.args.self.now c.self.view_is c.whole.ensures c.args.at c.requires.may.writable c.args.r c.args.field.0 c.requires.may.live c.requires.may.room c.in_ok-x.x.0 c.in_ok-x.ensures.ok _ c.stamp-stamp.ensures c.requires.may.fits.0

pub set_target-requires-clause-target : goal.set_target-requires-clause-target
set_target-requires-clause-target g c = last_z _ _ c.args.self.now c.self.view_is c.whole.ensures c.args.at c.args.r c.args.field.0 c.args.q c.requires.may c.requires.roomy c.in_ok-x.x.0 c.in_ok-x.ensures.ok _ c.stamp-stamp.ensures c.cover-z.result.0 c.cover-z.ensures.covers c.cover-z.ensures.home

pub returns-in_err-set_target-clause-err : goal.returns-in_err-set_target-clause-err
returns-in_err-set_target-clause-err g c = on_err _ _ (unchanged_end _ _ c.args.self.now c.self.view_is c.whole.ensures c.args.at c.requires.may.writable c.args.r c.args.field.0 c.requires.may.live c.requires.may.room c.in_ok-x.x.0 c.in_ok-x.ensures.ok _ c.stamp-stamp.ensures _ c.in_err-set_target.ensures.err)

pub invariant_of-self-2 : goal.invariant_of-self-2
invariant_of-self-2 g c = target_end _ _ c.args.self.now c.self.view_is c.whole.ensures c.args.at c.args.r c.args.field.0 c.args.q c.requires.may c.requires.roomy c.in_ok-x.x.0 c.in_ok-x.ensures.ok _ c.stamp-stamp.ensures c.cover-z.result.0 c.cover-z.ensures.covers c.cover-z.ensures.home _ (some_of _ _ _ c.unwrap-slot.ensures c.open_slot.ensures.some) _ c.in_ok-set_target.ensures.kept c.in_ok-set_target.ensures.ok

pub returns-clause-ok : goal.returns-clause-ok
returns-clause-ok g c = target_ends _ _ c.args.self.now c.self.view_is c.whole.ensures c.args.at c.args.r c.args.field.0 c.args.q c.requires.may c.requires.roomy c.in_ok-x.x.0 c.in_ok-x.ensures.ok _ c.stamp-stamp.ensures c.cover-z.result.0 c.cover-z.ensures.covers c.cover-z.ensures.home _ (some_of _ _ _ c.unwrap-slot.ensures c.open_slot.ensures.some) _ c.in_ok-set_target.ensures.kept c.in_ok-set_target.ensures.ok
