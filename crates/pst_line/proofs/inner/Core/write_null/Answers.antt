use Rattle.pst_line_nodes.proofs.Results.{on_err}
use Rattle.pst_line.proofs.Ends.{at_stamp_pointer, pointer_slot, line_end, newest_end, unchanged_end, null_end, null_ends}
use Rattle.pst_line.proofs.inner.Core.write_null.Goals as goal

pub enter-requires-clause-field : goal.enter-requires-clause-field
enter-requires-clause-field g c = at_stamp_pointer c.args.self.now c.args.at c.requires.writable c.args.r c.args.field.0 c.requires.field

pub set_null-requires-clause-field : goal.set_null-requires-clause-field
set_null-requires-clause-field g c =
    pointer_slot _ _ c.args.self.now c.self.view_is c.whole.ensures c.args.at c.requires.writable c.args.r c.args.field.0 c.requires.live c.requires.room c.in_ok-x.x.0 c.in_ok-x.ensures.ok _ c.stamp-stamp.ensures c.requires.field

pub returns-in_err-set_null-clause-err : goal.returns-in_err-set_null-clause-err
returns-in_err-set_null-clause-err g c = on_err _ _
    (unchanged_end _ _ c.args.self.now c.self.view_is c.whole.ensures c.args.at c.requires.writable c.args.r c.args.field.0 c.requires.live c.requires.room c.in_ok-x.x.0 c.in_ok-x.ensures.ok _ c.stamp-stamp.ensures _ c.in_err-set_null.ensures.err)

pub invariant_of-self-2 : goal.invariant_of-self-2
invariant_of-self-2 g c =
    null_end _ _ c.args.self.now c.self.view_is c.whole.ensures c.args.at c.requires.writable c.args.r c.args.field.0 c.requires.live c.requires.room c.in_ok-x.x.0 c.in_ok-x.ensures.ok _ c.stamp-stamp.ensures _ c.in_ok-set_null.ensures.kept c.requires.field c.in_ok-set_null.ensures.ok

pub returns-clause-ok : goal.returns-clause-ok
returns-clause-ok g c =
    null_ends _ _ c.args.self.now c.self.view_is c.whole.ensures c.args.at c.requires.writable c.args.r c.args.field.0 c.requires.live c.requires.room c.in_ok-x.x.0 c.in_ok-x.ensures.ok _ c.stamp-stamp.ensures _ c.in_ok-set_null.ensures.kept c.requires.field c.in_ok-set_null.ensures.ok

pub set_null-requires-clause-line : goal.set_null-requires-clause-line
set_null-requires-clause-line g c = line_end _ _ c.args.self.now c.self.view_is c.whole.ensures c.args.at c.requires.writable c.args.r c.args.field.0 c.requires.live c.requires.room c.in_ok-x.x.0 c.in_ok-x.ensures.ok _ c.stamp-stamp.ensures

pub set_null-requires-clause-newest : goal.set_null-requires-clause-newest
set_null-requires-clause-newest g c = newest_end _ _ c.args.self.now c.self.view_is c.whole.ensures c.args.at c.requires.writable c.args.r c.args.field.0 c.requires.live c.requires.room c.in_ok-x.x.0 c.in_ok-x.ensures.ok _ c.stamp-stamp.ensures
