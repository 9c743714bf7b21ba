use Rattle.std.proofs.lemmas.Int.{to_z-of_z}
use Rattle.pst_base.specs.declared.names.Kind.TheVariants.{Int}
use Rattle.pst_line_nodes.proofs.Results.{on_err}
use Rattle.pst_line.proofs.Ends.{at_stamp, number_slot, unchanged_end, number_end, number_ends}
use Rattle.pst_line.proofs.inner.Core.write_number.Goals as goal

pub enter-requires-clause-field : goal.enter-requires-clause-field
enter-requires-clause-field g c = (Int, at_stamp c.args.self.now c.args.at c.requires.writable c.args.r c.args.field.0 Int c.requires.field)

pub set-requires-clause-slot : goal.set-requires-clause-slot
set-requires-clause-slot g c =
    number_slot _ _ c.args.self.now c.self.view_is c.whole.ensures c.args.at c.requires.writable c.args.r c.args.field.0 c.requires.live c.requires.room c.in_ok-x.x.0 c.in_ok-x.ensures.ok _ c.stamp-stamp.ensures c.requires.field

pub returns-in_err-set-clause-err : goal.returns-in_err-set-clause-err
returns-in_err-set-clause-err g c = on_err _ _
    (unchanged_end _ _ c.args.self.now c.self.view_is c.whole.ensures c.args.at c.requires.writable c.args.r c.args.field.0 c.requires.live c.requires.room c.in_ok-x.x.0 c.in_ok-x.ensures.ok _ c.stamp-stamp.ensures _ c.in_err-set.ensures.err)

pub invariant_of-self-2 : goal.invariant_of-self-2
invariant_of-self-2 g c =
    let fits = c.ranges.n in
    number_end _ _ c.args.self.now c.self.view_is c.whole.ensures c.args.at c.requires.writable c.args.r c.args.field.0 c.requires.live c.requires.room c.in_ok-x.x.0 c.in_ok-x.ensures.ok _ c.stamp-stamp.ensures _ c.in_ok-set.ensures.kept c.args.n c.requires.field (simp to_z-of_z at c.in_ok-set.ensures.ok)

pub returns-clause-ok : goal.returns-clause-ok
returns-clause-ok g c =
    let fits = c.ranges.n in
    number_ends _ _ c.args.self.now c.self.view_is c.whole.ensures c.args.at c.requires.writable c.args.r c.args.field.0 c.requires.live c.requires.room c.in_ok-x.x.0 c.in_ok-x.ensures.ok _ c.stamp-stamp.ensures _ c.in_ok-set.ensures.kept c.args.n c.requires.field (simp to_z-of_z at c.in_ok-set.ensures.ok)
