use Rattle.std.proofs.Common.{[]}
use Rattle.pst_line_nodes.proofs.Results.{on_err}
use Rattle.pst_line.proofs.Entering.{some_line, newest_there, enter_failed, root_entered, linked_entered, found_kept, found_more, enter_unchanged, slot_entered, entered}
use Rattle.pst_line.proofs.inner.Core.enter.Goals as goal

pub make_room-requires-clause-line : goal.make_room-requires-clause-line
make_room-requires-clause-line g c = some_line _ _ c.self.view_is c.self.invariant _ c.stamp-stamp.ensures

pub make_room-requires-clause-newest : goal.make_room-requires-clause-newest
make_room-requires-clause-newest g c = newest_there _ _ c.self.view_is c.self.invariant _ c.stamp-stamp.ensures c.cover-found.result.0 c.cover-found.ensures.covers

pub invariant_of-self : goal.invariant_of-self
invariant_of-self g c = enter_failed _ _ c.self.view_is c.self.invariant _ c.stamp-stamp.ensures c.requires.open _ c.make_room.ensures.carried c.make_room.ensures.kept _ c.self.invariant.once

pub returns-in_err-x-clause-err : goal.returns-in_err-x-clause-err
returns-in_err-x-clause-err g c = on_err _ _ (enter_unchanged _ _ c.self.view_is c.self.invariant _ c.stamp-stamp.ensures c.requires.open _ c.make_room.ensures.carried c.make_room.ensures.kept [])

pub cover-self-inside-requires-clause-linked : goal.cover-self-inside-requires-clause-linked
cover-self-inside-requires-clause-linked g c = linked_entered _ _ c.self.view_is c.self.invariant _ c.stamp-stamp.ensures c.requires.open _ c.make_room.ensures.carried c.make_room.ensures.kept

pub cover-self-inside-requires-clause-there : goal.cover-self-inside-requires-clause-there
cover-self-inside-requires-clause-there g c = (root_entered _ _ c.self.view_is c.self.invariant _ c.stamp-stamp.ensures c.requires.open _ c.make_room.ensures.carried c.make_room.ensures.kept).there

pub cover-self-inside-requires-clause-begun : goal.cover-self-inside-requires-clause-begun
cover-self-inside-requires-clause-begun g c = (root_entered _ _ c.self.view_is c.self.invariant _ c.stamp-stamp.ensures c.requires.open _ c.make_room.ensures.carried c.make_room.ensures.kept).begun

pub read-content-requires-clause-slot : goal.read-content-requires-clause-slot
read-content-requires-clause-slot g c =
    slot_entered _ _ c.self.view_is c.self.invariant _ c.stamp-stamp.ensures c.requires.open _ c.make_room.ensures.carried c.make_room.ensures.kept c.args.r.0 c.args.field.0 c.cover-found.result.0 c.in_ok-x.x.0 c.requires.live c.requires.field c.cover-found.ensures.covers c.cover-found.ensures.home c.in_ok-x.ensures.room c.in_ok-x.ensures.quiet

pub invariant_of-self-in_err-note : goal.invariant_of-self-in_err-note
invariant_of-self-in_err-note g c = found_kept _ _ c.self.view_is c.self.invariant _ c.stamp-stamp.ensures c.requires.open _ c.make_room.ensures.carried c.make_room.ensures.kept _ c.cover-self-inside.ensures.covers c.cover-self-inside.ensures.home _ c.in_err-note.ensures.err

pub returns-in_err-note-clause-err : goal.returns-in_err-note-clause-err
returns-in_err-note-clause-err g c = on_err _ _ (enter_unchanged _ _ c.self.view_is c.self.invariant _ c.stamp-stamp.ensures c.requires.open _ c.make_room.ensures.carried c.make_room.ensures.kept [])

pub invariant_of-self-2 : goal.invariant_of-self-2
invariant_of-self-2 g c = found_more _ _ c.self.view_is c.self.invariant _ c.stamp-stamp.ensures c.requires.open _ c.make_room.ensures.carried c.make_room.ensures.kept _ c.cover-self-inside.ensures.covers c.cover-self-inside.ensures.home _ _ c.in_ok-note.ensures.ok

pub returns-clause-ok : goal.returns-clause-ok
returns-clause-ok g c =
    entered _ _ c.self.view_is c.self.invariant _ c.stamp-stamp.ensures c.requires.open _ c.make_room.ensures.carried c.make_room.ensures.kept c.args.r.0 c.args.field.0 c.cover-found.result.0 c.in_ok-x.x.0 c.requires.live c.requires.field c.cover-found.ensures.covers c.cover-found.ensures.home c.in_ok-x.ensures.room c.in_ok-x.ensures.quiet
    _ c.cover-self-inside.ensures.covers c.cover-self-inside.ensures.home _ c.read-content.result c.home.result.0 c.read-content.ensures c.home.ensures c.in_ok-note.ensures.ok
