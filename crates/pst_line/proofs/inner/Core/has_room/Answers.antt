use Rattle.pst_line.proofs.Entering.{newest_there}
use Rattle.pst_line.proofs.Linking.{room_seen}
use Rattle.pst_line.proofs.inner.Core.has_room.Goals as goal

pub open_slot-requires : goal.open_slot-requires
open_slot-requires g c = record { newest = newest_there _ _ c.self.view_is c.self.invariant _ c.stamp-stamp.ensures c.cover-z.result.0 c.cover-z.ensures.covers }

pub returns : goal.returns
returns g c = room_seen _ _ c.self.view_is c.self.invariant c.args.at c.args.r c.args.field.0 c.args.q c.requires _ c.stamp-stamp.ensures c.cover-x.result.0 c.cover-z.result.0
    c.cover-x.ensures.covers c.cover-x.ensures.home c.cover-z.ensures.covers c.cover-z.ensures.home _ c.open_slot.ensures.some c.open_slot.ensures.none _ c.is_some.ensures
