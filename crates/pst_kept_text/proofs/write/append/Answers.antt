use Rattle.std.proofs.Common.{inl, arith}
use Rattle.pst_kept_text.proofs.WriteLemmas.{write_leaves, write_done}
use Rattle.pst_kept_text.proofs.TextLemmas.{group_whole, group_some}
use Rattle.pst_kept_text.proofs.write.append.Goals as goal

pub write_synced-requires-clause-some : goal.write_synced-requires-clause-some
write_synced-requires-clause-some g c = group_some c.args.group.now c.requires.group

pub returns-in_err-make_room-clause-any_return : goal.returns-in_err-make_room-clause-any_return
returns-in_err-make_room-clause-any_return g c clean left may = inl (c.make_room.ensures.any_return clean left may)

pub returns-in_err-write_synced-clause-any_return : goal.returns-in_err-write_synced-clause-any_return
returns-in_err-write_synced-clause-any_return g c clean left may =
    let s = c.in_ok-make_room.ensures.settled in
    let p = c.make_room.new.place in
    let was = c.write_synced.ensures.clean clean in
    write_leaves c.args.place.now.base p.base p.end p.room (g.D.Disk.seen c.args.disk.now) (g.D.Disk.seen c.make_room.new.disk) c.args.group.now c.make_room.ensures.base
    s.is_place.begins c.in_ok-make_room.ensures.room (s.at_rest was) (c.in_ok-make_room.ensures.same was) c.requires.group left (c.write_synced.ensures.any_return left may)

pub returns-clause-any_return : goal.returns-clause-any_return
returns-clause-any_return g c clean left may =
    let s = c.in_ok-make_room.ensures.settled in
    let p = c.make_room.new.place in
    let was = c.write_synced.ensures.clean clean in
    write_leaves c.args.place.now.base p.base p.end p.room (g.D.Disk.seen c.args.disk.now) (g.D.Disk.seen c.make_room.new.disk) c.args.group.now c.make_room.ensures.base
    s.is_place.begins c.in_ok-make_room.ensures.room (s.at_rest was) (c.in_ok-make_room.ensures.same was) c.requires.group left (c.write_synced.ensures.any_return left may)

pub returns-clause-added : goal.returns-clause-added
returns-clause-added g c clean =
    let s = c.in_ok-make_room.ensures.settled in
    let p = c.make_room.new.place in
    let was = c.write_synced.ensures.clean clean in
    let w = c.in_ok-write_synced.ensures.written in
    (write_done c.args.place.now.base p.base p.end p.room (g.D.Disk.seen c.args.disk.now) (g.D.Disk.seen c.make_room.new.disk) c.args.group.now c.make_room.ensures.base
    s.is_place.begins c.in_ok-make_room.ensures.room (s.at_rest was) (c.in_ok-make_room.ensures.same was) (group_whole c.args.group.now c.requires.group)
    (g.D.Disk.seen c.write_synced.new.disk) w.torn w.holds).0

pub returns-clause-settled : goal.returns-clause-settled
returns-clause-settled g c =
    let s = c.in_ok-make_room.ensures.settled in
    let p = c.make_room.new.place in
    let w = c.in_ok-write_synced.ensures.written in
    record {
      usable = w.usable;
      durable = w.durable;
      is_place = record { begins = omega (arith, s.is_place.begins); has_room = c.in_ok-make_room.ensures.room; small = s.is_place.small };
      at_rest = λ clean.
          let was = c.write_synced.ensures.clean clean in
          (write_done c.args.place.now.base p.base p.end p.room (g.D.Disk.seen c.args.disk.now) (g.D.Disk.seen c.make_room.new.disk) c.args.group.now c.make_room.ensures.base
          s.is_place.begins c.in_ok-make_room.ensures.room (s.at_rest was) (c.in_ok-make_room.ensures.same was) (group_whole c.args.group.now c.requires.group)
          (g.D.Disk.seen c.write_synced.new.disk) w.torn w.holds).1;
    }
