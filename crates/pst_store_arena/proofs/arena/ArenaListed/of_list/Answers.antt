use Rattle.pst_store_arena.proofs.JointLemmas.{sound_of}
use Rattle.pst_store_arena.proofs.ListedLemmas.{none_over, out_waiting}
use Rattle.pst_repair.specs.Seen.{seen}
use Rattle.pst_store_arena.specs.Kept.{waiting_of}
use Rattle.pst_store_arena.proofs.arena.ArenaListed.of_list.Goals as goal

pub hold_new-requires-clause-rows : goal.hold_new-requires-clause-rows
hold_new-requires-clause-rows g c = (sound_of c.args._shape.now (g.O.Order.places c.args.order.now) c.args.list.list.items c.requires.nodes).rows

pub hold_new-requires-clause-chained : goal.hold_new-requires-clause-chained
hold_new-requires-clause-chained g c = (sound_of c.args._shape.now (g.O.Order.places c.args.order.now) c.args.list.list.items c.requires.nodes).chained

pub returns-clause-rested : goal.returns-clause-rested
returns-clause-rested g c = out_waiting c.args.list.list.items c.new-2.result c.new-2.ensures c.requires.out

pub returns-clause-waiting : goal.returns-clause-waiting
returns-clause-waiting g c =
    none_over c.args._shape.now (seen c.args.list.list.items) (waiting_of c.args.list.list.items) (out_waiting c.args.list.list.items c.new-2.result c.new-2.ensures c.requires.out) c.requires.small
