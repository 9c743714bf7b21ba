use Rattle.pst_store_arena.proofs.KeptLemmas.{kept_none, kept_open, known_in, known_sound}
use Rattle.pst_nodes.proofs.NodeLemmas.{alive_of}
use Rattle.pst_order.specs.Places.{rank}
use Rattle.pst_store_arena.proofs.arena.ArenaFatNodes.open_slot.Goals as goal

pub open_slot-requires-clause-rows : goal.open_slot-requires-clause-rows
open_slot-requires-clause-rows g c = (known_sound c.args.shape.now (g.O.Order.places c.args.order.now) c.self.inside.nodes.list.items
    c.self.inside.roots c.self.inside.looked_at c.args.self.now c.self.view_is c.requires.nodes).rows

pub open_slot-requires-clause-alive : goal.open_slot-requires-clause-alive
open_slot-requires-clause-alive g c = alive_of (g.O.Order.places c.args.order.now) c.self.inside.nodes.list.items c.args.id.0
    (rank (g.O.Order.places c.args.order.now) c.args.at.0) (known_in c.args.shape.now (g.O.Order.places c.args.order.now)
    c.self.inside.nodes.list.items c.self.inside.roots c.self.inside.looked_at c.args.self.now c.self.view_is c.args.id.0
    (rank (g.O.Order.places c.args.order.now) c.args.at.0) c.requires.inside)

pub open_slot-requires-clause-typed : goal.open_slot-requires-clause-typed
open_slot-requires-clause-typed g c = (known_sound c.args.shape.now (g.O.Order.places c.args.order.now) c.self.inside.nodes.list.items
    c.self.inside.roots c.self.inside.looked_at c.args.self.now c.self.view_is c.requires.nodes).typed c.args.id.0
    (known_in c.args.shape.now (g.O.Order.places c.args.order.now) c.self.inside.nodes.list.items c.self.inside.roots c.self.inside.looked_at
    c.args.self.now c.self.view_is c.args.id.0 (rank (g.O.Order.places c.args.order.now) c.args.at.0) c.requires.inside).there

pub returns-clause-none : goal.returns-clause-none
returns-clause-none g c = kept_none c.args.shape.now (g.O.Order.places c.args.order.now) c.self.inside.nodes.list.items c.self.inside.roots
    c.self.inside.looked_at c.args.self.now c.self.view_is c.args.id.0 (rank (g.O.Order.places c.args.order.now) c.args.at.0) c.args.x.0
    c.args.field.0 c.open_slot.result c.open_slot.ensures.none

pub returns-clause-some : goal.returns-clause-some
returns-clause-some g c = kept_open c.args.shape.now (g.O.Order.places c.args.order.now) c.self.inside.nodes.list.items c.self.inside.roots
    c.self.inside.looked_at c.args.self.now c.self.view_is c.args.id.0 (rank (g.O.Order.places c.args.order.now) c.args.at.0) c.args.x.0
    c.args.field.0 c.open_slot.result c.open_slot.ensures.some
