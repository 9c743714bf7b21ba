use Rattle.pst_store_arena.proofs.KeptLemmas.{kept_refused, kept_written, known_in, known_open, known_queued, known_sound, known_target}
use Rattle.pst_order.specs.Places.{rank}
use Rattle.pst_store_arena.proofs.arena.ArenaFatNodes.set_target.Goals as goal

pub set_target-requires-clause-sound : goal.set_target-requires-clause-sound
set_target-requires-clause-sound g c = known_sound c.args.shape.now (g.O.Order.places c.args.order.now) c.self.inside.nodes.list.items
    c.self.inside.roots c.self.inside.looked_at c.args.self.now c.self.view_is c.requires.nodes

pub set_target-requires-clause-queued : goal.set_target-requires-clause-queued
set_target-requires-clause-queued g c = known_queued c.args.shape.now (g.O.Order.places c.args.order.now) c.self.inside.nodes.list.items
    c.self.inside.roots c.self.inside.looked_at c.args.self.now c.self.view_is c.self.inside.queue c.self.invariant c.requires.waiting

pub set_target-requires-clause-inside : goal.set_target-requires-clause-inside
set_target-requires-clause-inside g c = known_in c.args.shape.now (g.O.Order.places c.args.order.now) c.self.inside.nodes.list.items
    c.self.inside.roots c.self.inside.looked_at c.args.self.now c.self.view_is c.args.id.0
    (rank (g.O.Order.places c.args.order.now) c.args.at.begin.0) c.requires.inside

pub set_target-requires-clause-target : goal.set_target-requires-clause-target
set_target-requires-clause-target g c = known_in c.args.shape.now (g.O.Order.places c.args.order.now) c.self.inside.nodes.list.items
    c.self.inside.roots c.self.inside.looked_at c.args.self.now c.self.view_is c.args.target.0
    (rank (g.O.Order.places c.args.order.now) c.args.at.begin.0) c.requires.target

pub set_target-requires-clause-field : goal.set_target-requires-clause-field
set_target-requires-clause-field g c = known_target c.args.shape.now (g.O.Order.places c.args.order.now) c.self.inside.nodes.list.items
    c.self.inside.roots c.self.inside.looked_at c.args.self.now c.self.view_is c.args.id.0 c.args.field.0 c.args.target.0 c.requires.field

pub set_target-requires-clause-slot : goal.set_target-requires-clause-slot
set_target-requires-clause-slot g c = known_open c.args.shape.now (g.O.Order.places c.args.order.now) c.self.inside.nodes.list.items
    c.self.inside.roots c.self.inside.looked_at c.args.self.now c.self.view_is c.args.target.0
    (rank (g.O.Order.places c.args.order.now) c.args.at.begin.0) c.args.id.0 c.args.field.0 c.args.slot.0 c.requires.slot

pub returns-clause-kept : goal.returns-clause-kept
returns-clause-kept g c = kept_written c.args.shape.now (g.O.Order.places c.args.order.now) c.self.inside.nodes.list.items c.self.inside.roots
    c.self.inside.looked_at c.args.self.now c.self.view_is c.set_target.new.nodes.list.items c.set_target.result c.set_target.new.queue
    c.set_target.ensures.rows c.set_target.ensures.wide c.set_target.ensures.queued

pub returns-clause-err : goal.returns-clause-err
returns-clause-err g c = kept_refused c.args.shape.now (g.O.Order.places c.args.order.now) c.self.inside.nodes.list.items c.self.inside.roots
    c.self.inside.looked_at c.args.self.now c.self.view_is c.set_target.new.nodes.list.items c.set_target.result c.set_target.ensures.err_nodes
