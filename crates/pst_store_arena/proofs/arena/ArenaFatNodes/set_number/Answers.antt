use Rattle.pst_store_arena.proofs.KeptLemmas.{kept_refused, kept_written, known_in, known_queued, known_sound, known_value}
use Rattle.pst_order.specs.Places.{rank}
use Rattle.pst_store_arena.proofs.arena.ArenaFatNodes.set_number.Goals as goal

pub set_number-requires-clause-sound : goal.set_number-requires-clause-sound
set_number-requires-clause-sound g c = known_sound c.args.shape.now (g.O.Order.places c.args.order.now) c.self.inside.nodes.list.items
    c.self.inside.roots c.self.inside.looked_at c.args.self.now c.self.view_is c.requires.nodes

pub set_number-requires-clause-queued : goal.set_number-requires-clause-queued
set_number-requires-clause-queued g c = known_queued c.args.shape.now (g.O.Order.places c.args.order.now) c.self.inside.nodes.list.items
    c.self.inside.roots c.self.inside.looked_at c.args.self.now c.self.view_is c.self.inside.queue c.self.invariant c.requires.waiting

pub set_number-requires-clause-inside : goal.set_number-requires-clause-inside
set_number-requires-clause-inside g c = known_in c.args.shape.now (g.O.Order.places c.args.order.now) c.self.inside.nodes.list.items
    c.self.inside.roots c.self.inside.looked_at c.args.self.now c.self.view_is c.args.id.0
    (rank (g.O.Order.places c.args.order.now) c.args.at.begin.0) c.requires.inside

pub set_number-requires-clause-field : goal.set_number-requires-clause-field
set_number-requires-clause-field g c = known_value c.args.shape.now (g.O.Order.places c.args.order.now) c.self.inside.nodes.list.items
    c.self.inside.roots c.self.inside.looked_at c.args.self.now c.self.view_is c.args.id.0 c.args.field.0 c.requires.field

pub returns-clause-kept : goal.returns-clause-kept
returns-clause-kept g c = kept_written c.args.shape.now (g.O.Order.places c.args.order.now) c.self.inside.nodes.list.items c.self.inside.roots
    c.self.inside.looked_at c.args.self.now c.self.view_is c.set_number.new.nodes.list.items c.set_number.result c.set_number.new.queue
    c.set_number.ensures.rows c.set_number.ensures.wide c.set_number.ensures.queued

pub returns-clause-err : goal.returns-clause-err
returns-clause-err g c = kept_refused c.args.shape.now (g.O.Order.places c.args.order.now) c.self.inside.nodes.list.items c.self.inside.roots
    c.self.inside.looked_at c.args.self.now c.self.view_is c.set_number.new.nodes.list.items c.set_number.result c.set_number.ensures.err_nodes
