use Rattle.pst_store_arena.proofs.KeptLemmas.{known_held, known_queued, known_sound}
use Rattle.pst_store_arena.proofs.WaitingLemmas.{waiting_queued}
use Rattle.pst_store_arena.proofs.arena.ArenaFatNodes.repair.Goals as goal

pub repair_and_hold-requires-clause-sound : goal.repair_and_hold-requires-clause-sound
repair_and_hold-requires-clause-sound g c = known_sound c.args.shape.now (g.O.Order.places c.args.order.now) c.self.inside.nodes.list.items
    c.self.inside.roots c.self.inside.looked_at c.args.self.now c.self.view_is c.requires.nodes

pub repair_and_hold-requires-clause-queued : goal.repair_and_hold-requires-clause-queued
repair_and_hold-requires-clause-queued g c = known_queued c.args.shape.now (g.O.Order.places c.args.order.now) c.self.inside.nodes.list.items
    c.self.inside.roots c.self.inside.looked_at c.args.self.now c.self.view_is c.self.inside.queue c.self.invariant c.requires.waiting

pub repair_and_hold-requires-clause-held : goal.repair_and_hold-requires-clause-held
repair_and_hold-requires-clause-held g c = known_held c.args.shape.now (g.O.Order.places c.args.order.now) c.self.inside.nodes.list.items
    c.self.inside.roots c.self.inside.looked_at c.args.self.now c.self.view_is c.requires.held

pub returns-clause-waiting : goal.returns-clause-waiting
returns-clause-waiting g c = waiting_queued c.args.shape.now (g.O.Order.places c.args.order.now) c.repair_and_hold.new.nodes.list.items
    c.repair_and_hold.new.queue c.repair_and_hold.ensures.queued.0 c.repair_and_hold.ensures.queued.1
