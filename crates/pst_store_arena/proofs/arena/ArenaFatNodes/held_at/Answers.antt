use Rattle.pst_store_arena.proofs.KeptLemmas.{kept_holds, known_slot, known_sound}
use Rattle.pst_order.specs.Places.{rank}
use Rattle.std.proofs.Common.{sym, ◌∙◌}
use Rattle.pst_store_arena.proofs.arena.ArenaFatNodes.held_at.Goals as goal

pub held_at-requires-clause-rows : goal.held_at-requires-clause-rows
held_at-requires-clause-rows g c = (known_sound c.args._shape.now (g.O.Order.places c.args.order.now) c.self.inside.nodes.list.items
    c.self.inside.roots c.self.inside.looked_at c.args.self.now c.self.view_is c.requires.nodes).rows

pub held_at-requires-clause-slot : goal.held_at-requires-clause-slot
held_at-requires-clause-slot g c = known_slot c.args._shape.now (g.O.Order.places c.args.order.now) c.self.inside.nodes.list.items c.self.inside.roots
    c.self.inside.looked_at c.args.self.now c.self.view_is c.requires.nodes c.args.id.0 (rank (g.O.Order.places c.args.order.now) c.args.at.0)
    c.args.slot.0 c.requires.inside c.requires.slot

pub returns : goal.returns
returns g c = c.held_at.ensures ∙ sym (kept_holds c.args._shape.now (g.O.Order.places c.args.order.now) c.self.inside.nodes.list.items
    c.self.inside.roots c.self.inside.looked_at c.args.self.now c.self.view_is c.args.id.0 c.args.slot.0 (rank (g.O.Order.places c.args.order.now) c.args.at.0))
