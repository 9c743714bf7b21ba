use Rattle.pst_store_arena.proofs.JointLemmas.{live_lives}
use Rattle.pst_store_arena.proofs.KeptLemmas.{kept_in, kept_name, known_live, known_sound}
use Rattle.pst_order.specs.Places.{rank}
use Rattle.std.proofs.Common.{sym, ◌∙◌}
use Rattle.pst_store_arena.proofs.arena.ArenaFatNodes.cover.Goals as goal

pub cover-requires-clause-rows : goal.cover-requires-clause-rows
cover-requires-clause-rows g c = (known_sound c.args._shape.now (g.O.Order.places c.args.order.now) c.self.inside.nodes.list.items c.self.inside.roots
    c.self.inside.looked_at c.args.self.now c.self.view_is c.requires.nodes).rows

pub cover-requires-clause-chained : goal.cover-requires-clause-chained
cover-requires-clause-chained g c = (known_sound c.args._shape.now (g.O.Order.places c.args.order.now) c.self.inside.nodes.list.items
    c.self.inside.roots c.self.inside.looked_at c.args.self.now c.self.view_is c.requires.nodes).chained

pub cover-requires-clause-live : goal.cover-requires-clause-live
cover-requires-clause-live g c = live_lives c.args._shape.now (g.O.Order.places c.args.order.now) c.self.inside.nodes.list.items c.args.id.0
    (rank (g.O.Order.places c.args.order.now) c.args.at.0) (known_live c.args._shape.now (g.O.Order.places c.args.order.now)
    c.self.inside.nodes.list.items c.self.inside.roots c.self.inside.looked_at c.args.self.now c.self.view_is c.args.id.0
    (rank (g.O.Order.places c.args.order.now) c.args.at.0) c.requires.live)

pub returns-clause-inside : goal.returns-clause-inside
returns-clause-inside g c = kept_in c.args._shape.now (g.O.Order.places c.args.order.now) c.self.inside.nodes.list.items c.self.inside.roots
    c.self.inside.looked_at c.args.self.now c.self.view_is c.cover.result.0 (rank (g.O.Order.places c.args.order.now) c.args.at.0) c.cover.ensures.covers

pub returns-clause-same : goal.returns-clause-same
returns-clause-same g c = kept_name c.args._shape.now (g.O.Order.places c.args.order.now) c.self.inside.nodes.list.items c.self.inside.roots
    c.self.inside.looked_at c.args.self.now c.self.view_is c.cover.result.0 ∙ c.cover.ensures.name
    ∙ sym (kept_name c.args._shape.now (g.O.Order.places c.args.order.now) c.self.inside.nodes.list.items c.self.inside.roots c.self.inside.looked_at
    c.args.self.now c.self.view_is c.args.id.0)
