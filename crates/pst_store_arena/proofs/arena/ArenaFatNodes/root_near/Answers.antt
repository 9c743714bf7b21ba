use Rattle.std.proofs.Common.{◌∙◌}
use Rattle.pst_order.specs.Places.{rank}
use Rattle.pst_nodes.proofs.NodeLemmas.{live_in}
use Rattle.pst_repair.specs.Load.{IsSound}
use Rattle.pst_repair.specs.Seen.{seen}
use Rattle.pst_store_meaning.specs.Arena.{IsLive}
use Rattle.pst_store_arena.specs.Calls.{arena_at}
use Rattle.pst_store_arena.proofs.JointLemmas.{live_lives}
use Rattle.pst_store_arena.proofs.KeptLemmas.{kept_in, kept_name, known_live, known_sound}
use Rattle.pst_store_arena.proofs.arena.ArenaFatNodes.root_near.Goals as goal

pub root_beside-requires-clause-rows : goal.root_beside-requires-clause-rows
root_beside-requires-clause-rows g c = (known_sound c.args.shape.now (g.O.Order.places c.args.order.now) c.self.inside.nodes.list.items
    c.self.inside.roots c.self.inside.looked_at c.args.self.now c.self.view_is c.requires.nodes).rows

pub root_beside-requires-clause-chained : goal.root_beside-requires-clause-chained
root_beside-requires-clause-chained g c = (known_sound c.args.shape.now (g.O.Order.places c.args.order.now) c.self.inside.nodes.list.items
    c.self.inside.roots c.self.inside.looked_at c.args.self.now c.self.view_is c.requires.nodes).chained

pub root_beside-requires-clause-place : goal.root_beside-requires-clause-place
root_beside-requires-clause-place g c =
    let s : IsSound c.args.shape.now (g.O.Order.places c.args.order.now) c.self.inside.nodes.list.items =
    known_sound c.args.shape.now (g.O.Order.places c.args.order.now) c.self.inside.nodes.list.items c.self.inside.roots c.self.inside.looked_at
    c.args.self.now c.self.view_is c.requires.nodes in
    let live : IsLive (arena_at (g.O.Order.places c.args.order.now) (seen c.self.inside.nodes.list.items)) 0
    (rank (g.O.Order.places c.args.order.now) c.args.at.0) =
    known_live c.args.shape.now (g.O.Order.places c.args.order.now) c.self.inside.nodes.list.items c.self.inside.roots c.self.inside.looked_at
    c.args.self.now c.self.view_is 0 (rank (g.O.Order.places c.args.order.now) c.args.at.0) c.requires.live in
    record {
      there = live_in (g.O.Order.places c.args.order.now) c.self.inside.nodes.list.items 0
          (rank (g.O.Order.places c.args.order.now) c.args.at.0) s.rows
          (live_lives c.args.shape.now (g.O.Order.places c.args.order.now) c.self.inside.nodes.list.items 0
          (rank (g.O.Order.places c.args.order.now) c.args.at.0) live);
    }

pub returns-in-Some-clause-inside : goal.returns-in-Some-clause-inside
returns-in-Some-clause-inside g c = kept_in c.args.shape.now (g.O.Order.places c.args.order.now) c.self.inside.nodes.list.items c.self.inside.roots
    c.self.inside.looked_at c.args.self.now c.self.view_is c.in-Some.node.0 (rank (g.O.Order.places c.args.order.now) c.args.at.0) c.in-Some.ensures.inside

pub returns-in-Some-clause-name : goal.returns-in-Some-clause-name
returns-in-Some-clause-name g c = kept_name c.args.shape.now (g.O.Order.places c.args.order.now) c.self.inside.nodes.list.items c.self.inside.roots
    c.self.inside.looked_at c.args.self.now c.self.view_is c.in-Some.node.0 ∙ c.in-Some.ensures.root
