use Rattle.pst_store_arena.proofs.HeldLemmas.{last_live, roots_are}
use Rattle.pst_store_arena.proofs.JointLemmas.{live_lives}
use Rattle.pst_store_arena.proofs.KeptLemmas.{kept_in, kept_name, known_held, known_live, known_sound}
use Rattle.pst_store_arena.specs.Calls.{arena_at}
use Rattle.pst_store_arena.specs.Kept.{noted_of}
use Rattle.pst_repair.proofs.SeenLemmas.{seen_name}
use Rattle.pst_repair.specs.Seen.{seen}
use Rattle.pst_store_meaning.specs.Arena.{IsLive}
use Rattle.pst_store_meaning.specs.Store.{AreHeld}
use Rattle.pst_nodes.proofs.NodeLemmas.{live_in}
use Rattle.pst_order.specs.Places.{rank}
use Rattle.pst_repair.specs.Load.{IsSound}
use Rattle.std.proofs.Common.{sym, ◌∙◌}
use Rattle.pst_store_arena.proofs.arena.ArenaFatNodes.root.Goals as goal

pub at-held-requires-clause-roots : goal.at-held-requires-clause-roots
at-held-requires-clause-roots g c =
    let s : IsSound c.args._shape.now (g.O.Order.places c.args.order.now) c.self.inside.nodes.list.items =
    known_sound c.args._shape.now (g.O.Order.places c.args.order.now) c.self.inside.nodes.list.items c.self.inside.roots c.self.inside.looked_at
    c.args.self.now c.self.view_is c.requires.nodes in
    let held : AreHeld (arena_at (g.O.Order.places c.args.order.now) (seen c.self.inside.nodes.list.items))
    (noted_of c.self.inside.nodes.list.items c.self.inside.roots c.self.inside.looked_at) =
    known_held c.args._shape.now (g.O.Order.places c.args.order.now) c.self.inside.nodes.list.items c.self.inside.roots c.self.inside.looked_at
    c.args.self.now c.self.view_is c.requires.held in
    let live : IsLive (arena_at (g.O.Order.places c.args.order.now) (seen c.self.inside.nodes.list.items)) 0
    (rank (g.O.Order.places c.args.order.now) c.args.at.0) =
    known_live c.args._shape.now (g.O.Order.places c.args.order.now) c.self.inside.nodes.list.items c.self.inside.roots c.self.inside.looked_at
    c.args.self.now c.self.view_is 0 (rank (g.O.Order.places c.args.order.now) c.args.at.0) c.requires.live in
    roots_are (g.O.Order.places c.args.order.now) c.self.inside.nodes.list.items
    (noted_of c.self.inside.nodes.list.items c.self.inside.roots c.self.inside.looked_at) s.rows held s.chained c.args.at.0 live.begun

pub at-held-requires-clause-place : goal.at-held-requires-clause-place
at-held-requires-clause-place g c =
    let s : IsSound c.args._shape.now (g.O.Order.places c.args.order.now) c.self.inside.nodes.list.items =
    known_sound c.args._shape.now (g.O.Order.places c.args.order.now) c.self.inside.nodes.list.items c.self.inside.roots c.self.inside.looked_at
    c.args.self.now c.self.view_is c.requires.nodes in
    let held : AreHeld (arena_at (g.O.Order.places c.args.order.now) (seen c.self.inside.nodes.list.items))
    (noted_of c.self.inside.nodes.list.items c.self.inside.roots c.self.inside.looked_at) =
    known_held c.args._shape.now (g.O.Order.places c.args.order.now) c.self.inside.nodes.list.items c.self.inside.roots c.self.inside.looked_at
    c.args.self.now c.self.view_is c.requires.held in
    let live : IsLive (arena_at (g.O.Order.places c.args.order.now) (seen c.self.inside.nodes.list.items)) 0
    (rank (g.O.Order.places c.args.order.now) c.args.at.0) =
    known_live c.args._shape.now (g.O.Order.places c.args.order.now) c.self.inside.nodes.list.items c.self.inside.roots c.self.inside.looked_at
    c.args.self.now c.self.view_is 0 (rank (g.O.Order.places c.args.order.now) c.args.at.0) c.requires.live in
    record {
      there = live_in (g.O.Order.places c.args.order.now) c.self.inside.nodes.list.items 0
          (rank (g.O.Order.places c.args.order.now) c.args.at.0) s.rows
          (live_lives c.args._shape.now (g.O.Order.places c.args.order.now) c.self.inside.nodes.list.items 0
          (rank (g.O.Order.places c.args.order.now) c.args.at.0) live);
    }

pub cover-requires-clause-rows : goal.cover-requires-clause-rows
cover-requires-clause-rows g c = (known_sound c.args._shape.now (g.O.Order.places c.args.order.now) c.self.inside.nodes.list.items c.self.inside.roots
    c.self.inside.looked_at c.args.self.now c.self.view_is c.requires.nodes).rows

pub cover-requires-clause-chained : goal.cover-requires-clause-chained
cover-requires-clause-chained g c = (known_sound c.args._shape.now (g.O.Order.places c.args.order.now) c.self.inside.nodes.list.items
    c.self.inside.roots c.self.inside.looked_at c.args.self.now c.self.view_is c.requires.nodes).chained

pub cover-requires-clause-live : goal.cover-requires-clause-live
cover-requires-clause-live g c =
    let s : IsSound c.args._shape.now (g.O.Order.places c.args.order.now) c.self.inside.nodes.list.items =
    known_sound c.args._shape.now (g.O.Order.places c.args.order.now) c.self.inside.nodes.list.items c.self.inside.roots c.self.inside.looked_at
    c.args.self.now c.self.view_is c.requires.nodes in
    let held : AreHeld (arena_at (g.O.Order.places c.args.order.now) (seen c.self.inside.nodes.list.items))
    (noted_of c.self.inside.nodes.list.items c.self.inside.roots c.self.inside.looked_at) =
    known_held c.args._shape.now (g.O.Order.places c.args.order.now) c.self.inside.nodes.list.items c.self.inside.roots c.self.inside.looked_at
    c.args.self.now c.self.view_is c.requires.held in
    let live : IsLive (arena_at (g.O.Order.places c.args.order.now) (seen c.self.inside.nodes.list.items)) 0
    (rank (g.O.Order.places c.args.order.now) c.args.at.0) =
    known_live c.args._shape.now (g.O.Order.places c.args.order.now) c.self.inside.nodes.list.items c.self.inside.roots c.self.inside.looked_at
    c.args.self.now c.self.view_is 0 (rank (g.O.Order.places c.args.order.now) c.args.at.0) c.requires.live in
    live_lives c.args._shape.now (g.O.Order.places c.args.order.now) c.self.inside.nodes.list.items c.at-held.result.0
    (rank (g.O.Order.places c.args.order.now) c.args.at.0)
    (last_live (g.O.Order.places c.args.order.now) c.self.inside.nodes.list.items
    (noted_of c.self.inside.nodes.list.items c.self.inside.roots c.self.inside.looked_at) s.rows held s.chained c.args.at.0 c.at-held.result.0
    live c.at-held.ensures).0

pub returns-clause-inside : goal.returns-clause-inside
returns-clause-inside g c = kept_in c.args._shape.now (g.O.Order.places c.args.order.now) c.self.inside.nodes.list.items c.self.inside.roots
    c.self.inside.looked_at c.args.self.now c.self.view_is c.cover.result.0 (rank (g.O.Order.places c.args.order.now) c.args.at.0) c.cover.ensures.covers

pub returns-clause-name : goal.returns-clause-name
returns-clause-name g c =
    let s : IsSound c.args._shape.now (g.O.Order.places c.args.order.now) c.self.inside.nodes.list.items =
    known_sound c.args._shape.now (g.O.Order.places c.args.order.now) c.self.inside.nodes.list.items c.self.inside.roots c.self.inside.looked_at
    c.args.self.now c.self.view_is c.requires.nodes in
    let held : AreHeld (arena_at (g.O.Order.places c.args.order.now) (seen c.self.inside.nodes.list.items))
    (noted_of c.self.inside.nodes.list.items c.self.inside.roots c.self.inside.looked_at) =
    known_held c.args._shape.now (g.O.Order.places c.args.order.now) c.self.inside.nodes.list.items c.self.inside.roots c.self.inside.looked_at
    c.args.self.now c.self.view_is c.requires.held in
    let live : IsLive (arena_at (g.O.Order.places c.args.order.now) (seen c.self.inside.nodes.list.items)) 0
    (rank (g.O.Order.places c.args.order.now) c.args.at.0) =
    known_live c.args._shape.now (g.O.Order.places c.args.order.now) c.self.inside.nodes.list.items c.self.inside.roots c.self.inside.looked_at
    c.args.self.now c.self.view_is 0 (rank (g.O.Order.places c.args.order.now) c.args.at.0) c.requires.live in
    kept_name c.args._shape.now (g.O.Order.places c.args.order.now) c.self.inside.nodes.list.items c.self.inside.roots c.self.inside.looked_at
    c.args.self.now c.self.view_is c.cover.result.0 ∙ c.cover.ensures.name ∙ sym (seen_name c.self.inside.nodes.list.items c.at-held.result.0)
    ∙ (last_live (g.O.Order.places c.args.order.now) c.self.inside.nodes.list.items
    (noted_of c.self.inside.nodes.list.items c.self.inside.roots c.self.inside.looked_at) s.rows held s.chained c.args.at.0 c.at-held.result.0
    live c.at-held.ensures).1
