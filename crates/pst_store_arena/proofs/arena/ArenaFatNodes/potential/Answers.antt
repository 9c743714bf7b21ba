use Rattle.pst_store_arena.specs.Kept.{Kept}
use Rattle.pst_repair.proofs.SeenLemmas.{seen_potential}
use Rattle.pst_repair.specs.Seen.{seen}
use Rattle.pst_store_meaning.specs.Store.{load_of}
use Rattle.pst_repair.specs.Load.{potential_of}
use Rattle.std.proofs.Common.{ap, arith, map, sym, ◌∙◌, ◌≡◌}
use Rattle.pst_mirror.specs.Potential.{potential}
use Rattle.pst_store_arena.proofs.arena.ArenaFatNodes.potential.Goals as goal

pub potential_of-requires : goal.potential_of-requires
potential_of-requires c =
    let e : potential (map (load_of c.args.shape.now) (seen c.self.inside.nodes.list.items)) ≡ potential_of c.args.shape.now
    c.self.inside.nodes.list.items = seen_potential c.args.shape.now c.self.inside.nodes.list.items in
    let k : potential (map (load_of c.args.shape.now) (seen c.self.inside.nodes.list.items)) ≡ potential
    (map (load_of c.args.shape.now) c.args.self.now.nodes) = ap (λ (k : Kept). potential (map (load_of c.args.shape.now) k.nodes)) c.self.view_is in
    omega (arith, e, k, c.requires)

pub returns : goal.returns
returns c = c.potential_of.ensures ∙ sym (seen_potential c.args.shape.now c.self.inside.nodes.list.items) ∙ ap (λ (k : Kept). potential (map (load_of c.args.shape.now) k.nodes)) c.self.view_is
