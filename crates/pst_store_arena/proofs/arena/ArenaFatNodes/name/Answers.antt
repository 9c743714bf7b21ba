use Rattle.pst_store_arena.specs.Kept.{Kept}
use Rattle.pst_base.specs.Name.{root_name}
use Rattle.pst_repair.proofs.SeenLemmas.{seen_name}
use Rattle.pst_store_meaning.specs.Store.{of_node}
use Rattle.std.proofs.Common.{ap, sym, ◌∙◌}
use Rattle.pst_store_arena.proofs.arena.ArenaFatNodes.name.Goals as goal

pub returns : goal.returns
returns c = c.name.ensures ∙ sym (seen_name c.self.inside.nodes.list.items c.args.id.0) ∙ ap (λ (k : Kept). of_node (λ n. n.head.name) root_name k.nodes c.args.id.0) c.self.view_is
