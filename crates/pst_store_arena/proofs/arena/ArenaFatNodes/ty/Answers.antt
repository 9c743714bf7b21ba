use Rattle.pst_store_arena.specs.Kept.{Kept}
use Rattle.pst_base.specs.Shape.{root_type}
use Rattle.pst_base.specs.declared.names.TypeNo.{TypeNo}
use Rattle.pst_repair.proofs.SeenLemmas.{seen_ty}
use Rattle.pst_store_meaning.specs.Store.{of_node}
use Rattle.std.proofs.Common.{ap, sym, ℕ, ◌∙◌}
use Rattle.pst_store_arena.proofs.arena.ArenaFatNodes.ty.Goals as goal

pub returns : goal.returns
returns c =
    let f : ℕ → TypeNo = λ k. record { 0 = k } in
    ap f (c.ty.ensures ∙ sym (seen_ty c.self.inside.nodes.list.items c.args.id.0)) ∙ ap (λ (k : Kept). of_node (λ n. n.head.ty) root_type k.nodes c.args.id.0) c.self.view_is
