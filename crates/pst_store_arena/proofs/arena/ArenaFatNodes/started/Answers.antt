use Rattle.pst_store_arena.proofs.AddedLemmas.{first_linked, first_number, first_seen, first_waiting}
use Rattle.pst_store_arena.specs.Kept.{waiting_of}
use Rattle.pst_base.specs.Name.{root_name}
use Rattle.pst_base.specs.Shape.{root_type}
use Rattle.pst_store_meaning.specs.Store.{Noted}
use Rattle.std.proofs.Common.{List, [], ap, ap₂, ℕ, ◌∙◌, ◌∷◌, ◌≡◌}
use Rattle.pst_store_arena.proofs.arena.ArenaFatNodes.started.Goals as goal

pub invariant_of-result : goal.invariant_of-result
invariant_of-result c = first_linked c.args.shape.now c.new-nodes.result.list.items c.new_node.new.nodes.list.items c.in_ok-first.first.0 root_name
    root_type c.args.at c.new-nodes.ensures c.in_ok-first.ensures.ok c.new-2.result c.new-2.ensures

pub returns-clause-root : goal.returns-clause-root
returns-clause-root c = first_seen c.args.shape.now c.new-nodes.result.list.items c.new_node.new.nodes.list.items c.in_ok-first.first.0 root_name
    root_type c.args.at c.new-nodes.ensures c.in_ok-first.ensures.ok

pub returns-clause-noted : goal.returns-clause-noted
returns-clause-noted c =
    let first : c.in_ok-first.first.0 ≡ 0 = first_number c.args.shape.now c.new-nodes.result.list.items c.new_node.new.nodes.list.items
    c.in_ok-first.first.0 root_name root_type c.args.at c.new-nodes.ensures c.in_ok-first.ensures.ok in
    let waiting : waiting_of c.new_node.new.nodes.list.items ≡ [] =
    first_waiting c.args.shape.now c.new-nodes.result.list.items c.new_node.new.nodes.list.items c.in_ok-first.first.0 root_name root_type
    c.args.at c.new-nodes.ensures c.in_ok-first.ensures.ok in
    let f : List ℕ → List ℕ → Noted = λ xs ys. record { queue = xs; roots = ys; seen = 1 } in
    ap₂ f waiting (c.in_ok-roots.ensures ∙ ap (λ (i : ℕ). i ∷ []) first)
