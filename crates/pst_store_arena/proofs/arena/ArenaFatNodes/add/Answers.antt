use Rattle.pst_store_arena.proofs.AddedLemmas.{added_seen, outcome_linked, outcome_waiting}
use Rattle.pst_store_arena.specs.Calls.{IsNodeAdded}
use Rattle.pst_store_arena.specs.Kept.{IsRowAdded, Kept, waiting_of}
use Rattle.pst_base.specs.declared.names.NodeId.{NodeId}
use Rattle.pst_repair.specs.Seen.{seen}
use Rattle.pst_store_meaning.specs.Store.{Noted}
use Rattle.pst_roots.specs.Roots.{held_of}
use Rattle.pst_repair.proofs.RoomLemmas.{if_ok_on}
use Rattle.std.proofs.Common.{IfOk, List, ap, subst, ℕ, ◌∙◌, ◌≡◌}
use Rattle.pst_store_arena.proofs.arena.ArenaFatNodes.add.Goals as goal

pub invariant_of-self : goal.invariant_of-self
invariant_of-self c = outcome_linked c.args.shape.now c.self.inside.nodes.list.items c.new_node.new.nodes.list.items c.args.name c.args.ty c.args.at
    c.new_node.result c.new_node.ensures.ok c.new_node.ensures.err c.self.inside.queue c.self.invariant

pub returns-clause-noted : goal.returns-clause-noted
returns-clause-noted c =
    let waiting : waiting_of c.new_node.new.nodes.list.items ≡ waiting_of c.self.inside.nodes.list.items =
    outcome_waiting c.args.shape.now c.self.inside.nodes.list.items c.new_node.new.nodes.list.items c.args.name c.args.ty c.args.at
    c.new_node.result c.new_node.ensures.ok c.new_node.ensures.err in
    let f : List ℕ → Noted = λ xs. record { queue = xs; roots = held_of c.self.inside.roots; seen = c.self.inside.looked_at } in
    ap f waiting ∙ ap (λ (k : Kept). k.noted) c.self.view_is

pub returns-clause-ok : goal.returns-clause-ok
returns-clause-ok c =
    subst (λ (k : Kept). IfOk c.new_node.result (λ (id : NodeId). IsNodeAdded c.args.shape.now k.nodes (seen c.new_node.new.nodes.list.items) id.0 c.args.name c.args.ty c.args.at)) c.self.view_is
    (if_ok_on c.new_node.result {P = λ (id : NodeId). IsRowAdded c.args.shape.now c.self.inside.nodes.list.items c.new_node.new.nodes.list.items id.0
    c.args.name c.args.ty c.args.at} {Q = λ (id : NodeId). IsNodeAdded c.args.shape.now (seen c.self.inside.nodes.list.items)
    (seen c.new_node.new.nodes.list.items) id.0 c.args.name c.args.ty c.args.at}
    (λ id h. added_seen c.args.shape.now c.self.inside.nodes.list.items c.new_node.new.nodes.list.items id.0 c.args.name c.args.ty c.args.at h) c.new_node.ensures.ok)
