use Rattle.std.proofs.Common.{◌≡◌, ◌<◌, ℕ, List, length, get_or, sym, ap, ◌∙◌, subst, arith}
use Rattle.std.proofs.lemmas.List.{get_or-map}
use Rattle.pst_order.specs.Places.{rank}
use Rattle.pst_nodes.specs.declared.node.Node.{Node}
use Rattle.pst_nodes.specs.Arena.{lo_at}
use Rattle.pst_roots.specs.Roots.{held_of, begins_of}
use Rattle.pst_roots.proofs.roots.RootIndex.begins_by.Goals as goal

pub before-requires-clause-b_in : goal.before-requires-clause-b_in
before-requires-clause-b_in g c =
    let list : List ℕ = g.O.Order.places c.args.order.now in
    let ns : List Node = c.args.nodes.now.list.items in
    let held : List ℕ = held_of c.args.self.now in
    let spot = c.in-Some.ensures in
    let i : ℕ = c.in-Some.first.index in
    let is : c.begin_of.result.0 ≡ get_or (begins_of ns held) i 0 = c.begin_of.ensures ∙ ap (lo_at ns) spot.node ∙ sym (get_or-map (lo_at ns) held i 0 0 spot.there) in
    record { there = subst (λ (p : ℕ). rank list p < length list) (sym is) (c.requires.roots.rising.each i (omega arith) spot.there) }
