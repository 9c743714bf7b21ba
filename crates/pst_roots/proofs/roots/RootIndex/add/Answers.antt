use Rattle.std.proofs.Common.{ℕ, subst}
use Rattle.pst_nodes.specs.Arena.{lo_at}
use Rattle.pst_roots.specs.Roots.{held_of, IsLastIndex}
use Rattle.pst_roots.proofs.RootLemmas.{added_root}
use Rattle.pst_roots.proofs.roots.RootIndex.add.Goals as goal

pub insert_behind-requires-clause-index : goal.insert_behind-requires-clause-index
insert_behind-requires-clause-index g c = c.left_of-left.ensures.within

pub returns-clause-held : goal.returns-clause-held
returns-clause-held g c =
    let nodes = c.args.nodes.now.list.items in
    let held = held_of c.args.self.now in
    let k = c.left_of-left.result in
    let last : IsLastIndex (g.O.Order.places c.args.order.now) nodes held (lo_at nodes c.args.right.0) k =
    subst (λ (p : ℕ). IsLastIndex (g.O.Order.places c.args.order.now) nodes held p k) c.begin_of-begin.ensures c.left_of-left.ensures in
    added_root (g.O.Order.places c.args.order.now) nodes held c.insert_behind.new.self.nodes c.args.right.0 k last c.insert_behind.ensures.nodes
