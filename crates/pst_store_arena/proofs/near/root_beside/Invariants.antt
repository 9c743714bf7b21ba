use Rattle.pst_order.specs.Places.{rank}
use Rattle.pst_store_arena.specs.Kept.{IsRootBy}
use Rattle.pst_store_arena.proofs.near.root_beside.Given as goal

abbrev pub invariant-loop : goal.invariant-loop
invariant-loop g l = IsRootBy (g.O.Order.places l.order) l.nodes.list.items l.node.0 (rank (g.O.Order.places l.order) l.at.0)
