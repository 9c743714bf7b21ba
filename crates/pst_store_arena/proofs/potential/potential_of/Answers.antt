use Rattle.pst_repair.specs.Load.{excess}
use Rattle.pst_nodes.specs.declared.node.Node.{Node}
use Rattle.std.proofs.Common.{◌≡◌, ℕ, List, sum_by, get_or, ap, ◌∙◌, arith}
use Rattle.std.proofs.lemmas.List.Sums.{sum_by_more, sum_by_more_le}
use Rattle.pst_store_arena.proofs.potential.potential_of.Goals as goal

pub overflow_add-sum : goal.overflow_add-sum
overflow_add-sum c =
    let items : List Node = c.deref-node-items.result.now in
    let f : Node → ℕ = excess c.args.shape.now in
    let i : ℕ = c.loop-node.node-index in
    let same : c.excess-sum.result ≡ f (get_or items i c.node-item.result) = c.excess-sum.ensures ∙ ap f c.node-item.is in
    let all : sum_by f items ≡ sum_by f c.args.nodes.now.list.items = ap (sum_by f) c.deref-node-items.ensures.value in
    omega (arith, same, all, sum_by_more_le f items i c.node-item.result c.loop-node-test.true, c.loop-node.invariant, c.requires)

pub loop-node-preserved : goal.loop-node-preserved
loop-node-preserved c =
    let items : List Node = c.deref-node-items.result.now in
    let f : Node → ℕ = excess c.args.shape.now in
    let i : ℕ = c.loop-node.node-index in
    let same : c.excess-sum.result ≡ f (get_or items i c.node-item.result) = c.excess-sum.ensures ∙ ap f c.node-item.is in
    omega (arith, same, sum_by_more f items i c.node-item.result c.loop-node-test.true, c.loop-node.invariant)
