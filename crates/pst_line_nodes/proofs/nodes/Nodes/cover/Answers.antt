use Rattle.std.proofs.Common.{arith, ◌∙◌}
use Rattle.pst_line_nodes.proofs.nodes.Nodes.cover.Goals as goal

pub loop-next-smaller : goal.loop-next-smaller
loop-next-smaller c =
    let n = c.in-Some.ensures.some in
    let i = c.loop-next.invariant in
    let v = (c.requires.linked).next c.loop-next.found.0 c.in-Some.next.0 i.there n.later in
    omega (arith, v.2, n.first, i.begun)

pub loop-next-preserved : goal.loop-next-preserved
loop-next-preserved c =
    let n = c.in-Some.ensures.some in
    let i = c.loop-next.invariant in
    let v = (c.requires.linked).next c.loop-next.found.0 c.in-Some.next.0 i.there n.later in
    record { there = n.there; begun = n.first; home = v.1 ∙ i.home }
