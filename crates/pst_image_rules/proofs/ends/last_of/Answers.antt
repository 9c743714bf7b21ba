use Rattle.std.proofs.Common.{◌≡◌, ◌-◌, suc, arith}
use Rattle.pst_image_rules.specs.Nodes.{node_at}
use Rattle.pst_image_rules.proofs.ChainList.{leads_on}
use Rattle.pst_image_rules.proofs.ends.last_of.Goals as goal

pub later_of-later-requires-in-loop-later : goal.later_of-later-requires-in-loop-later
later_of-later-requires-in-loop-later c =
    let later : (node_at c.args.nodes.now c.loop-later.node).later ≡ suc (c.loop-later.later - 1) = omega (arith, c.loop-later.invariant.same) in
    c.requires.linked.there c.loop-later.node (c.loop-later.later - 1) c.loop-later.invariant.there later

pub loop-later-smaller : goal.loop-later-smaller
loop-later-smaller c =
    let later : (node_at c.args.nodes.now c.loop-later.node).later ≡ suc (c.loop-later.later - 1) = omega (arith, c.loop-later.invariant.same) in
    omega (
      arith,
      (c.requires.linked.next c.loop-later.node (c.loop-later.later - 1) c.loop-later.invariant.there later).lo,
      c.requires.lives c.loop-later.node c.loop-later.invariant.there,
      c.requires.inside c.loop-later.node c.loop-later.invariant.there,
    )

pub loop-later-preserved : goal.loop-later-preserved
loop-later-preserved c =
    let later : (node_at c.args.nodes.now c.loop-later.node).later ≡ suc (c.loop-later.later - 1) = omega (arith, c.loop-later.invariant.same) in
    record {
      there = c.requires.linked.there c.loop-later.node (c.loop-later.later - 1) c.loop-later.invariant.there later;
      same = c.later_of-later-in-loop-later.ensures;
      leads = leads_on _ _ _ _ c.loop-later.invariant.leads later;
    }
