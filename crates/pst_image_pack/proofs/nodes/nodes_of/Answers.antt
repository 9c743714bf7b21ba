use Rattle.std.proofs.Common.{◌≡◌, ◌<◌, List, length, get_or, ap, subst, arith}
use Rattle.pst_nodes.specs.declared.node.Node.{Node}
use Rattle.pst_repair.specs.Seen.{seen, seen_node}
use Rattle.pst_image_form.specs.Bytes.{FitsNode}
use Rattle.pst_image_meaning.specs.Denoted.{IsShort}
use Rattle.pst_image_meaning.specs.Parts.{node_part as part_of_node}
use Rattle.pst_image_pack.specs.Positions.{position_in}
use Rattle.pst_image_pack.proofs.Lists.{all_step, seen_step, seen_at, one_more}
use Rattle.pst_image_pack.proofs.nodes.nodes_of.Goals as goal

pub node_part-requires-clause-narrow : goal.node_part-requires-clause-narrow
node_part-requires-clause-narrow c =
    let high : c.loop-node.node-index < length c.args.nodes.now.list.items = omega (arith, ap length c.deref-node-items.ensures.value) in
    let is = subst (λ (xs : List Node). c.node-item.result ≡ get_or xs c.loop-node.node-index c.node-item.result) c.deref-node-items.ensures.value c.node-item.is in
    c.requires.narrow c.loop-node.node-index (seen_node c.node-item.result) (seen_at seen_node c.args.nodes.now.list.items c.loop-node.node-index c.node-item.result high is)

pub loop-node-preserved : goal.loop-node-preserved
loop-node-preserved c =
    let high : c.loop-node.node-index < length c.args.nodes.now.list.items = omega (arith, ap length c.deref-node-items.ensures.value) in
    let is = subst (λ (xs : List Node). c.node-item.result ≡ get_or xs c.loop-node.node-index c.node-item.result) c.deref-node-items.ensures.value c.node-item.is in
    record {
      short = one_more IsShort (seen c.args.nodes.now.list.items) c.loop-node.node-index (seen_node c.node-item.result)
          (seen_at seen_node c.args.nodes.now.list.items c.loop-node.node-index c.node-item.result high is)
          c.in_ok-node_part.ensures.short c.loop-node.invariant.short;
      made = seen_step (part_of_node (position_in c.args.positions.now)) seen_node c.args.nodes.now.list.items c.loop-node.node-index
          c.node-item.result c.loop-node.parts.items c.push.new.self.items c.in_ok-node_part.field-0
          c.in_ok-push.ensures.items high is c.loop-node.invariant.made c.in_ok-node_part.ensures.part;
      fits = all_step FitsNode c.loop-node.parts.items c.push.new.self.items c.in_ok-node_part.field-0 c.in_ok-push.ensures.items c.loop-node.invariant.fits c.in_ok-node_part.ensures.fits;
    }
