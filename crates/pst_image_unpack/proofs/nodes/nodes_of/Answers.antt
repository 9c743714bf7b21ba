use Rattle.pst_repair.specs.Seen.{seen_node}
use Rattle.pst_image_meaning.specs.Denoted.{node_of as denoted_node}
use Rattle.pst_image_unpack.proofs.Lists.{there-at, seen-step, out-step}
use Rattle.pst_image_unpack.proofs.nodes.nodes_of.Goals as goal

pub node_of-requires : goal.node_of-requires
node_of-requires c = record {
  few = c.requires.few c.loop-part.part-index c.part-item.result
      (there-at c.args.parts.now c.loop-part.part-index c.part-item.result c.loop-part-test.true c.part-item.is);
}

pub loop-part-preserved : goal.loop-part-preserved
loop-part-preserved c = record {
  nodes = seen-step seen_node (denoted_node c.args.shape.now) c.args.parts.now c.loop-part.part-index c.part-item.result c.loop-part.list.items c.push.new.self.items c.in_ok-node_of.field-0
      c.in_ok-push.ensures.items c.loop-part-test.true c.part-item.is c.loop-part.invariant.nodes c.in_ok-node_of.ensures.node;
  out = out-step c.loop-part.list.items c.push.new.self.items c.in_ok-node_of.field-0 c.in_ok-push.ensures.items c.loop-part.invariant.out c.in_ok-node_of.ensures.out;
}
