use Rattle.std.proofs.Common.{true, length, ap, sym, ◌∙◌, arith}
use Rattle.std.proofs.lemmas.Option.{get_or_from_slice_get}
use Rattle.pst_line_nodes.specs.declared.content.Content.TheVariants.{Null}
use Rattle.pst_line_nodes.specs.Seen.{Seen}
use Rattle.pst_line_nodes.specs.Rows.{holds}
use Rattle.pst_line_nodes.specs.Changes.{redirected}
use Rattle.pst_line_nodes.specs.Nodes.{line_of}
use Rattle.pst_line_nodes.specs.Copying.{no_node}
use Rattle.pst_line_nodes.proofs.Lists.{pushed_each}
use Rattle.pst_line_nodes.proofs.NodeLemmas.{of_node-at}
use Rattle.pst_line_nodes.proofs.nodes.Nodes.contents.Goals as goal

pub redirected-requires : goal.redirected-requires
redirected-requires c = λ y e. c.requires.targets c.loop-slot.slot y (of_node-at (λ d. holds d c.loop-slot.slot c.args.stamp.0) Null c.args.self.now c.args.x.0 c.node-in-loop-slot.result.now c.node-in-loop-slot.ensures ∙ sym c.read-content.ensures ∙ e)

pub loop-slot-preserved : goal.loop-slot-preserved
loop-slot-preserved c =
    let held = of_node-at (λ d. holds d c.loop-slot.slot c.args.stamp.0) Null c.args.self.now c.args.x.0 c.node-in-loop-slot.result.now c.node-in-loop-slot.ensures in
    let p = pushed_each c.loop-slot.contents.items c.push.new.self.items c.redirected.result Null c.loop-slot.slot (λ g. redirected (line_of (λ i. true) c.args.self.now) c.args.x.0 c.args.z.0 ((line_of (λ i. true) c.args.self.now).holds c.args.x.0 g c.args.stamp.0))
    c.in_ok-push.ensures.items c.loop-slot.invariant.count c.loop-slot.invariant.each
    (c.redirected.ensures ∙ ap (redirected (line_of (λ i. true) c.args.self.now) c.args.x.0 c.args.z.0) (c.read-content.ensures ∙ sym held)) in
    record { count = p.0; each = p.1 }

pub returns : goal.returns
returns c =
    let node = get_or_from_slice_get c.args.self.now c.args.x.0 c.node.result.now no_node c.node.ensures in
    let width = ap (λ (n : Seen). length n.base) node in
    record {
      width = omega (arith, c.loop-slot.invariant.count, c.loop-slot-test.false, c.loop-slot.auto.slot-end, c.width-slot-end.ensures, width);
      each = λ g m. c.loop-slot.invariant.each g (omega (arith, m, c.loop-slot.invariant.count));
    }
