use Rattle.pst_order.specs.Places.{rank}
use Rattle.pst_nodes.specs.Arena.{chart}
use Rattle.pst_repair.specs.Steps.{begin_of}
use Rattle.pst_repair.proofs.RenameLemmas.{replaced_from, segment_done, segment_passed, replaced_touched}
use Rattle.pst_repair.proofs.renames.rename_segment.Goals as goal

pub returns-in-Some-clause-renamed : goal.returns-in-Some-clause-renamed
returns-in-Some-clause-renamed g c e seg =
    let t = segment_done (chart (g.O.Order.places c.args.order.now) c.args.nodes.now.list.items)
    (chart (g.O.Order.places c.args.order.now) c.replace.new.self.list.items) c.args.x.0 c.args.z.0
    (begin_of (g.O.Order.places c.args.order.now) c.args.nodes.now.list.items c.args.z.0) c.args.slot.0
    ((rank (g.O.Order.places c.args.order.now)) c.args.at.0) e c.in-Some.partner.node.0 c.in-Some.partner.slot.0 c.in-Some.partner.content
    c.requires.renamable seg c.in-Some.ensures.some.partner c.in-Some.ensures.some.content
    (replaced_from (g.O.Order.places c.args.order.now) c.args.nodes.now.list.items c.replace.new.self.list.items c.in-Some.partner.node.0
    c.in-Some.partner.slot.0 ((rank (g.O.Order.places c.args.order.now)) c.args.at.0) c.in-Some.partner.content c.replace.ensures.replaced) in
    t.0

pub returns-in-Some-clause-edges : goal.returns-in-Some-clause-edges
returns-in-Some-clause-edges g c e seg =
    let t = segment_done (chart (g.O.Order.places c.args.order.now) c.args.nodes.now.list.items)
    (chart (g.O.Order.places c.args.order.now) c.replace.new.self.list.items) c.args.x.0 c.args.z.0
    (begin_of (g.O.Order.places c.args.order.now) c.args.nodes.now.list.items c.args.z.0) c.args.slot.0
    ((rank (g.O.Order.places c.args.order.now)) c.args.at.0) e c.in-Some.partner.node.0 c.in-Some.partner.slot.0 c.in-Some.partner.content
    c.requires.renamable seg c.in-Some.ensures.some.partner c.in-Some.ensures.some.content
    (replaced_from (g.O.Order.places c.args.order.now) c.args.nodes.now.list.items c.replace.new.self.list.items c.in-Some.partner.node.0
    c.in-Some.partner.slot.0 ((rank (g.O.Order.places c.args.order.now)) c.args.at.0) c.in-Some.partner.content c.replace.ensures.replaced) in
    t.1

pub returns-in-Some-clause-same : goal.returns-in-Some-clause-same
returns-in-Some-clause-same g c = replaced_touched c.args.nodes.now.list.items c.replace.new.self.list.items c.in-Some.partner.node.0
    c.in-Some.ensures.some.slot.alive.there c.replace.ensures.touched c.replace.ensures.stamped

pub returns-in_default-clause-renamed : goal.returns-in_default-clause-renamed
returns-in_default-clause-renamed g c e seg = segment_passed (chart (g.O.Order.places c.args.order.now) c.args.nodes.now.list.items) c.args.x.0
    c.args.z.0 (begin_of (g.O.Order.places c.args.order.now) c.args.nodes.now.list.items c.args.z.0) c.args.slot.0
    ((rank (g.O.Order.places c.args.order.now)) c.args.at.0) e c.requires.renamable seg c.in_default.ensures.none
