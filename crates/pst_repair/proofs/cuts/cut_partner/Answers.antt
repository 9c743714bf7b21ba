use Rattle.std.proofs.Common.{◌≡◌, true, ap, ◌∙◌}
use Rattle.pst_order.specs.Places.{rank}
use Rattle.pst_mirror.specs.Mirror.{names}
use Rattle.pst_nodes.specs.Arena.{chart}
use Rattle.pst_repair.proofs.LoadLemmas.{only_none, only_weaker}
use Rattle.pst_repair.proofs.cuts.cut_partner.Goals as goal

pub returns-in-Some-clause-named : goal.returns-in-Some-clause-named
returns-in-Some-clause-named g c = only_weaker (λ i. i ≡ c.in-Some.place.node.0)
    (λ i. names i ((chart (g.O.Order.places c.args.order.now) c.args.nodes.now.list.items).holds c.args.z.0 c.args.slot.0
    (rank (g.O.Order.places c.args.order.now) c.args.at.0)) ≡ true)
    c.args.nodes.now.list.items c.cut_slot.new.nodes.list.items c.args.queue.now c.cut_slot.new.queue
    (λ i e. ap (λ k. names k ((chart (g.O.Order.places c.args.order.now) c.args.nodes.now.list.items).holds c.args.z.0 c.args.slot.0
    (rank (g.O.Order.places c.args.order.now) c.args.at.0))) e ∙ c.in-Some.ensures.some.named)
    c.cut_slot.ensures.named

pub returns-in_default-clause-named : goal.returns-in_default-clause-named
returns-in_default-clause-named g c = only_none (λ i. names i
    ((chart (g.O.Order.places c.args.order.now) c.args.nodes.now.list.items).holds c.args.z.0 c.args.slot.0
    (rank (g.O.Order.places c.args.order.now) c.args.at.0)) ≡ true) c.args.nodes.now.list.items c.args.nodes.now.list.items c.args.queue.now (λ xs h. h)
