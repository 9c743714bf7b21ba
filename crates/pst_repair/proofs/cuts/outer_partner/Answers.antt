use Rattle.std.proofs.Common.{sym, ◌∙◌}
use Rattle.pst_order.specs.Places.{rank}
use Rattle.pst_nodes.specs.Arena.{chart}
use Rattle.pst_nodes.proofs.PairLemmas.{entry_at, renamed_itself}
use Rattle.pst_repair.proofs.CutLemmas.{outer_entry, outer_of_pointer, outer_of_entry, none_at_target}
use Rattle.pst_repair.proofs.cuts.outer_partner.Goals as goal

pub entry_slot-requires-clause-alive : goal.entry_slot-requires-clause-alive
entry_slot-requires-clause-alive g c =
    let t = outer_entry c.requires.parted.0 (chart (g.O.Order.places c.args.order.now) c.args.nodes.now.list.items) c.args.x.0 c.args.z.0
    ((rank (g.O.Order.places c.args.order.now)) c.args.at.0) c.requires.parted.1 c.args.slot.0 c.in-Target.y.0
    (sym c.read.ensures ∙ c.in-Target.is) c.if-y-x.true in
    let s = entry_at (g.O.Order.places c.args.order.now) c.args.nodes.now.list.items c.in-Target.y.0 t.1.0
    ((rank (g.O.Order.places c.args.order.now)) c.args.at.0) c.args.x.0 c.args.slot.0 c.requires.rows t.1.1 in
    s.alive

pub entry_slot-requires-clause-there : goal.entry_slot-requires-clause-there
entry_slot-requires-clause-there g c =
    let t = outer_entry c.requires.parted.0 (chart (g.O.Order.places c.args.order.now) c.args.nodes.now.list.items) c.args.x.0 c.args.z.0
    ((rank (g.O.Order.places c.args.order.now)) c.args.at.0) c.requires.parted.1 c.args.slot.0 c.in-Target.y.0
    (sym c.read.ensures ∙ c.in-Target.is) c.if-y-x.true in (
      t.1.0,
      renamed_itself c.args.x.0 ((chart (g.O.Order.places c.args.order.now) c.args.nodes.now.list.items).holds c.in-Target.y.0 t.1.0
          ((rank (g.O.Order.places c.args.order.now)) c.args.at.0)) ∙ t.1.1,
    )

pub returns-in-Target-clause-some : goal.returns-in-Target-clause-some
returns-in-Target-clause-some g c =
    outer_of_pointer (g.O.Order.places c.args.order.now) c.args.nodes.now.list.items c.requires.parted.0 c.args.x.0 c.args.z.0 c.args.slot.0
    c.in-Target.y.0 c.entry_slot.result.0 ((rank (g.O.Order.places c.args.order.now)) c.args.at.0) c.requires.rows c.requires.parted.1
    (sym c.read.ensures ∙ c.in-Target.is) c.if-y-x.true
    (sym (renamed_itself c.args.x.0 ((chart (g.O.Order.places c.args.order.now) c.args.nodes.now.list.items).holds c.in-Target.y.0
    c.entry_slot.result.0 ((rank (g.O.Order.places c.args.order.now)) c.args.at.0))) ∙ c.entry_slot.ensures.entry)

pub returns-in-From-clause-some : goal.returns-in-From-clause-some
returns-in-From-clause-some g c =
    outer_of_entry (g.O.Order.places c.args.order.now) c.args.nodes.now.list.items c.requires.parted.0 c.args.x.0 c.args.z.0 c.args.slot.0
    c.in-From.y.0 c.in-From.field.0 ((rank (g.O.Order.places c.args.order.now)) c.args.at.0) c.requires.rows c.requires.parted.1
    (sym c.read.ensures ∙ c.in-From.is) c.if-y-x-2.true

pub returns-in_default-clause-none : goal.returns-in_default-clause-none
returns-in_default-clause-none g c = none_at_target c.requires.parted.0 (chart (g.O.Order.places c.args.order.now) c.args.nodes.now.list.items)
    c.args.x.0 c.args.z.0 c.args.slot.0 ((rank (g.O.Order.places c.args.order.now)) c.args.at.0) c.in-Target.y.0 c.requires.parted.1
    (sym c.read.ensures ∙ c.in-Target.is) c.if-y-x.false
