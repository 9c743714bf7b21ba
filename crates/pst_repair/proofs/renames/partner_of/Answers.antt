use Rattle.std.proofs.Common.{ℕ, sym, ap, ◌∙◌, subst}
use Rattle.pst_mirror.specs.Contents.{Target, From}
use Rattle.pst_order.specs.Places.{rank}
use Rattle.pst_mirror.specs.Mirror.{renamed}
use Rattle.pst_nodes.specs.Arena.{chart, IsAlive}
use Rattle.pst_repair.specs.Steps.{IsPartnerOf}
use Rattle.pst_repair.proofs.RenameLemmas.{pointer_found, partner_of_pointer, partner_of_entry}
use Rattle.pst_repair.proofs.renames.partner_of.Goals as goal

pub entry_slot-requires-clause-alive : goal.entry_slot-requires-clause-alive
entry_slot-requires-clause-alive g c =
    let t = pointer_found (g.O.Order.places c.args.order.now) c.args.nodes.now.list.items c.args.x.0 c.args.z.0 c.args.slot.0
    ((rank (g.O.Order.places c.args.order.now)) c.args.at.0) c.requires.rows c.requires.slot c.requires.renamable c.in-Target.y.0
    (sym c.requires.held ∙ c.in-Target.is) in
    subst (λ (k : ℕ). IsAlive (g.O.Order.places c.args.order.now) c.args.nodes.now.list.items k ((rank (g.O.Order.places c.args.order.now)) c.args.at.0)) (sym c.moved_node-node.ensures) t.2

pub entry_slot-requires-clause-there : goal.entry_slot-requires-clause-there
entry_slot-requires-clause-there g c =
    let t = pointer_found (g.O.Order.places c.args.order.now) c.args.nodes.now.list.items c.args.x.0 c.args.z.0 c.args.slot.0
    ((rank (g.O.Order.places c.args.order.now)) c.args.at.0) c.requires.rows c.requires.slot c.requires.renamable c.in-Target.y.0
    (sym c.requires.held ∙ c.in-Target.is) in (
      t.0,
      ap (λ (k : ℕ). renamed c.args.x.0 c.args.z.0 ((chart (g.O.Order.places c.args.order.now) c.args.nodes.now.list.items).holds k t.0
          ((rank (g.O.Order.places c.args.order.now)) c.args.at.0))) c.moved_node-node.ensures ∙ t.1,
    )

pub returns-in-Target-clause-some : goal.returns-in-Target-clause-some
returns-in-Target-clause-some g c =
    subst (λ (k : ℕ). IsPartnerOf (g.O.Order.places c.args.order.now) c.args.nodes.now.list.items c.args.x.0 c.args.z.0 c.args.slot.0
    ((rank (g.O.Order.places c.args.order.now)) c.args.at.0)
    (record { node = record { 0 = k }; slot = c.entry_slot.result; content = From c.args.z.0 c.args.slot.0 })) (sym c.moved_node-node.ensures)
    (partner_of_pointer (g.O.Order.places c.args.order.now) c.args.nodes.now.list.items c.args.x.0 c.args.z.0 c.args.slot.0
    ((rank (g.O.Order.places c.args.order.now)) c.args.at.0) c.requires.rows c.requires.slot c.requires.renamable c.in-Target.y.0
    c.entry_slot.result.0 (ap (λ (k : ℕ). renamed c.args.x.0 c.args.z.0
    ((chart (g.O.Order.places c.args.order.now) c.args.nodes.now.list.items).holds k c.entry_slot.result.0
    ((rank (g.O.Order.places c.args.order.now)) c.args.at.0))) (sym c.moved_node-node.ensures) ∙ c.entry_slot.ensures.entry))

pub returns-in-From-clause-some : goal.returns-in-From-clause-some
returns-in-From-clause-some g c =
    subst (λ (k : ℕ). IsPartnerOf (g.O.Order.places c.args.order.now) c.args.nodes.now.list.items c.args.x.0 c.args.z.0 c.args.slot.0
    ((rank (g.O.Order.places c.args.order.now)) c.args.at.0)
    (record { node = record { 0 = k }; slot = c.in-From.field; content = Target c.args.z.0 })) (sym c.moved_node.ensures)
    (partner_of_entry (g.O.Order.places c.args.order.now) c.args.nodes.now.list.items c.args.x.0 c.args.z.0 c.args.slot.0
    ((rank (g.O.Order.places c.args.order.now)) c.args.at.0) c.requires.rows c.requires.slot c.requires.renamable c.in-From.y.0 c.in-From.field.0
    (sym c.requires.held ∙ c.in-From.is))
