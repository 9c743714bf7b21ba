use Rattle.std.proofs.Common.{refl, subst}
use Rattle.pst_base.specs.Shape.{type_at}
use Rattle.pst_image_rules.specs.Sides.{IsSlotOf}
use Rattle.pst_image_rules.proofs.Held.{mirrored_pointers, mirrored_entries}
use Rattle.pst_image_rules.proofs.sides.is_mirrored_at.Goals as goal

pub returns-in-Pointers : goal.returns-in-Pointers
returns-in-Pointers c =
    mirrored_pointers c.args.shape.now c.args.nodes.now c.args.side c.args.node c.args.slot.0 c.args.place c.is_pointer_entered.result c.in-Pointers.is
    (subst (λ t. IsSlotOf c.args.side (type_at c.args.shape.now t) c.args.slot.0) c.type_of.ensures (c.if-not-is_slot_of.ensures.0 refl)) c.is_pointer_entered.ensures

pub returns-in-Entries : goal.returns-in-Entries
returns-in-Entries c =
    mirrored_entries c.args.shape.now c.args.nodes.now c.args.side c.args.node c.args.slot.0 c.args.place c.is_entry_pointed.result c.in-Entries.is
    (subst (λ t. IsSlotOf c.args.side (type_at c.args.shape.now t) c.args.slot.0) c.type_of.ensures (c.if-not-is_slot_of.ensures.0 refl)) c.is_entry_pointed.ensures
