use Rattle.std.proofs.Common.{List, get_or, length, ap, sym, ◌∙◌, arith}
use Rattle.std.proofs.lemmas.Option.{get_or_from_slice_get}
use Rattle.pst_line_nodes.specs.declared.content.Content.{Content}
use Rattle.pst_line_nodes.specs.declared.content.Content.TheVariants.{Null}
use Rattle.pst_line_nodes.specs.Seen.{Seen}
use Rattle.pst_line_nodes.specs.Copying.{no_node, node_at}
use Rattle.pst_line_nodes.proofs.Renames.{renamed_more, base_kept, count_kept, renamed_all}
use Rattle.pst_line_nodes.proofs.nodes.Nodes.rename_partners.Goals as goal

pub base-content-requires : goal.base-content-requires
base-content-requires c =
    let same = base_kept c.args.self.now c.loop-slot.self c.args.z.0 c.loop-slot.invariant.same in
    let node = get_or_from_slice_get c.args.self.now c.args.z.0 c.node.result.now no_node c.node.ensures in
    let now = get_or_from_slice_get c.loop-slot.self c.args.z.0 c.node-in-loop-slot.result.now no_node c.node-in-loop-slot.ensures in
    let width = ap length (ap (λ (n : Seen). n.base) (sym now) ∙ same ∙ ap (λ (n : Seen). n.base) node) in
    record { slot = omega (arith, width, c.loop-slot-test.true, c.loop-slot.auto.slot-end, c.width-slot-end.ensures) }

pub rename_partner-requires : goal.rename_partner-requires
rename_partner-requires c =
    let same = base_kept c.args.self.now c.loop-slot.self c.args.z.0 c.loop-slot.invariant.same in
    let now = get_or_from_slice_get c.loop-slot.self c.args.z.0 c.node-in-loop-slot.result.now no_node c.node-in-loop-slot.ensures in
    let is = ap (λ (xs : List Content). get_or xs c.loop-slot.slot Null) (sym same ∙ ap (λ (n : Seen). n.base) now) ∙ sym c.base-content.ensures in
    λ y e. omega (arith, c.requires.targets c.loop-slot.slot y (is ∙ e), count_kept c.args.self.now c.loop-slot.self c.loop-slot.invariant.same)

pub loop-slot-preserved : goal.loop-slot-preserved
loop-slot-preserved c =
    let same = base_kept c.args.self.now c.loop-slot.self c.args.z.0 c.loop-slot.invariant.same in
    let now = get_or_from_slice_get c.loop-slot.self c.args.z.0 c.node-in-loop-slot.result.now no_node c.node-in-loop-slot.ensures in
    let is = ap (λ (xs : List Content). get_or xs c.loop-slot.slot Null) (sym same ∙ ap (λ (n : Seen). n.base) now) ∙ sym c.base-content.ensures in
    renamed_more c.args.self.now c.loop-slot.self c.rename_partner.new.self c.args.x.0 c.args.z.0 c.base-content.result (node_at c.args.self.now c.args.z.0) c.loop-slot.slot c.requires.apart c.loop-slot.invariant c.rename_partner.ensures (sym is)

pub returns : goal.returns
returns c =
    let node = get_or_from_slice_get c.args.self.now c.args.z.0 c.node.result.now no_node c.node.ensures in
    let width = ap (λ (n : Seen). length n.base) node in
    renamed_all c.args.self.now c.loop-slot.self c.args.x.0 c.args.z.0 (node_at c.args.self.now c.args.z.0) c.loop-slot.slot (length (node_at c.args.self.now c.args.z.0).base) (omega (arith, width, c.loop-slot-test.false, c.loop-slot.auto.slot-end, c.width-slot-end.ensures)) c.loop-slot.invariant
