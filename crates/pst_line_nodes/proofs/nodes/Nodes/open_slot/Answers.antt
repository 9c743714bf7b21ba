use Rattle.std.proofs.Common.{None, ap, sym, ◌∙◌, arith}
use Rattle.pst_base.specs.declared.names.TypeNo.{TypeNo}
use Rattle.pst_base.specs.Shape.{root_type, type_at}
use Rattle.pst_line_nodes.specs.Full.{is_other_entry}
use Rattle.pst_line_nodes.specs.Nodes.{entry_of}
use Rattle.pst_line_nodes.proofs.NodeLemmas.{of_node-at}
use Rattle.pst_line_nodes.proofs.Results.{if_some_map, if_none_map}
use Rattle.pst_line_nodes.proofs.nodes.Nodes.open_slot.Goals as goal

pub returns-clause-some : goal.returns-clause-some
returns-clause-some c = if_some_map c.open_slot.result _ _ (λ u p shape t made k.
    let later = sym (of_node-at (λ n. n.later) None c.args.self.now c.args.z.0 c.node.result.now c.node.ensures) ∙ c.requires.newest.last in
    let slots = (k.each c.args.z.0 c.node.result.now c.node.ensures).slots later in
    let types = ap (λ (y : TypeNo). (type_at shape y).limit) (of_node-at (λ n. n.ty) root_type c.args.self.now c.args.z.0 c.node.result.now c.node.ensures) in
    record { below = omega (arith, p.0, slots, types); free = ap (is_other_entry c.args.x.0 c.args.field.0) (of_node-at (λ d. entry_of d u.0) None c.args.self.now c.args.z.0 c.node.result.now c.node.ensures) ∙ p.1 }) c.open_slot.ensures.some

pub returns-clause-none : goal.returns-clause-none
returns-clause-none c = if_none_map c.open_slot.result _ _ (λ p shape t made k.
    let later = sym (of_node-at (λ n. n.later) None c.args.self.now c.args.z.0 c.node.result.now c.node.ensures) ∙ c.requires.newest.last in
    let slots = (k.each c.args.z.0 c.node.result.now c.node.ensures).slots later in
    let types = ap (λ (y : TypeNo). (type_at shape y).limit) (of_node-at (λ n. n.ty) root_type c.args.self.now c.args.z.0 c.node.result.now c.node.ensures) in
    record { others = λ u m. ap (is_other_entry c.args.x.0 c.args.field.0) (of_node-at (λ d. entry_of d u) None c.args.self.now c.args.z.0 c.node.result.now c.node.ensures) ∙ p u (omega (arith, m, slots, types)) }) c.open_slot.ensures.none
