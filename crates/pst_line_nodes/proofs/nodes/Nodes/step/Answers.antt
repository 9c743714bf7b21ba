use Rattle.std.proofs.Common.{sym, ◌∙◌, arith, ap}
use Rattle.std.specs.Option.{option_map}
use Rattle.pst_base.specs.declared.names.NodeId.{NodeId}
use Rattle.pst_line_nodes.proofs.NodeLemmas.{later_of, none_later, over_none, over_late}
use Rattle.pst_line_nodes.proofs.nodes.Nodes.step.Goals as goal

pub begins-requires : goal.begins-requires
begins-requires c =
    let later = later_of c.args.self.now c.args.id.0 c.node.result.now c.in-Some.next.0 c.node.ensures (sym c.next.ensures ∙ ap (option_map (λ (i : NodeId). i.0)) c.in-Some.is) in
    record { there = ((c.requires.linked).next c.args.id.0 c.in-Some.next.0 c.requires.there later).0 }

pub returns-then-begins-at-clause-some : goal.returns-then-begins-at-clause-some
returns-then-begins-at-clause-some c =
    let later = later_of c.args.self.now c.args.id.0 c.node.result.now c.in-Some.next.0 c.node.ensures (sym c.next.ensures ∙ ap (option_map (λ (i : NodeId). i.0)) c.in-Some.is) in
    record { later = later; there = ((c.requires.linked).next c.args.id.0 c.in-Some.next.0 c.requires.there later).0; first = omega (arith, c.if-begins-at.true, c.begins.ensures) }

pub returns-else-begins-at-clause-none : goal.returns-else-begins-at-clause-none
returns-else-begins-at-clause-none c =
    let later = later_of c.args.self.now c.args.id.0 c.node.result.now c.in-Some.next.0 c.node.ensures (sym c.next.ensures ∙ ap (option_map (λ (i : NodeId). i.0)) c.in-Some.is) in
    over_late c.args.self.now c.args.id.0 c.args.at.0 c.in-Some.next.0 later (omega (arith, c.if-begins-at.false, c.begins.ensures))

pub returns-in-None-clause-none : goal.returns-in-None-clause-none
returns-in-None-clause-none c =
    over_none c.args.self.now c.args.id.0 c.args.at.0 (none_later c.args.self.now c.args.id.0 c.node.result.now c.node.ensures (sym c.next.ensures ∙ ap (option_map (λ (i : NodeId). i.0)) c.in-None.is))
