use Rattle.std.proofs.Common.{◌<◌, length, ap, sym, ◌∙◌, subst, arith}
use Rattle.pst_base.specs.declared.names.TypeNo.{TypeNo}
use Rattle.pst_base.specs.Shape.{root_type, type_at}
use Rattle.pst_base.specs.declared.shape.TypeShape.{TypeShape}
use Rattle.pst_line_nodes.specs.Rows.{since}
use Rattle.pst_line_nodes.proofs.NodeLemmas.{of_node-at}
use Rattle.pst_line_nodes.proofs.nodes.Nodes.is_full.Goals as goal

pub type_at-requires : goal.type_at-requires
type_at-requires c = subst (λ (u : TypeNo). u.0 < length c.args.shape.now) (of_node-at (λ n. n.ty) root_type c.args.self.now c.args.x.0 c.node-node.result.now c.node-node.ensures ∙ sym c.ty.ensures) c.requires.known

pub is_full-requires : goal.is_full-requires
is_full-requires c = record { row = (c.requires.kept.each c.args.x.0 c.node-node.result.now c.node-node.ensures).row }

pub returns : goal.returns
returns c =
    let type_is = of_node-at (λ n. n.ty) root_type c.args.self.now c.args.x.0 c.node-node.result.now c.node-node.ensures ∙ sym c.ty.ensures in
    let limit = c.from.ensures ∙ ap (λ (u : TypeShape). u.limit) c.type_at.ensures ∙ ap (λ (u : TypeNo). (type_at c.args.shape.now u).limit) (sym type_is) in
    let stamped = of_node-at (λ n. length n.stamped) 0 c.args.self.now c.args.x.0 c.node-node.result.now c.node-node.ensures in
    let since_is = of_node-at (λ d. since d c.args.field.0) 0 c.args.self.now c.args.x.0 c.node-node.result.now c.node-node.ensures in (
      λ h. let p = c.is_full.ensures.0 h in record { most_are = omega (arith, p.0, limit, stamped); before = λ e. p.1 (sym since_is ∙ e) },
      λ f. c.is_full.ensures.1 (omega (arith, f.most_are, limit, stamped), λ e. f.before (since_is ∙ e)),
    )
