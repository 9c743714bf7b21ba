use Rattle.std.proofs.Common.{List, ℕ, [], ◌∷◌, ◌++◌, ap, ◌∙◌, subst}
use Rattle.pst_base.specs.Shape.{type_at}
use Rattle.pst_base.specs.declared.shape.TypeShape.{TypeShape}
use Rattle.pst_line_nodes.specs.Seen.{Seen}
use Rattle.pst_line_nodes.specs.Making.{IsNewNode}
use Rattle.pst_line_nodes.proofs.Records.{made_one, made_kept}
use Rattle.pst_line_nodes.proofs.nodes.Nodes.make.Goals as goal

pub returns-clause-made : goal.returns-clause-made
returns-clause-made c =
    let is = c.in_ok-push.ensures.items ∙ ap (λ (xs : List Seen). xs ++ c.in_ok-node.node ∷ []) c.self.view_is in
    let d = subst (λ (k : ℕ). IsNewNode (type_at c.args.shape.now c.args.ty) c.args.name c.args.ty k c.args.stamp.0 c.in_ok-node.node) c.count.ensures
    (subst (λ (u : TypeShape). IsNewNode u c.args.name c.args.ty c.count.result c.args.stamp.0 c.in_ok-node.node) c.type_at.ensures c.in_ok-node.ensures) in
    made_one c.args.shape.now c.args.self.now c.push.new.self.items c.in_ok-node.node c.args.name c.args.ty c.args.stamp.0 is d

pub returns-clause-kept : goal.returns-clause-kept
returns-clause-kept c =
    let is = c.in_ok-push.ensures.items ∙ ap (λ (xs : List Seen). xs ++ c.in_ok-node.node ∷ []) c.self.view_is in
    let d = subst (λ (k : ℕ). IsNewNode (type_at c.args.shape.now c.args.ty) c.args.name c.args.ty k c.args.stamp.0 c.in_ok-node.node) c.count.ensures
    (subst (λ (u : TypeShape). IsNewNode u c.args.name c.args.ty c.count.result c.args.stamp.0 c.in_ok-node.node) c.type_at.ensures c.in_ok-node.ensures) in
    made_kept c.args.shape.now c.args.self.now c.push.new.self.items c.in_ok-node.node c.args.name c.args.ty c.args.stamp.0 is d
