use Rattle.std.proofs.Common.{List, sym, ◌∙◌, subst}
use Rattle.std.proofs.Math.ListN.{set}
use Rattle.pst_line_nodes.specs.Seen.{Seen}
use Rattle.pst_line_nodes.specs.Rows.{since}
use Rattle.pst_line_nodes.specs.Nodes.{AreKept, line_of, IsFieldSet}
use Rattle.pst_line_nodes.proofs.Results.{on_ok_map}
use Rattle.pst_line_nodes.proofs.NodeLemmas.{of_node-at, get-index, field_set, kept_field}
use Rattle.pst_line_nodes.proofs.nodes.Nodes.set.Goals as goal

pub set-requires-clause-row : goal.set-requires-clause-row
set-requires-clause-row c = (c.requires.kept.1.each c.args.x.0 c.index_mut-node.result.now (get-index c.self.inside.list.items c.args.self.now c.args.x.0 c.index_mut-node.result.now c.self.view_is c.requires.there c.index_mut-node.ensures.value)).row

pub set-requires-clause-slot : goal.set-requires-clause-slot
set-requires-clause-slot c = c.requires.slot c.index_mut-node.result.now (get-index c.self.inside.list.items c.args.self.now c.args.x.0 c.index_mut-node.result.now c.self.view_is c.requires.there c.index_mut-node.ensures.value)

pub returns-clause-ok : goal.returns-clause-ok
returns-clause-ok c =
    let at = get-index c.self.inside.list.items c.args.self.now c.args.x.0 c.index_mut-node.result.now c.self.view_is c.requires.there c.index_mut-node.ensures.value in
    on_ok_map c.set.result _ _ (λ s made. subst (λ (xs : List Seen). IsFieldSet (line_of made c.args.self.now) (line_of made (set xs c.args.x.0 c.set.new.self)) c.args.x.0 c.args.slot.0 c.args.stamp.0 c.args.content) (sym c.self.view_is)
    (field_set made c.args.self.now c.args.x.0 c.index_mut-node.result.now c.set.new.self c.args.slot.0 c.args.stamp.0 c.args.content at c.requires.there s)) c.set.ensures.ok

pub returns-clause-replaces : goal.returns-clause-replaces
returns-clause-replaces c =
    let at = get-index c.self.inside.list.items c.args.self.now c.args.x.0 c.index_mut-node.result.now c.self.view_is c.requires.there c.index_mut-node.ensures.value in
    λ made e. c.set.ensures.replaces (sym (of_node-at (λ d. since d c.args.slot.0) 0 c.args.self.now c.args.x.0 c.index_mut-node.result.now at) ∙ e)

pub returns-clause-kept : goal.returns-clause-kept
returns-clause-kept c =
    let at = get-index c.self.inside.list.items c.args.self.now c.args.x.0 c.index_mut-node.result.now c.self.view_is c.requires.there c.index_mut-node.ensures.value in
    λ shape kept. subst (λ (xs : List Seen). AreKept shape c.args.stamp.0 (set xs c.args.x.0 c.set.new.self)) (sym c.self.view_is)
    (kept_field shape c.args.self.now c.args.x.0 c.index_mut-node.result.now c.set.new.self c.args.slot.0 c.args.stamp.0 c.args.content c.set.result at kept c.set.ensures.ok c.set.ensures.row c.set.ensures.err)
