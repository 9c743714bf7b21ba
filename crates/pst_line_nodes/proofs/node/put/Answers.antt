use Rattle.std.proofs.Common.{List, subst, inl}
use Rattle.pst_line_nodes.specs.declared.content.StampedContent.{StampedContent}
use Rattle.pst_line_nodes.specs.Rows.{IsStampAt}
use Rattle.pst_line_nodes.proofs.RowWrites.{replaced_items}
use Rattle.pst_line_nodes.proofs.node.put.Goals as goal

pub returns-in-Some-clause-ok : goal.returns-in-Some-clause-ok
returns-in-Some-clause-ok c =
    let at : IsStampAt c.args.stamped.now.items c.in-Some.i c.args.slot.0 c.args.stamp.0 = subst (λ (xs : List StampedContent). IsStampAt xs c.in-Some.i c.args.slot.0 c.args.stamp.0) c.as_slice.ensures.value c.in-Some.ensures.some in
    record { cases = inl (c.in-Some.i, at, replaced_items c.args.stamped.now.items c.in-Some.i c.index_mut.result.now c.args.content at.there c.index_mut.ensures.value) }
