use Rattle.std.proofs.Common.{arith}
use Rattle.pst_line_nodes.proofs.RowWrites.{full_is}
use Rattle.pst_line_nodes.proofs.node.Node.is_full.Goals as goal

pub returns-then-len-limit : goal.returns-then-len-limit
returns-then-len-limit c = full_is _ c.args.self.now c.args.slot.0 c.args.stamp.0 c.args.limit c.as_slice.result.now c.stamp_index.result c.is_none.result c.self.view_is c.as_slice.ensures.value c.requires.row
    (omega (arith, c.if-len-limit.true, c.len.ensures, c.as_slice.ensures.len)) c.stamp_index.ensures.some c.stamp_index.ensures.none c.is_none.ensures
