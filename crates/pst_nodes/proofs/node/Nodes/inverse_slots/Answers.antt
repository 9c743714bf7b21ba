use Rattle.std.proofs.Common.{arith}
use Rattle.pst_nodes.proofs.NodeLemmas.{limit_is, end_is}
use Rattle.pst_nodes.proofs.node.Nodes.inverse_slots.Goals as goal

pub overflow_sub-result : goal.overflow_sub-result
overflow_sub-result c = omega (
  arith,
  end_is c.args.shape.now c.args.self.now.list.items c.args.id.0 c.row.result.now c.requires.typed c.row.ensures,
  limit_is c.args.shape.now c.args.self.now.list.items c.args.id.0 c.ty.result c.type_at.result.now c.ty.ensures c.type_at.ensures,
  c.width-end.ensures,
  c.from.ensures,
)

pub returns-clause-first : goal.returns-clause-first
returns-clause-first c = omega (
  arith,
  end_is c.args.shape.now c.args.self.now.list.items c.args.id.0 c.row.result.now c.requires.typed c.row.ensures,
  limit_is c.args.shape.now c.args.self.now.list.items c.args.id.0 c.ty.result c.type_at.result.now c.ty.ensures c.type_at.ensures,
  c.width-end.ensures,
  c.from.ensures,
)

pub returns-clause-end : goal.returns-clause-end
returns-clause-end c = omega (arith, end_is c.args.shape.now c.args.self.now.list.items c.args.id.0 c.row.result.now c.requires.typed c.row.ensures, c.width-end.ensures)
