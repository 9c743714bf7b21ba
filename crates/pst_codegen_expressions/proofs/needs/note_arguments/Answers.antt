use Rattle.pst_codegen_expressions.specs.Ready.{HasAll}
use Rattle.pst_codegen_expressions.proofs.Turns.{arguments_left, arguments_noted}
use Rattle.pst_codegen_expressions.proofs.needs.note_arguments.Goals as goal

pub loop-e-preserved : goal.loop-e-preserved
loop-e-preserved c = record {
  ready = arguments_left c.args.shape.now HasAll c.args.list.now c.loop-e.e-index c.e-item.result c.loop-e.level c.loop-e-test.true c.e-item.is c.loop-e.invariant.ready;
  rest = arguments_noted c.args.shape.now c.args.list.now c.loop-e.e-index c.e-item.result c.loop-e.level _ _ _ c.loop-e-test.true c.e-item.is c.in_ok-note_expr.ensures c.loop-e.invariant.rest;
}
