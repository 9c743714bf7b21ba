use Rattle.std.proofs.Common.{◌≡◌, ap, sym, subst, ◌∙◌}
use Rattle.pst_program.specs.Syntax.{Actions}
use Rattle.pst_program.specs.View.{actions_of, statements_of}
use Rattle.pst_translation.specs.Needs.{block_needs, noted}
use Rattle.pst_codegen_expressions.specs.Ready.{HasAll, AreReady}
use Rattle.pst_codegen_expressions.proofs.Bridge.{block_is_list}
use Rattle.pst_codegen_expressions.proofs.Turns.{statements_left, statements_noted}
use Rattle.pst_codegen_expressions.proofs.needs.+noting.Goals as goal

pub note_block-loop-statement-init : goal.note_block-loop-statement-init
note_block-loop-statement-init t c =
    let same : actions_of c.args.block.now ≡ statements_of c.deref-statement-items.result.now = block_is_list c.args.block.now ∙ sym (ap statements_of c.deref-statement-items.ensures.value) in
    record {
      ready = subst (AreReady c.args.shape.now HasAll) same c.requires;
      rest = ap (λ (a : Actions). noted c.args.table.now (block_needs c.args.shape.now a)) (sym same);
    }

pub note_block-loop-statement-preserved : goal.note_block-loop-statement-preserved
note_block-loop-statement-preserved t c = record {
  ready = statements_left c.args.shape.now HasAll c.deref-statement-items.result.now c.loop-statement.statement-index c.statement-item.result
      c.loop-statement-test.true c.statement-item.is c.loop-statement.invariant.ready;
  rest = statements_noted c.args.shape.now c.deref-statement-items.result.now c.loop-statement.statement-index c.statement-item.result _ _ _
      c.loop-statement-test.true c.statement-item.is c.in_ok-note_statement.ensures c.loop-statement.invariant.rest;
}
