use Rattle.std.proofs.Common.{◌≡◌, ◌+◌, ◌*◌, max, ◌++◌, drop, length}
use Rattle.pst_program.specs.declared.block.TypedBlock.{size-TypedBlock}
use Rattle.pst_program.specs.declared.block.TypedStatement.{size-TypedStatement}
use Rattle.pst_program.specs.View.{actions_of, statements_of}
use Rattle.pst_translation.specs.Code.{block_code}
use Rattle.pst_translation.specs.Needs.{temp_of}
use Rattle.pst_codegen_expressions.specs.Ready.{HasNoted, AreReady}
use Rattle.pst_codegen.proofs.blocks.+blocks.Given as goal

abbrev pub invariant-emit_block-loop-statement : goal.invariant-emit_block-loop-statement
invariant-emit_block-loop-statement l = record {
  ready : AreReady l.layout.shape.now (HasNoted l.layout.table) (statements_of (drop l.statement-index l.statement-items));
  rest : l.code.items ++ block_code l.layout.shape.now (temp_of l.layout.locals l.layout.table) (statements_of (drop l.statement-index l.statement-items)) (l.at + length l.code.items)
      ≡ block_code l.layout.shape.now (temp_of l.layout.locals l.layout.table) (actions_of l.block) l.at;
}

abbrev pub decreases-emit_block : goal.decreases-emit_block
decreases-emit_block l = 2 * size-TypedBlock l.block.now

abbrev pub decreases-emit_statement : goal.decreases-emit_statement
decreases-emit_statement l = 2 * size-TypedStatement l.statement.now

abbrev pub decreases-emit_if : goal.decreases-emit_if
decreases-emit_if l = 2 * size-TypedBlock l.yes.now + 1

abbrev pub decreases-emit_either : goal.decreases-emit_either
decreases-emit_either l = 2 * max (size-TypedBlock l.yes.now) (size-TypedBlock l.no.now) + 1

abbrev pub decreases-emit_while : goal.decreases-emit_while
decreases-emit_while l = 2 * size-TypedBlock l.body.now + 1
