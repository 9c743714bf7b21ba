use Rattle.std.proofs.Common.{◌≡◌, drop}
use Rattle.pst_program.specs.View.{actions_of, statements_of}
use Rattle.pst_translation.specs.Needs.{block_needs, noted}
use Rattle.pst_codegen_expressions.specs.Ready.{HasAll, AreReady}
use Rattle.pst_codegen_expressions.proofs.needs.+noting.Given as goal

abbrev pub invariant-note_block-loop-statement : goal.invariant-note_block-loop-statement
invariant-note_block-loop-statement l = record {
  ready : AreReady l.shape HasAll (statements_of (drop l.statement-index l.statement-items));
  rest : noted l.table (block_needs l.shape (statements_of (drop l.statement-index l.statement-items))) ≡ noted l.fn.table (block_needs l.shape (actions_of l.block));
}
