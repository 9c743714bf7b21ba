use Rattle.std.proofs.Common.{◌≡◌, drop}
use Rattle.pst_grammar.specs.View as tree_view
use Rattle.pst_program.specs.View as typed_view
use Rattle.pst_typing.specs.Statements.{block}
use Rattle.pst_types_scope.specs.View.{setting_of}
use Rattle.pst_types_statements.proofs.Blocks.{behind}
use Rattle.pst_types_statements.proofs.statement.+block.Given as goal

abbrev pub invariant-judge_block-loop-statement : goal.invariant-judge_block-loop-statement
invariant-judge_block-loop-statement l =
    behind (typed_view.statements_of l.items.items) (block (setting_of l.setting)
    (tree_view.statements_of (drop l.statement-index l.statement-items))) ≡ block (setting_of l.setting) (tree_view.phrases_of l.fn.statements)
