use Rattle.std.proofs.Common.{◌≡◌, drop}
use Rattle.pst_grammar.specs.View as tree_view
use Rattle.pst_program.specs.Syntax.{Actions}
use Rattle.pst_typing.specs.Statements.{block}
use Rattle.pst_types_scope.specs.View.{setting_of}
use Rattle.pst_types_statements.proofs.Blocks.{behind}
use Rattle.pst_types_statements.proofs.statement.approve_block.Given as goal

-- what is left gives, behind what was let go, what all of them give
abbrev pub invariant-loop-statement : goal.invariant-loop-statement
invariant-loop-statement l =
    (gone : Actions) × (behind gone (block (setting_of l.setting) (tree_view.statements_of (drop l.statement-index l.statement-items))) ≡ block
    (setting_of l.setting) (tree_view.phrases_of l.fn.statements))
