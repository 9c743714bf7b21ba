use Rattle.std.proofs.Common.{◌≡◌, ◌+◌, ◌*◌, ◌++◌, drop}
use Rattle.pst_grammar.specs.declared.statement.Block.{size-Block}
use Rattle.pst_grammar.specs.declared.statement.Statement.{size-Statement}
use Rattle.pst_grammar.specs.View.{phrases_of, statements_of}
use Rattle.pst_notation.specs.Texts.{phrases_text}
use Rattle.pst_notation.proofs.statements.+statements.Given as goal

-- what was put, and what is left to put, is all of it
abbrev pub invariant-put_block-loop-statement : goal.invariant-put_block-loop-statement
invariant-put_block-loop-statement l = l.out.items ++ phrases_text l.indent (statements_of (drop l.statement-index l.statement-items)) ≡ l.fn.out.items ++ phrases_text l.indent (phrases_of l.block)

abbrev pub decreases-put_block : goal.decreases-put_block
decreases-put_block l = 2 * size-Block l.block.now

abbrev pub decreases-put_statement : goal.decreases-put_statement
decreases-put_statement l = 2 * size-Statement l.statement.now

abbrev pub decreases-put_guarded : goal.decreases-put_guarded
decreases-put_guarded l = 2 * size-Block l.block.now + 1

abbrev pub decreases-put_else : goal.decreases-put_else
decreases-put_else l = 2 * size-Block l.block.now + 1
