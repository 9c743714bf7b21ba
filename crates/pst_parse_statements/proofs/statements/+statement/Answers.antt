use Rattle.std.proofs.Common.{arith, ◌∙◌, ap, sym}
use Rattle.std.specs.Prelude.{map}
use Rattle.std.proofs.lemmas.Result.{err_from_is_err_and}
use Rattle.pst_grammar.specs.Reader.{Got, and_then}
use Rattle.pst_grammar.specs.Statements.{reading_statement, starts, block_of}
use Rattle.pst_parse_statements.specs.View.{stated_of}
use Rattle.pst_parse_expressions.specs.View.{lexemes_of}
use Rattle.pst_parse_statements.proofs.Loops.{loop_more, loop_done, loop_bad, stops_bind}
use Rattle.pst_grammar.proofs.StatementAgain.{statement_short}
use Rattle.pst_parse_statements.proofs.StatementEquations.{made_block, statement-other}
use Rattle.pst_parse_statements.proofs.statements.+statement.Goals as goal

pub block-returns-in_err-statement-clause-given : goal.block-returns-in_err-statement-clause-given
block-returns-in_err-statement-clause-given t c =
    let p = err_from_is_err_and c.from_residual.result c.from_residual.ensures.1 in
    rw (p.1, p.2) (stops_bind _ (λ ss. Got (block_of ss)) _
    (loop_bad starts (reading_statement c.args.language c.args.height c.args.nesting) stated_of _ _ _ _
    (statement_short c.args.language c.args.height c.args.nesting) c.loop-alloc-test.ensures c.in_err-statement.ensures.given c.loop-alloc.invariant.1))

pub block-loop-alloc-preserved : goal.block-loop-alloc-preserved
block-loop-alloc-preserved t c = (
  omega (arith, c.in_ok-statement.ensures.shorter, c.loop-alloc.invariant.0),
  loop_more starts (reading_statement c.args.language c.args.height c.args.nesting) stated_of _ _ c.in_ok-statement.statement _ _ _
      (statement_short c.args.language c.args.height c.args.nesting) c.in_ok-put.ensures
      c.loop-alloc-test.ensures c.in_ok-statement.ensures.given c.loop-alloc.invariant.1,
)

pub block-returns-clause-given : goal.block-returns-clause-given
block-returns-clause-given t c =
    ap (λ r. and_then r (λ ss. Got (block_of ss))) (loop_done starts (reading_statement c.args.language c.args.height c.args.nesting) stated_of
    c.loop-alloc.items.items _ _ c.loop-alloc-test.ensures c.loop-alloc.invariant.1)
    ∙ ap (λ ss. Got (block_of (map stated_of ss)) (lexemes_of c.loop-alloc.rest.now)) (sym c.shrink_to_fit.ensures.items)
    ∙ ap (λ b. Got b (lexemes_of c.loop-alloc.rest.now)) (sym (made_block (record { items = c.shrink_to_fit.new.self })))

pub statement-returns-in_default-first : goal.statement-returns-in_default-first
statement-returns-in_default-first t c =
    record { given = rw c.in-Some.ensures.seen (statement-other _ _ _ _ _ c.in_default-first.not-Name c.in_default-first.not-Leading); shorter = tt }
