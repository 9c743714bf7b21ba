use Rattle.std.proofs.Common.{◌≡◌, ◌+◌, ◌≤◌, ℕ, ◌*◌, drop}
use Rattle.pst_program.specs.Meaning.{exec, turns, call}
use Rattle.pst_program.specs.View.{expr_of, actions_of, statements_of, routines_of}
use Rattle.pst_program.specs.declared.block.TypedBlock.{size-TypedBlock}
use Rattle.pst_program.specs.declared.block.TypedStatement.{size-TypedStatement}
use Rattle.pst_eval.specs.Work.{world_of, IsAtWork}
use Rattle.pst_eval.specs.Ends.{deepest}
use Rattle.pst_eval.proofs.run.+run.Given as goal

abbrev pub decreases-run_block : goal.decreases-run_block
decreases-run_block l = l.deep * (2 * deepest l.program.now.procedures.items.items + 3) + 2 * size-TypedBlock l.block.now

abbrev pub decreases-run_body : goal.decreases-run_body
decreases-run_body l = l.deep * (2 * deepest l.program.now.procedures.items.items + 3) + (2 * deepest l.program.now.procedures.items.items + 1)

abbrev pub decreases-run_call : goal.decreases-run_call
decreases-run_call l = l.deep * (2 * deepest l.program.now.procedures.items.items + 3)

abbrev pub decreases-run_called : goal.decreases-run_called
decreases-run_called l = l.deep * (2 * deepest l.program.now.procedures.items.items + 3) + 1

abbrev pub decreases-run_statement : goal.decreases-run_statement
decreases-run_statement l = l.deep * (2 * deepest l.program.now.procedures.items.items + 3) + 2 * size-TypedStatement l.statement.now

abbrev pub decreases-run_while : goal.decreases-run_while
decreases-run_while l = l.deep * (2 * deepest l.program.now.procedures.items.items + 3) + (2 * size-TypedBlock l.body.now + 1)

-- what is left to do comes to what all comes to
abbrev pub invariant-run_block-loop-statement : goal.invariant-run_block-loop-statement
invariant-run_block-loop-statement l = record {
  ready : IsAtWork l.program.shape l.heap l.work.tally;
  fewer : l.work.tally.charges ≤ l.fn.work.tally.charges;
  rest : exec l.program.shape (call (routines_of l.program) l.deep) (statements_of (drop l.statement-index l.statement-items)) l.env.items (world_of l.heap l.work.tally)
      ≡ exec l.program.shape (call (routines_of l.program) l.deep) (actions_of l.block) l.fn.env.items (world_of l.fn.heap l.fn.work.tally);
}

abbrev pub invariant-run_while-turns : goal.invariant-run_while-turns
invariant-run_while-turns l = record {
  ready : IsAtWork l.program.shape l.heap l.work.tally;
  fewer : l.work.tally.charges ≤ l.fn.work.tally.charges;
  rest : (n : ℕ) × (l.work.tally.charges ≤ n)
      × (turns n l.program.shape (expr_of l.e) (exec l.program.shape (call (routines_of l.program) l.deep) (actions_of l.body)) l.line l.env.items (world_of l.heap l.work.tally)
      ≡ turns l.fn.work.tally.charges l.program.shape (expr_of l.e) (exec l.program.shape (call (routines_of l.program) l.deep) (actions_of l.body))
      l.line l.fn.env.items (world_of l.fn.heap l.fn.work.tally));
}

abbrev pub decreases-run_while-turns : goal.decreases-run_while-turns
decreases-run_while-turns l = l.work.tally.charges
