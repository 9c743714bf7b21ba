use Rattle.std.proofs.Common.{◌≡◌, drop}
use Rattle.pst_program.specs.Outcome.{calls_of, in_order, one_call}
use Rattle.pst_program.specs.View.{routines_of}
use Rattle.pst_eval.specs.Work.{world_of, IsAtWork}
use Rattle.pst_eval.proofs.calls.run_calls.Given as goal

-- what is left to do comes to what all comes to
abbrev pub invariant-loop-call : goal.invariant-loop-call
invariant-loop-call l = record {
  at_work : IsAtWork l.program.shape l.heap l.work.tally;
  rest : in_order (one_call (routines_of l.program)) (calls_of (drop l.call-index l.calls)) (world_of l.heap l.work.tally)
      ≡ in_order (one_call (routines_of l.program)) (calls_of l.calls) (world_of l.fn.heap l.fn.work.tally);
}
