use Rattle.std.proofs.Common.{IfSome}
use Rattle.pst_machine_steps.specs.declared.standing.Step.TheVariants.{Switched}
use Rattle.pst_machine_steps.specs.Live.{IsRoot}
use Rattle.pst_machine_steps.specs.Steps.{IsSeen}
use Rattle.pst_machine_frames.specs.Ready.{Ran, whole, total_of}
use Rattle.pst_machine_frames.proofs.running.run_frames.Given as goal

abbrev pub invariant-loop-step : goal.invariant-loop-step
invariant-loop-step g l = record {
  ran : Ran l.code (g.H.HeapAt.state l.fn.heap) (whole l.fn.standing l.fn.frame l.fn.left) Switched (g.H.HeapAt.state l.heap) (whole l.standing l.frame l.left);
  top : IsRoot (g.H.HeapAt.state l.heap) l.standing.place l.top.root;
  last : IfSome l.top.last (IsSeen (g.H.HeapAt.state l.heap) l.standing.place);
}

abbrev pub decreases-loop-step : goal.decreases-loop-step
decreases-loop-step g l = total_of l.code (g.H.HeapAt.state l.heap) (whole l.standing l.frame l.left)
