use Rattle.std.proofs.Common.{◌≡◌, IfSome, drop}
use Rattle.pst_machine_steps.specs.declared.standing.Step.TheVariants.{Switched}
use Rattle.pst_machine_steps.specs.View.{procedure_of}
use Rattle.pst_machine_steps.specs.Live.{IsRoot}
use Rattle.pst_machine_steps.specs.Steps.{IsSeen}
use Rattle.pst_machine_frames.specs.Ready.{Ran, whole, total_of}
use Rattle.pst_machine_frames.proofs.running.go_on.Given as goal

abbrev pub invariant-loop-rest : goal.invariant-loop-rest
invariant-loop-rest g l = record {
  ran : Ran l.code (g.H.HeapAt.state l.fn.heap) (whole l.fn.standing l.fn.frame l.fn.left) Switched (g.H.HeapAt.state l.heap) (whole l.standing l.frame l.left);
  procedure : procedure_of l.code l.frame.procedure ≡ l.procedure;
  top : IsRoot (g.H.HeapAt.state l.heap) l.standing.place l.top.root;
  same : l.top.root ≡ l.fn.top.root;
  last : IfSome l.top.last (IsSeen (g.H.HeapAt.state l.heap) l.standing.place);
  rest : l.rest ≡ drop l.frame.at l.procedure.instructions;
}

abbrev pub decreases-loop-rest : goal.decreases-loop-rest
decreases-loop-rest g l = total_of l.code (g.H.HeapAt.state l.heap) (whole l.standing l.frame l.left)
