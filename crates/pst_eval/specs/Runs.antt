-- What is run, and what a run came to.
use Rattle.std.specs.Prelude.{◌≡◌}
use Rattle.pst_base.specs.Heap.{Heap}
use Rattle.pst_program.specs.Outcome.{Task, Outcome as Comes, calls_of}
use Rattle.pst_eval.specs.declared.whole.RunSpec.{RunSpec}
use Rattle.pst_eval.specs.declared.whole.Outcome.{Outcome}

-- the task that a run is given
abbrev pub task_of : RunSpec → Task
task_of s = record { run = s.run; calls = calls_of s.calls.now; budget = s.budget }

-- the answer and the heap that is left are this outcome
pub record IsOutcome (o : Outcome) (heap : Heap) (is : Comes) : Type 0 where
  pub end : o.ended ≡ is.end
  pub heap_left : heap ≡ is.heap
  pub printed : o.printed ≡ is.printed
  pub counts : o.counts ≡ is.counts
