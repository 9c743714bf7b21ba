-- What the flow of statements tells, beside the end that is noted.
use Rattle.std.specs.Prelude.{◌≡◌, Bool, [], Option, Some, None, Result, Ok, Err, IfOk}
use Rattle.pst_base.specs.Heap.{OrdinaryHeap}
use Rattle.pst_program.specs.Value.{Env}
use Rattle.pst_program.specs.Meaning.{Ending}
use Rattle.pst_eval.specs.declared.tally.End.{End}
use Rattle.pst_eval.specs.declared.tally.End.TheVariants.{Normal}
use Rattle.pst_eval.specs.Work.{ending_with}
use Rattle.pst_eval.specs.declared.work.Flow.{Flow}
use Rattle.pst_eval.specs.declared.work.Flow.TheVariants.{On, Over}
use Rattle.pst_eval.specs.declared.work.Work.{Work}

-- how statements ended: such that the next one is carried out, or as was noted
abbrev pub end_of : Flow → End → End
end_of On noted = Normal
end_of Over noted = noted

-- what a condition came to: whether it holds, or the end that was noted
abbrev pub choice_of : Option Bool → End → Result Bool End
choice_of (Some b) noted = Ok b
choice_of None noted = Err noted

-- how a call ended, as was noted; no locals are left
abbrev pub noted_end : OrdinaryHeap → Work → Ending
noted_end h work = ending_with work.end [] h work.tally

-- how statements ended, with the locals, the heap and the tally that they left
abbrev pub flow_end : Flow → Env → OrdinaryHeap → Work → Ending
flow_end flow env h work = ending_with (end_of flow work.end) env h work.tally

-- statements that left these locals, this heap and this work ended so, unless memory was wanting
abbrev pub Leaves : {E : Type 0} → Result Flow E → Env → OrdinaryHeap → Work → Ending → Type 0
Leaves result env h work ending = IfOk result (λ flow. flow_end flow env h work ≡ ending)
