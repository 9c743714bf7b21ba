-- What a run comes to: this project's own rule of budgets and granted charges.
use Rattle.std.specs.Prelude.{ℕ, ℤ, List, [], ◌∷◌, map, min, None, Bool, true, false, nat_le, slice_get}
use Rattle.pst_base.specs.declared.names.Counts.{Counts}
use Rattle.pst_base.specs.declared.names.RunNo.{RunNo}
use Rattle.pst_base.specs.declared.names.TrapKind.TheVariants.{Budget}
use Rattle.pst_base.specs.Heap.{Heap}
use Rattle.pst_program.specs.declared.calls.ProcCall.{ProcCall}
use Rattle.pst_program.specs.declared.meaning.Ended.{Ended}
use Rattle.pst_program.specs.declared.meaning.Ended.TheVariants.{Done, Trapped as EndedEarly, Stopped}
use Rattle.pst_program.specs.declared.meaning.Value.TheVariants.{Number as ANumber}
use Rattle.pst_program.specs.Syntax.{Routines}
use Rattle.pst_program.specs.Meaning.{World, Ending, Normal, Returned, Trapped, Spent, run_body, call}

-- a call of a run: the procedure by its number, with its arguments
pub record TaskCall : Type 0 where
  pub procedure : ℕ
  pub arguments : List ℤ

-- a call by its number
abbrev pub task_call : ProcCall → TaskCall
task_call c = record { procedure = c.procedure.0; arguments = c.arguments }

abbrev pub calls_of : List ProcCall → List TaskCall
calls_of calls = map task_call calls

-- what is run: the run's number, its calls in order, and how many charges they may take together
pub record Task : Type 0 where
  pub run : RunNo
  pub calls : List TaskCall
  pub budget : ℕ

-- how far a run came, on which heap, with which numbers printed, and what it counted
pub record Outcome : Type 0 where
  pub end : Ended
  pub heap : Heap
  pub printed : List ℤ
  pub counts : Counts

abbrev pub no_counts : Counts
no_counts = record { records = 0; pointer_writes = 0; value_writes = 0 }

-- how a run begins
abbrev pub first_world : RunNo → (charges : ℕ) → Heap → World
first_world run charges heap = record { heap = heap; charges = charges; printed = []; run = run; made = 0; counts = no_counts }

abbrev pub left : Ended → World → Outcome
left end w = record { end = end; heap = w.heap; printed = w.printed; counts = w.counts }

-- a charge was due, and none was left: the budget is used up, or what was granted of it
abbrev pub out_of_charges : (whole : Bool) → (line : ℕ) → Ended
out_of_charges true line = EndedEarly record { kind = Budget; line = line }
out_of_charges false line = Stopped

abbrev pub outcome_of : (whole : Bool) → Ending → Outcome
outcome_of whole (Normal env w) = left Done w
outcome_of whole (Returned v w) = left Done w
outcome_of whole (Trapped t line w) = left (EndedEarly record { kind = t; line = line }) w
outcome_of whole (Spent line w) = left (out_of_charges whole line) w

-- goes on to the next call where one has ended
abbrev pub next_call : Ending → (World → Ending) → Ending
next_call (Normal env w) go = go w
next_call (Returned v w) go = go w
next_call (Trapped t line w) go = Trapped t line w
next_call (Spent line w) go = Spent line w

-- calls in order: each begins with the heap, charges, printed numbers, records made and counts that the one before left
abbrev pub in_order : {C : Type 0} → (C → World → Ending) → List C → World → Ending
in_order one [] w = Returned None w
in_order one (c ∷ calls) w = next_call (one c w) (in_order one calls)

-- what the calls of a run come to on a heap, with so many charges granted, where one call does this
abbrev pub outcome_by : {C : Type 0} → (C → World → Ending) → RunNo → List C → (budget granted : ℕ) → Heap → Outcome
outcome_by one run calls budget granted heap = outcome_of (nat_le budget granted) (in_order one calls (first_world run (min granted budget) heap))

-- what one call does by the tree: its procedure is the first of 256 calls that may be active
abbrev pub one_call : Routines → TaskCall → World → Ending
one_call r c w = run_body r.shape (call r 255) (slice_get r.procedures c.procedure) (map ANumber c.arguments) w

-- what a task comes to on a heap with so many charges granted
-- (carried out by `pst_eval::evaluate`)
abbrev pub outcome : Routines → Task → (granted : ℕ) → Heap → Outcome
outcome r task granted heap = outcome_by (one_call r) task.run task.calls task.budget granted heap
