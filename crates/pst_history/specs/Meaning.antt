-- What a history needs to know of a program: its record types, its procedures, and what a run comes to.
-- A program has such a meaning by its tree, and compiled code by its instructions: all that is said of histories holds of both.
use Rattle.std.specs.Prelude.{◌≡◌, ◌≢◌, ◌⊎◌, ℕ, ◌+◌, ◌≤◌, List, [], ◌∷◌, ◌++◌, slice_get, Option, Some, None, IsTrue, Bool, true, false, not, ℤ, if◌then◌else◌}
use Rattle.pst_base.specs.declared.names.RunNo.{RunNo}
use Rattle.pst_base.specs.declared.names.Kind.{Kind}
use Rattle.pst_base.specs.declared.names.Kind.TheVariants.{Int, Pointer}
use Rattle.pst_base.specs.declared.shape.TypeShape.{TypeShape}
use Rattle.pst_base.specs.Heap.{Heap, IsWellFormed}
use Rattle.pst_base.specs.Shape.{IsValid}
use Rattle.pst_script.specs.declared.reply.Refusal.{Refusal}
use Rattle.pst_script.specs.declared.reply.Refusal.TheVariants as because
use Rattle.pst_program.specs.Outcome.{Outcome, left, first_world}
use Rattle.pst_program.specs.Sound.{CountsBelow, CountsWithin}
use Rattle.pst_program.specs.Laws.{IsOlder}
use Rattle.pst_program.specs.declared.meaning.Ended.TheVariants.{Stopped, Done, Trapped}
use Rattle.pst_base.specs.declared.names.Trap.{Trap}
use Rattle.pst_history.specs.declared.history.NamedCall.{NamedCall}

-- what is executed: calls in order, each of a procedure by name with its arguments, under a run number and one budget
pub record Work : Type 0 where
  pub run : RunNo
  pub calls : List NamedCall
  pub budget : ℕ

-- the same with more calls
abbrev pub with_calls : Work → List NamedCall → Work
with_calls w more = record w { calls = w.calls ++ more }

-- the meaning of a program: its record types, the parameters of a procedure that may write and of a query by their names,
-- and the outcome of work with the charges granted so far on a heap
pub record Meaning : Type 0 where
  pub shape : List TypeShape
  pub proc : List ℕ → Option (List Kind)
  pub query : List ℕ → Option (List Kind)
  pub outcome : Work → ℕ → Heap → Outcome

-- ---- arguments

abbrev pub when : Bool → Refusal → Option Refusal
when b r = if b then Some r else None

-- the arguments are as many as the parameters, and each parameter is a number
abbrev pub fits : List Kind → List ℤ → Bool
fits [] [] = true
fits [] (x ∷ xs) = false
fits (Int ∷ kinds) [] = false
fits (Int ∷ kinds) (x ∷ xs) = fits kinds xs
fits (Pointer ty ∷ kinds) xs = false

-- the procedure is there, and the arguments fit its parameters
abbrev pub fits_one : Option (List Kind) → List ℤ → Bool
fits_one None xs = false
fits_one (Some kinds) xs = fits kinds xs

-- why a procedure with these parameters is not executed: it is not there, or the arguments do not fit
abbrev pub kinds_refusal : Option (List Kind) → List ℤ → Option Refusal
kinds_refusal None xs = Some because.Name
kinds_refusal (Some kinds) xs = when (not (fits kinds xs)) because.Arguments

-- ---- lawful meanings

-- each procedure is there, and the arguments fit it
abbrev pub AllFit : (List ℕ → Option (List Kind)) → List NamedCall → Type 0
AllFit kinds calls = (i : ℕ) (c : NamedCall) → slice_get calls i ≡ Some c → IsTrue (fits_one (kinds c.procedure) c.arguments)

-- what is executed are procedures that may write, or queries, of the program, with arguments that fit
abbrev pub IsWork : Meaning → Work → Type 0
IsWork m w = AllFit m.proc w.calls ⊎ AllFit m.query w.calls

-- the work can be done on the heap, which is well formed and older than the run
pub record CanBeDone (m : Meaning) (w : Work) (h : Heap) : Type 0 where
  pub well_formed : IsWellFormed m.shape h
  pub older : IsOlder h w.run.0
  pub work : IsWork m w

-- what the meaning of a program has to keep, for a history to make sense
pub record IsLawful (m : Meaning) : Type 0 where
  pub valid : IsValid m.shape
  -- the heap stays well formed, and its new records bear the number of the run
  pub well_formed : (w : Work) (granted : ℕ) (h : Heap) → CanBeDone m w h → IsWellFormed m.shape (m.outcome w granted h).heap
  pub names : (w : Work) (granted : ℕ) (h : Heap) → CanBeDone m w h → IsOlder (m.outcome w granted h).heap (w.run.0 + 1)
  -- the whole budget brings it to an end
  pub ends : (w : Work) (h : Heap) → CanBeDone m w h → (m.outcome w w.budget h).end ≢ Stopped
  -- where nothing is called, it has ended on the heap that it began with
  pub idle : (run : RunNo) (budget k : ℕ) (h : Heap) → m.outcome (record { run = run; calls = []; budget = budget }) k h ≡ left Done (first_world run 0 h)
  -- each charge counts for one at most
  pub few : (w : Work) (k : ℕ) (h : Heap) → CanBeDone m w h → CountsWithin (m.outcome w k h).counts w.budget
  -- more charges and more calls count no less
  pub counts : (w : Work) (more : List NamedCall) (k n : ℕ) (h : Heap) → CanBeDone m (with_calls w more) h → k ≤ n → CountsBelow (m.outcome w k h).counts (m.outcome (with_calls w more) n h).counts
  -- more charges change nothing of a run that ended
  pub over : (w : Work) (k n : ℕ) (h : Heap) → CanBeDone m w h → k ≤ n → (m.outcome w k h).end ≢ Stopped → m.outcome w n h ≡ m.outcome w k h
  -- and more calls nothing of one that has trapped
  pub trapped : (w : Work) (more : List NamedCall) (k : ℕ) (h : Heap) (t : Trap) → CanBeDone m (with_calls w more) h → (m.outcome w k h).end ≡ Trapped t → m.outcome (with_calls w more) k h ≡ m.outcome w k h

-- queries write nothing
abbrev pub ReadsOnly : Meaning → Type 0
ReadsOnly m = (w : Work) (granted : ℕ) (h : Heap) → AllFit m.query w.calls → (m.outcome w granted h).heap ≡ h
