-- Runs of the machine as an engine asks for them: said of the meaning of their code and of the work that they do, and not of
-- frames and registers.
-- Letters: m is the meaning of a program, code is code with a meaning, w work, a a run, s the state of a heap, h and y heaps, c counts, k charges.
use Rattle.std.specs.Prelude.{◌≡◌, ◌⊎◌, ◌≢◌, ◌+◌, ℕ, ◌≤◌, ℤ, true, false, List, [], ◌∷◌, map, min, IsTrue, Option, Some, None}
use Rattle.pst_base.specs.Counts.{counts_plus}
use Rattle.pst_base.specs.declared.names.Counts.{Counts}
use Rattle.pst_base.specs.declared.names.Name.{Name}
use Rattle.pst_base.specs.declared.names.RunNo.{RunNo}
use Rattle.pst_base.specs.declared.names.Trap.{Trap}
use Rattle.pst_base.specs.Heap.{Heap}
use Rattle.pst_program.specs.declared.meaning.Ended.{Ended}
use Rattle.pst_program.specs.declared.meaning.Ended.TheVariants as ended
use Rattle.pst_program.specs.Outcome.{no_counts}
use Rattle.pst_program.specs.Sound.{CountsBelow}
use Rattle.pst_code.specs.declared.procedure.Parts.{Parts}
use Rattle.pst_versions.specs.State.{State, IsSound, Grows, IsFresh}
use Rattle.pst_history.specs.declared.history.NamedCall.{NamedCall}
use Rattle.pst_history.specs.Meaning.{Meaning, Work, CanBeDone, with_calls, fits_one}
use Rattle.pst_engine_runs.specs.Coded.{MeantCode, code_call}
use Rattle.pst_machine.specs.declared.activation.Activation.{Activation}
use Rattle.pst_machine.specs.declared.stage.Stage.{Stage}
use Rattle.pst_machine.specs.declared.stage.Progress.{Progress}
use Rattle.pst_machine.specs.declared.stage.Progress.TheVariants.{Running, Done, Trapped}
use Rattle.pst_machine.specs.Advance.{IsReady, trap_of}
use Rattle.pst_machine.specs.Stands.{Stands}

-- Runs A in slices over places P and references R: where one works, what it printed, when it stands where this work stands
-- on this heap with so many charges granted and so much counted, and when it will by its next slice, with calls that wait.
pub record Runs (P R A : Type 0) : Type 1 where
  pub place : A → P
  pub printed : A → List ℤ
  pub stands : A → State P R → Work → (granted : ℕ) → Heap → Counts → Type 0
  pub waits : A → State P R → Work → (granted : ℕ) → Heap → Counts → Type 0

-- ---- the runs of the machine

-- A run of the machine stands where this work stands on this heap with so many charges granted and so much counted: it can go
-- on, it stands by the definition with the work's calls, and the heap has counted what the run and what others did. One that
-- has trapped takes no more charges.
pub record StandsAs {P R : Type 0} (parts : Parts) (stage : Stage P R) (s : State P R) (w : Work) (granted : ℕ) (h : Heap) (c : Counts) : Type 0 where
  pub works : stage.failed ≡ false
  pub run : stage.standing.run ≡ w.run
  pub budget : stage.budget ≡ w.budget
  pub granted_is : trap_of stage.ended ≡ None → stage.granted ≡ granted
  pub granted_within : stage.granted ≤ granted
  pub ready : IsReady parts s stage
  pub others : Counts
  pub counts : s.counts ≡ counts_plus c others
  pub stands : Stands parts (map (code_call parts) w.calls) h others s stage

-- a run is at rest: its charges are used, or all its calls have ended
pub record IsAtRest {P R : Type 0} (stage : Stage P R) : Type 0 where
  pub charged : stage.under_way ≡ true → stage.standing.left ≡ 0
  pub none_waits : stage.under_way ≡ false → stage.waiting ≡ []

abbrev pub RestsWhere : {P R : Type 0} → Option Trap → Stage P R → Type 0
RestsWhere None stage = IsAtRest stage
RestsWhere (Some t) stage = Unit {0}

-- the runs of the machine, each with its stage; calls that wait are part of where one stands
abbrev pub runs_of : {P R A : Type 0} → (A → Stage P R) → Parts → Runs P R A
runs_of stage parts = record {
  place = λ a. (stage a).standing.place;
  printed = λ a. (stage a).standing.printed.items;
  stands = λ a s w granted h c. StandsAs parts (stage a) s w granted h c × RestsWhere (trap_of (stage a).ended) (stage a);
  waits = λ a s w granted h c. StandsAs parts (stage a) s w granted h c;
}

-- the activations of the machine on code with these parts
abbrev pub machine_runs : {H P R : Type 0} → Parts → Runs P R (Activation H R P)
machine_runs parts = runs_of (λ a. a.stage) parts

-- how a slice ended
abbrev pub ended_of : Progress → Ended
ended_of Running = ended.Stopped
ended_of Done = ended.Done
ended_of (Trapped t) = ended.Trapped t

-- the call of the procedure with this name, with these arguments
abbrev pub named : List ℕ → List ℤ → NamedCall
named procedure arguments = record { procedure = procedure; arguments = arguments }

-- ---- what a run needs

-- a run can begin at a place, and no record at any place has its number
pub record IsFreeFor {P R : Type 0} (m : Meaning) (s : State P R) (at : P) (run : RunNo) : Type 0 where
  pub sound : IsSound s
  pub shape : s.shape ≡ m.shape
  pub has : s.has at
  pub fresh : (n : Name) → n.run ≡ run → IsFresh s n

-- what other runs may do meanwhile: the heap at the place of a run stays, they give no name of its number, and no count falls
pub record SparesRun {P R : Type 0} (s t : State P R) (at : P) (run : RunNo) : Type 0 where
  pub grows : Grows s t
  pub heap : t.heap at ≡ s.heap at
  pub writable : s.writable at → t.writable at
  pub fresh : (n : Name) → n.run ≡ run → IsFresh s n → IsFresh t n
  pub counts : CountsBelow s.counts t.counts

-- a run waits for its next slice: its work can be done on the heap that it began with
pub record IsWaiting {P R A : Type 0} (m : Meaning) (x : Runs P R A) (s : State P R) (a : A) (w : Work) (granted : ℕ) (h : Heap) (c : Counts) : Type 0 where
  pub ready : CanBeDone m w h
  pub granted_within : granted ≤ w.budget
  pub waits : x.waits a s w granted h c

-- so an activation of code, with some work
abbrev pub WaitsForSome : {H P R : Type 0} → MeantCode → State P R → Activation H R P → Type 0
WaitsForSome code s a = (w : Work) × (k : ℕ) × (y : Heap) × (c : Counts) × IsWaiting code.meaning (machine_runs code.parts) s a w k y c

-- one call more can be added: that of a query, or at a place that can be written
pub record MayAdd {P R A : Type 0} (m : Meaning) (x : Runs P R A) (s : State P R) (a : A) (w : Work) (granted : ℕ) (h : Heap) (c : Counts) (call : NamedCall) : Type 0 where
  pub stands : x.stands a s w granted h c
  pub ready : CanBeDone m (with_calls w (call ∷ [])) h
  pub writable : IsTrue (fits_one (m.query call.procedure) call.arguments) ⊎ s.writable (x.place a)

-- so to the work of an activation of code
abbrev pub MayAddSome : {H P R : Type 0} → MeantCode → State P R → Activation H R P → NamedCall → Type 0
MayAddSome code s a call = (w : Work) × (k : ℕ) × (y : Heap) × (c : Counts) × MayAdd code.meaning (machine_runs code.parts) s a w k y c call

-- ---- what a run does

-- a run without a call stands where its work stands before the first charge
abbrev pub StandsBare : {H P R : Type 0} → MeantCode → State P R → (at : P) → RunNo → (budget : ℕ) → Activation H R P → Type 0
StandsBare code s at run budget a =
    IsFreeFor code.meaning s at run → (machine_runs code.parts).stands a s (record { run = run; calls = []; budget = budget }) 0 (s.heap at) no_counts

-- with a call more it waits where the work with that call stands
abbrev pub WaitsWithCall : {H P R : Type 0} → MeantCode → State P R → (old : Activation H R P) → NamedCall → (new : Activation H R P) → Type 0
WaitsWithCall code s a call b =
    (w : Work) (k : ℕ) (y : Heap) (c : Counts) → MayAdd code.meaning (machine_runs code.parts) s a w k y c call
    → (machine_runs code.parts).waits b s (with_calls w (call ∷ [])) k y c

-- A slice of a run: it stands where its work stands with these charges, and has the heap, the printed numbers and the end of
-- that outcome. What it counts is counted, and it gives only names of its own number.
pub record RanOn {P R A : Type 0} (m : Meaning) (x : Runs P R A) (s : State P R) (a : A) (w : Work) (granted : ℕ) (h : Heap) (c : Counts) (end : Ended) (t : State P R) (b : A) : Type 0 where
  pub place : x.place b ≡ x.place a
  pub stands : x.stands b t w granted h (m.outcome w granted h).counts
  pub heap : t.heap (x.place a) ≡ (m.outcome w granted h).heap
  pub printed : x.printed b ≡ (m.outcome w granted h).printed
  pub is_end : end ≡ (m.outcome w granted h).end
  pub counts : counts_plus t.counts c ≡ counts_plus s.counts (m.outcome w granted h).counts
  pub names : (n : Name) → n.run ≢ w.run → IsFresh s n → IsFresh t n

-- so many charges more are granted, never more than the budget in all
abbrev pub AdvancedBy : {H P R : Type 0} → MeantCode → State P R → (old : Activation H R P) → (charges : ℕ) → State P R → (new : Activation H R P) → Ended → Type 0
AdvancedBy code s a charges t b end =
    (w : Work) (k : ℕ) (y : Heap) (c : Counts) → IsWaiting code.meaning (machine_runs code.parts) s a w k y c
    → RanOn code.meaning (machine_runs code.parts) s a w (min (k + charges) w.budget) y c end t b

-- ---- laws

-- a run that stands waits for its next slice
abbrev pub StandingWaits : {P R A : Type 0} → Runs P R A → State P R → Type 0
StandingWaits {P} {R} {A} x s = (a : A) (w : Work) (granted : ℕ) (h : Heap) (c : Counts) → x.stands a s w granted h c → x.waits a s w granted h c

-- a run stands where it stood, whatever other runs did meanwhile
abbrev pub SurvivesOthers : {P R A : Type 0} → Runs P R A → (s t : State P R) → Type 0
SurvivesOthers {P} {R} {A} x s t = (a : A) (w : Work) (granted : ℕ) (h : Heap) (c : Counts) → x.stands a s w granted h c → SparesRun s t (x.place a) w.run → x.stands a t w granted h c
