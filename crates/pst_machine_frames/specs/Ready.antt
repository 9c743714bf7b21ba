-- Where a run can go on: what the machine keeps from one instruction to the next.
use Rattle.std.specs.Prelude.{◌≡◌, ◌⊎◌, ℕ, ◌+◌, ◌<◌, ◌≤◌, ◌^◌, ℤ, List, [], ◌∷◌, ◌++◌, length, All, false, Option, Some, None}
use Rattle.pst_base.specs.declared.names.TrapKind.{TrapKind}
use Rattle.pst_base.specs.declared.names.TrapKind.TheVariants.{Output}
use Rattle.pst_program.specs.Meaning.{World}
use Rattle.pst_base.specs.declared.names.ProcNo.{ProcNo}
use Rattle.pst_code.specs.declared.instr.Reg.{Reg}
use Rattle.pst_code.specs.declared.instr.Instr.{Instr}
use Rattle.pst_code.specs.declared.instr.Instr.TheVariants.{Call, Return}
use Rattle.pst_code.specs.declared.procedure.Parts.{Parts}
use Rattle.pst_code.specs.Machine.{Frame, Caller, act, next_instr}
use Rattle.pst_code.specs.SoundRuns.{IsSoundRun, outermost}
use Rattle.pst_code.specs.Laws.{Reaches}
use Rattle.pst_code.specs.Falls.{total}
use Rattle.pst_code.specs.Spending.{spendable}
use Rattle.pst_versions.specs.State.{State, WritesStay, IsFresh}
use Rattle.pst_machine_frames.specs.declared.running.Flow.{Flow}
use Rattle.pst_machine_frames.specs.declared.running.Flow.TheVariants as flow
use Rattle.pst_machine_frames.specs.declared.running.Rested.{Rested}
use Rattle.pst_machine_frames.specs.declared.running.Rested.TheVariants as rested
use Rattle.pst_machine_steps.specs.declared.standing.CallFrame.{CallFrame}
use Rattle.pst_machine_steps.specs.declared.standing.Waiting.{Waiting}
use Rattle.pst_machine_steps.specs.declared.standing.Standing.{Standing}
use Rattle.pst_machine_steps.specs.declared.standing.Step.{Step}
use Rattle.pst_machine_steps.specs.declared.standing.Step.TheVariants.{Next, Here, Switched, Waits, Ends, Trap}
use Rattle.pst_machine_steps.specs.View.{procedure_of, frame_of, callers_of, move_of}
use Rattle.pst_machine_steps.specs.Live.{IsLive}
use Rattle.pst_machine_steps.specs.Fields.{world_in, KeepsOthers}

abbrev pub world_of : {P R : Type 0} → State P R → Standing P R → World
world_of s a = world_in s a.place a.left a.printed.items a.run a.made

-- the whole of where a run stands, whose frame and charges are held apart
abbrev pub whole : {P R : Type 0} → Standing P R → CallFrame R → (left : ℕ) → Standing P R
whole a frame left = record a { current = frame; left = left }

abbrev pub current_of : {P R : Type 0} → Parts → State P R → Standing P R → Frame
current_of parts s a = frame_of parts s.name a.current

abbrev pub waiting_of : {P R : Type 0} → Parts → State P R → Standing P R → List Caller
waiting_of parts s a = callers_of parts s.name a.callers.items

-- the references of a frame that waits can be used at a place
abbrev pub IsLiveWaiting : {P R : Type 0} → State P R → P → Waiting R → Type 0
IsLiveWaiting s at w = All (IsLive s at) w.frame.registers.items

-- all references can be used at the place of the run, and few frames wait
pub record AreLive {P R : Type 0} (s : State P R) (a : Standing P R) : Type 0 where
  pub current : All (IsLive s a.place) a.current.registers.items
  pub waiting : All (IsLiveWaiting s a.place) a.callers.items
  pub few : length a.callers.items ≤ 255

-- Where a run of valid code can go on over a heap: the heap has the record types of the code; the place is one of the
-- heap's, and one that can be written where the run may write; the run stands soundly; its references can be used; and no
-- record at any place has a name that the run is still to give.
pub record IsRunning {P R : Type 0} (parts : Parts) (s : State P R) (a : Standing P R) : Type 0 where
  pub shape : s.shape ≡ parts.shape
  pub has : s.has a.place
  pub writable : (outermost (current_of parts s a).procedure (waiting_of parts s a)).query ≡ false → s.writable a.place
  pub sound : IsSoundRun parts (current_of parts s a) (waiting_of parts s a) (world_of s a)
  pub live : AreLive s a
  pub fresh : (k : ℕ) → a.made ≤ k → IsFresh s record { run = a.run; ordinal = k }

-- how many calls, new records and writes the run can still pay for
abbrev pub spendable_of : {P R : Type 0} → Parts → State P R → Standing P R → ℕ
spendable_of parts s a = spendable (current_of parts s a) (waiting_of parts s a) (world_of s a)

-- there are numbers for all records that the run can pay for, and room for all that it can count
pub record IsFunded {P R : Type 0} (parts : Parts) (s : State P R) (a : Standing P R) : Type 0 where
  pub made : a.made + spendable_of parts s a < 2 ^ 32
  pub records : s.counts.records + spendable_of parts s a < 2 ^ 60
  pub pointer_writes : s.counts.pointer_writes + spendable_of parts s a < 2 ^ 60
  pub value_writes : s.counts.value_writes + spendable_of parts s a < 2 ^ 60

-- the frame goes on
abbrev pub StaysInFrame : Step → Type 0
StaysInFrame Next = Unit {0}
StaysInFrame Here = Unit {0}
StaysInFrame Switched = ⊥
StaysInFrame (Waits line) = ⊥
StaysInFrame (Ends v) = ⊥
StaysInFrame (Trap kind) = ⊥

-- a number is printed, or 65,536 have been
abbrev pub Printed : List ℤ → ℤ → Step → List ℤ → Type 0
Printed before n Next after = (length before < 2 ^ 16) × (after ≡ before ++ n ∷ [])
Printed before n (Trap kind) after = (kind ≡ Output) × (2 ^ 16 ≤ length before) × (after ≡ before)
Printed before n Here after = ⊥
Printed before n Switched after = ⊥
Printed before n (Waits line) after = ⊥
Printed before n (Ends v) after = ⊥

-- goes on after a write, or traps
abbrev pub step_of : Option TrapKind → Step
step_of None = Next
step_of (Some kind) = Trap kind

-- what an instruction came to: how the frame goes on, and what is told beside where it does not; None for a call or a return,
-- which is still due
abbrev pub came_to : Flow → (out : Option Step) → Option Step
came_to flow.Next out = Some Next
came_to flow.Behind out = Some Next
came_to flow.Here out = Some Here
came_to flow.Out out = out

-- where the frame does not go on
abbrev pub IfOut : Flow → Type 0 → Type 0
IfOut flow.Next p = Unit {0}
IfOut flow.Behind p = Unit {0}
IfOut flow.Here p = Unit {0}
IfOut flow.Out p = p

-- where the frame goes on behind the instruction
abbrev pub IfNext : Flow → Type 0 → Type 0
IfNext flow.Next p = p
IfNext flow.Behind p = p
IfNext flow.Here p = Unit {0}
IfNext flow.Out p = Unit {0}

-- what a run came to; None for a call or a return, which is still due
abbrev pub came_with : Rested → Option Step
came_with (rested.At step) = Some step
came_with (rested.Due instr) = None

-- where a call or a return is due
abbrev pub IfDue : Rested → (Instr → Type 0) → Type 0
IfDue (rested.At step) p = Unit {0}
IfDue (rested.Due instr) p = p instr.now

-- what an instruction does
pub record Acted {P R : Type 0} (parts : Parts) (s : State P R) (a : Standing P R) (instr : Instr) (step : Step) (t : State P R) (b : Standing P R) : Type 0 where
  pub acts : act parts (Some instr) (current_of parts s a) (waiting_of parts s a) (world_of s a) ≡ move_of step (current_of parts t b) (waiting_of parts t b) (world_of t b)
  pub live : AreLive t b
  pub place : b.place ≡ a.place
  pub run : b.run ≡ a.run
  pub stays : StaysInFrame step → b.current.procedure ≡ a.current.procedure
  pub kept : KeepsOthers a.place s t
  pub writes : WritesStay s t

-- a run goes on, or waits for a charge
abbrev pub IfNotOver : Step → Type 0 → Type 0
IfNotOver Next p = ⊥
IfNotOver Here p = p
IfNotOver Switched p = p
IfNotOver (Waits line) p = p
IfNotOver (Ends v) p = Unit {0}
IfNotOver (Trap kind) p = Unit {0}

-- a run goes on
abbrev pub IfCarriesOn : Step → Type 0 → Type 0
IfCarriesOn Next p = Unit {0}
IfCarriesOn Here p = p
IfCarriesOn Switched p = p
IfCarriesOn (Waits line) p = Unit {0}
IfCarriesOn (Ends v) p = Unit {0}
IfCarriesOn (Trap kind) p = Unit {0}

-- a run leaves its frame, waits or is over
abbrev pub IsOut : Step → Type 0
IsOut Next = ⊥
IsOut Here = ⊥
IsOut Switched = Unit {0}
IsOut (Waits line) = Unit {0}
IsOut (Ends v) = Unit {0}
IsOut (Trap kind) = Unit {0}

-- a run waits or is over
abbrev pub IsRest : Step → Type 0
IsRest Next = ⊥
IsRest Here = ⊥
IsRest Switched = ⊥
IsRest (Waits line) = Unit {0}
IsRest (Ends v) = Unit {0}
IsRest (Trap kind) = Unit {0}

-- no fewer than the instructions that the run can still do
abbrev pub total_of : {P R : Type 0} → Parts → State P R → Standing P R → ℕ
total_of parts s a = total parts (current_of parts s a) (waiting_of parts s a) (world_of s a)

-- fewer instructions are left where a run goes on
abbrev pub Falls : {P R : Type 0} → Parts → State P R → Standing P R → Step → State P R → Standing P R → Type 0
Falls parts s a step t b = IfCarriesOn step (total_of parts t b < total_of parts s a)

-- what a part of a run does: the machine comes to where it stands now, and can go on from there
pub record Ran {P R : Type 0} (parts : Parts) (s : State P R) (a : Standing P R) (step : Step) (t : State P R) (b : Standing P R) : Type 0 where
  pub reaches : Reaches parts (current_of parts s a) (waiting_of parts s a) (world_of s a) (move_of step (current_of parts t b) (waiting_of parts t b) (world_of t b))
  pub running : IfNotOver step (IsRunning parts t b)
  pub funded : IfNotOver step (IsFunded parts t b)
  pub less : IfCarriesOn step (total_of parts t b ≤ total_of parts s a)
  pub live : AreLive t b
  pub place : b.place ≡ a.place
  pub run : b.run ≡ a.run
  pub kept : KeepsOthers a.place s t
  pub writes : WritesStay s t

-- a run leaves its frame, waits or is over, or a call or a return is due
abbrev pub IsOff : Option Step → Type 0
IsOff None = Unit {0}
IsOff (Some step) = IsOut step

-- a call or a return
abbrev pub IsSwitch : Instr → Type 0
IsSwitch instr = ((p : ProcNo) × (into : Option Reg) × (arguments : List Reg) × (instr ≡ Call p into arguments)) ⊎ ((r : Option Reg) × (instr ≡ Return r))

-- a call or a return is due
pub record IsDue {P R : Type 0} (parts : Parts) (s : State P R) (a : Standing P R) : Type 0 where
  pub instr : Instr
  pub is : next_instr (current_of parts s a) ≡ Some instr
  pub switches : IsSwitch instr

-- what a run does up to where its frame does not go on: that comes to an end there, or a call or a return of it is due
abbrev pub Leaves : {P R : Type 0} → Parts → State P R → Standing P R → (out : Option Step) → State P R → Standing P R → Type 0
Leaves parts s a (Some step) t b = Ran parts s a step t b × Falls parts s a step t b × IsOut step
Leaves parts s a None t b = Ran parts s a Switched t b × IsDue parts t b × (procedure_of parts b.current.procedure ≡ procedure_of parts a.current.procedure)

-- the same of one instruction: a call or a return that is due is that instruction
abbrev pub LeavesBy : {P R : Type 0} → Parts → State P R → Standing P R → (out : Option Step) → State P R → Standing P R → Type 0
LeavesBy parts s a (Some step) t b = Leaves parts s a (Some step) t b
LeavesBy parts s a None t b = Leaves parts s a None t b × (next_instr (current_of parts t b) ≡ next_instr (current_of parts s a))

-- what an instruction does, where it came to this
abbrev pub CameTo : {P R : Type 0} → Parts → State P R → Standing P R → Instr → Option Step → State P R → Standing P R → Type 0
CameTo parts s a instr (Some step) t b = Acted parts s a instr step t b
CameTo parts s a instr None t b = LeavesBy parts s a None t b

abbrev pub Came : {P R : Type 0} → Parts → State P R → Standing P R → Instr → Flow → (out : Option Step) → State P R → Standing P R → Type 0
Came parts s a instr flow out t b = CameTo parts s a instr (came_to flow out) t b

-- what one instruction does where the frame goes on
pub record StaysOn {P R : Type 0} (parts : Parts) (s : State P R) (a : Standing P R) (t : State P R) (b : Standing P R) : Type 0 where
  pub ran : Ran parts s a Here t b
  pub less : total_of parts t b < total_of parts s a
  pub stays : b.current.procedure ≡ a.current.procedure

-- what one instruction does, by how the frame goes on
abbrev pub GoesOn : {P R : Type 0} → Parts → State P R → Standing P R → Flow → (out : Option Step) → State P R → Standing P R → Type 0
GoesOn parts s a flow.Next out t b = StaysOn parts s a t b
GoesOn parts s a flow.Behind out t b = StaysOn parts s a t b
GoesOn parts s a flow.Here out t b = StaysOn parts s a t b
GoesOn parts s a flow.Out out t b = LeavesBy parts s a out t b

-- ---- the same of a heap with this state, where the run's current frame and charges are held apart; what it came to stands last

-- what a part of a run does
abbrev pub RanApart : {H P R : Type 0} → (H → State P R) → Parts → (heap : H) → Standing P R → CallFrame R → (left : ℕ) → (heap_after : H) → Standing P R → CallFrame R → (left_after : ℕ) → Step → Type 0
RanApart state parts heap a frame left heap' b frame' left' step = Ran parts (state heap) (whole a frame left) step (state heap') (whole b frame' left')

-- fewer instructions are left where the run goes on
abbrev pub FallsApart : {H P R : Type 0} → (H → State P R) → Parts → (heap : H) → Standing P R → CallFrame R → (left : ℕ) → (heap_after : H) → Standing P R → CallFrame R → (left_after : ℕ) → Step → Type 0
FallsApart state parts heap a frame left heap' b frame' left' step = Falls parts (state heap) (whole a frame left) step (state heap') (whole b frame' left')

-- what the run does up to where its frame does not go on
abbrev pub LeavesApart : {H P R : Type 0} → (H → State P R) → Parts → (heap : H) → Standing P R → CallFrame R → (left : ℕ) → (heap_after : H) → Standing P R → CallFrame R → (left_after : ℕ) → Option Step → Type 0
LeavesApart state parts heap a frame left heap' b frame' left' out = Leaves parts (state heap) (whole a frame left) out (state heap') (whole b frame' left')

-- what one instruction does, by how the frame goes on
abbrev pub GoesOnApart : {H P R : Type 0} → (H → State P R) → Parts → (heap : H) → Standing P R → CallFrame R → (left : ℕ) → (out : Option Step) → (heap_after : H) → Standing P R → CallFrame R → (left_after : ℕ) → Flow → Type 0
GoesOnApart state parts heap a frame left out heap' b frame' left' flow = GoesOn parts (state heap) (whole a frame left) flow out (state heap') (whole b frame' left')

-- what an instruction does, where the frame goes on like this
abbrev pub CameApart : {H P R : Type 0} → (H → State P R) → Parts → (heap : H) → Standing P R → CallFrame R → (left : ℕ) → Instr → (out : Option Step) → (heap_after : H) → Standing P R → CallFrame R → (left_after : ℕ) → Flow → Type 0
CameApart state parts heap a frame left instr out heap' b frame' left' flow = Came parts (state heap) (whole a frame left) instr flow out (state heap') (whole b frame' left')
