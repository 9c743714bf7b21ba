-- Reads and writes of fields, and new records: what they need, and what they leave of the heap.
use Rattle.std.specs.Prelude.{◌≡◌, ℕ, ◌+◌, ◌<◌, ◌≤◌, ◌^◌, ℤ, List, Option, Some, None, slice_set}
use Rattle.pst_base.specs.declared.names.Kind.{Kind}
use Rattle.pst_base.specs.declared.names.Name.{Name}
use Rattle.pst_base.specs.declared.names.RunNo.{RunNo}
use Rattle.pst_base.specs.declared.shape.TypeShape.{TypeShape}
use Rattle.pst_base.specs.Heap.{kind_in, IsFull}
use Rattle.pst_program.specs.Sound.{IsOf}
use Rattle.pst_base.specs.declared.names.TrapKind.{TrapKind}
use Rattle.pst_base.specs.declared.names.TrapKind.TheVariants.{InDegree}
use Rattle.pst_base.specs.declared.names.TypeNo.{TypeNo}
use Rattle.pst_program.specs.Value.{Env}
use Rattle.pst_program.specs.Meaning.{World, Ending, Normal, Trapped, write}
use Rattle.pst_versions.specs.State.{State, Keeps, OthersStay, WritesStay, HasRoom, PointerStored, Unchanged, Allocated}
use Rattle.pst_machine_steps.specs.declared.register.Register.{Register}
use Rattle.pst_machine_steps.specs.declared.register.Register.TheVariants.{Number, Null, Reference}
use Rattle.pst_machine_steps.specs.declared.standing.CallFrame.{CallFrame}
use Rattle.pst_machine_steps.specs.declared.standing.Step.{Step}
use Rattle.pst_machine_steps.specs.declared.standing.Step.TheVariants.{Next}
use Rattle.pst_machine_steps.specs.View.{value_of}
use Rattle.pst_machine_steps.specs.Live.{IsLive}

-- what all calls of a run share, where its heap is that of a place and its counts are those of all places
abbrev pub world_in : {P R : Type 0} → State P R → (at : P) → (charges : ℕ) → List ℤ → RunNo → (made : ℕ) → World
world_in s at charges printed run made = record { heap = s.heap at; charges = charges; printed = printed; run = run; made = made; counts = s.counts }

-- what a call leaves of the heap, also where memory ran out
pub record KeepsOthers {P R : Type 0} (at : P) (s t : State P R) : Type 0 where
  pub keeps : Keeps s t
  pub others : OthersStay at s t

-- a field of the record that a register points to is of this kind
abbrev pub FieldIs : {P R : Type 0} → State P R → P → Option Kind → (slot : ℕ) → Register R → Type 0
FieldIs s at kind slot (Number n) = Unit {0}
FieldIs s at kind slot Null = Unit {0}
FieldIs s at kind slot (Reference r) = kind_in s.shape (s.heap at) (s.name r) slot ≡ kind

-- each element of an array of the record that a register points to is of this kind, and its slot has a number of 16 bits
pub record ElementsAre {P R : Type 0} (s : State P R) (at : P) (kind : Option Kind) (first elements : ℕ) (v : Register R) : Type 0 where
  pub numbered : first + elements ≤ 2 ^ 16
  pub each : (k : ℕ) → k < elements → FieldIs s at kind (first + k) v

-- a field of a record can be given what a register holds
pub record MayWriteField {P R : Type 0} (s : State P R) (at : P) (r : R) (slot : ℕ) (v : Register R) : Type 0 where
  pub writable : s.writable at
  pub live : s.live at r
  pub live_value : IsLive s at v
  pub kind : Kind
  pub is : kind_in s.shape (s.heap at) (s.name r) slot ≡ Some kind
  pub fits : IsOf (s.heap at) kind (value_of s.name v)
  pub room : HasRoom s

-- the end of a write, or why it was refused
abbrev pub write_end : Option TrapKind → (line : ℕ) → Env → World → Ending
write_end None line env w = Normal env w
write_end (Some kind) line env w = Trapped kind line w

-- what a write does
pub record FieldWritten {P R : Type 0} (s : State P R) (at : P) (n : Name) (slot : ℕ) (v : Register R) (trap : Option TrapKind) (t : State P R) : Type 0 where
  pub acts : (shape : List TypeShape) → s.shape ≡ shape → (line : ℕ) (env : Env) (charges : ℕ) (printed : List ℤ) (run : RunNo) (made : ℕ) →
      write shape n slot (value_of s.name v) line env (world_in s at charges printed run made) ≡ write_end trap line env (world_in t at charges printed run made)
  pub kept : KeepsOthers at s t
  pub writes : WritesStay s t

-- what the write of a pointer does
abbrev pub PointerWritten : {P R : Type 0} → State P R → P → Name → (slot : ℕ) → Option Name → Option TrapKind → State P R → Type 0
PointerWritten s at n slot target None t = PointerStored s at n slot target t × WritesStay s t × ¬ (IsFull s.shape (s.heap at) n slot target)
PointerWritten s at n slot target (Some kind) t = (kind ≡ InDegree) × IsFull s.shape (s.heap at) n slot target × Unchanged s t × WritesStay s t

-- a new record with this name is made, and put into a register
pub record Made {P R : Type 0} (s : State P R) (at : P) (n : Name) (f : CallFrame R) (d : ℕ) (ty : TypeNo) (step : Step) (t : State P R) (f' : CallFrame R) : Type 0 where
  pub reference : R
  pub allocated : Allocated s at ty n reference t
  pub next : step ≡ Next
  pub registers : f'.registers.items ≡ slice_set f.registers.items d (Reference reference)
  pub frame : (f'.procedure ≡ f.procedure) × (f'.at ≡ f.at) × (f'.line ≡ f.line)
