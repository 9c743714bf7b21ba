-- What the instructions do, one by one.
use Rattle.std.specs.Prelude.{◌≡◌, ℕ, ◌+◌, ◌<◌, ◌≤◌, ◌^◌, ℤ, List, Option, Some, None}
use Rattle.std.specs.Option.{option_map}
use Rattle.pst_base.specs.declared.names.Kind.{Kind}
use Rattle.pst_base.specs.declared.names.TrapKind.{TrapKind}
use Rattle.pst_base.specs.declared.names.TrapKind.TheVariants.{Null as NullTrap, Index as IndexTrap}
use Rattle.pst_base.specs.declared.names.Name.{Name}
use Rattle.pst_base.specs.Name.{root_name}
use Rattle.pst_base.specs.Heap.{kind_in}
use Rattle.pst_program.specs.Value.{number_of, index_of, content}
use Rattle.pst_program.specs.Sound.{IsOf}
use Rattle.pst_program.specs.Meaning.{World}
use Rattle.pst_code.specs.declared.instr.Reg.{Reg}
use Rattle.pst_code.specs.declared.instr.Instr.{Instr}
use Rattle.pst_code.specs.declared.procedure.Parts.{Parts}
use Rattle.pst_code.specs.Machine.{Frame, Caller, Move, act}
use Rattle.pst_versions.specs.State.{State, HasRoom}
use Rattle.pst_machine_steps.specs.declared.fields.Element.{Element}
use Rattle.pst_machine_steps.specs.declared.register.Register.{Register}
use Rattle.pst_machine_steps.specs.declared.register.Register.TheVariants.{Number, Null, Reference}
use Rattle.pst_machine_steps.specs.declared.standing.CallFrame.{CallFrame}
use Rattle.pst_machine_steps.specs.declared.standing.Seen.{Seen}
use Rattle.pst_machine_steps.specs.declared.standing.Step.{Step}
use Rattle.pst_machine_steps.specs.declared.standing.Step.TheVariants.{Next, Here, Switched, Waits, Ends, Trap}
use Rattle.pst_machine_steps.specs.declared.standing.Top.{Top}
use Rattle.pst_machine_steps.specs.View.{value_of, frame_of, move_of}
use Rattle.pst_machine_steps.specs.Live.{IsLive}
use Rattle.pst_machine_steps.specs.Calls.{held_in}
use Rattle.pst_machine_steps.specs.Fields.{MayWriteField, FieldWritten}

-- one charge is taken, and its line kept; or none is left
abbrev pub Charged : {R : Type 0} → (left : ℕ) → CallFrame R → (line : ℕ) → Step → (left_after : ℕ) → CallFrame R → Type 0
Charged left f line Next left' f' = (left ≡ left' + 1) × (f' ≡ record f { line = line })
Charged left f line (Waits due) left' f' = (due ≡ line) × (left ≡ 0) × (left' ≡ 0) × (f' ≡ f)
Charged left f line Here left' f' = ⊥
Charged left f line Switched left' f' = ⊥
Charged left f line (Ends v) left' f' = ⊥
Charged left f line (Trap kind) left' f' = ⊥

-- A step in a frame that reads the heap at a place does what this move of the definition does there: in every code with the
-- heap's record types, whatever frames wait, in every world with that heap.
abbrev pub ReadsAs : {P R : Type 0} → State P R → (at : P) → (old : CallFrame R) → (Parts → Frame → List Caller → World → Move) → Step → (new : CallFrame R) → Type 0
ReadsAs s at old move step new = (parts : Parts) (c : List Caller) (w : World) → s.shape ≡ parts.shape → s.heap at ≡ w.heap → move parts (frame_of parts s.name old) c w ≡ move_of step (frame_of parts s.name new) c w

-- so with the move of this instruction: the step carries it out
abbrev pub Reads : {P R : Type 0} → State P R → (at : P) → (old : CallFrame R) → Instr → Step → (new : CallFrame R) → Type 0
Reads s at old instr step new = ReadsAs s at old (λ parts. act parts (Some instr)) step new

-- what was seen of a field of the root record is what it holds at a place, and can be used there
pub record IsSeen {P R : Type 0} (s : State P R) (at : P) (seen : Seen R) : Type 0 where
  pub value : value_of s.name seen.value ≡ content (kind_in s.shape (s.heap at) root_name seen.slot.0) (s.heap at) root_name seen.slot.0
  pub live : IsLive s at seen.value

-- what was read of the root record is known no more
pub record Forgets {R : Type 0} (before after : Top R) : Type 0 where
  pub root : after.root ≡ before.root
  pub last : after.last ≡ None

-- a field of the root record can be given what a register holds
pub record MayWriteRoot {P R : Type 0} (s : State P R) (at : P) (slot : ℕ) (v : Register R) : Type 0 where
  pub has : s.has at
  pub writable : s.writable at
  pub live_value : IsLive s at v
  pub kind : Kind
  pub is : kind_in s.shape (s.heap at) root_name slot ≡ Some kind
  pub fits : IsOf (s.heap at) kind (value_of s.name v)
  pub room : HasRoom s

-- a field of the record that a register points to, if it does, can be given what another register holds
abbrev pub MayStore : {P R : Type 0} → State P R → P → (object : Register R) → (slot : ℕ) → Register R → Type 0
MayStore s at (Number n) slot v = Unit {0}
MayStore s at Null slot v = Unit {0}
MayStore s at (Reference r) slot v = MayWriteField s at r slot v

-- the write of a field of the record that a register points to; null traps
abbrev pub Stored : {P R : Type 0} → State P R → P → (object : Register R) → (slot : ℕ) → Register R → Option TrapKind → State P R → Type 0
Stored s at (Number n) slot v trap t = trap ≡ Some NullTrap
Stored s at Null slot v trap t = trap ≡ Some NullTrap
Stored s at (Reference r) slot v trap t = FieldWritten s at (s.name r) slot v trap t

-- the slot of an element of an array, if a number is the index of one
abbrev pub slot_at : (first elements : ℕ) → ℤ → Option ℕ
slot_at first elements n = option_map (λ k. first + k) (index_of elements n)

-- the same by the number that a register of a frame holds
abbrev pub slot_in : {R : Type 0} → (R → Name) → CallFrame R → Element → Option ℕ
slot_in name frame e = slot_at e.first.0 e.elements (number_of (value_of name (held_in frame e.index)))

-- each element of an array of the record that a register points to, if it does, can be given what another register holds
pub record MayStoreElements {P R : Type 0} (s : State P R) (at : P) (object : Register R) (first elements : ℕ) (v : Register R) : Type 0 where
  pub numbered : first + elements ≤ 2 ^ 16
  pub each : (k : ℕ) → k < elements → MayStore s at object (first + k) v

-- the write of an element of the record that a register points to; null traps, and then an index of no element
abbrev pub StoredAt : {P R : Type 0} → State P R → P → (object : Register R) → (slot : Option ℕ) → Register R → Option TrapKind → State P R → Type 0
StoredAt s at (Number n) slot v trap t = trap ≡ Some NullTrap
StoredAt s at Null slot v trap t = trap ≡ Some NullTrap
StoredAt s at (Reference r) None v trap t = trap ≡ Some IndexTrap
StoredAt s at (Reference r) (Some slot) v trap t = FieldWritten s at (s.name r) slot v trap t

abbrev pub StoredElement : {P R : Type 0} → State P R → P → CallFrame R → (object : Reg) → Element → Register R → Option TrapKind → State P R → Type 0
StoredElement s at frame object e v trap t = StoredAt s at (held_in frame object) (slot_in s.name frame e) v trap t

-- there is no record, or no element
abbrev pub RefusesElement : {R : Type 0} → (object : Register R) → (slot : Option ℕ) → Type 0
RefusesElement (Number n) slot = Unit {0}
RefusesElement Null slot = Unit {0}
RefusesElement (Reference r) None = Unit {0}
RefusesElement (Reference r) (Some slot) = ⊥
