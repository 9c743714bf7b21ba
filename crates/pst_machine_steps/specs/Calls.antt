-- What calls and returns do to the frames of a running machine.
use Rattle.std.specs.Prelude.{◌≡◌, ◌+◌, ◌<◌, ◌≤◌, pos, List, [], ◌∷◌, ◌++◌, length, map, drop, Option, Some, None, IfSome, slice_get, slice_index_or, slice_set}
use Rattle.std.specs.Option.{option_map}
use Rattle.pst_base.specs.declared.names.Kind.{Kind}
use Rattle.pst_base.specs.declared.names.Kind.TheVariants.{Int, Pointer}
use Rattle.pst_base.specs.declared.names.ProcNo.{ProcNo}
use Rattle.pst_base.specs.declared.names.TrapKind.TheVariants.{Depth}
use Rattle.pst_code.specs.declared.instr.Reg.{Reg}
use Rattle.pst_code.specs.declared.procedure.Parts.{Parts}
use Rattle.pst_machine_steps.specs.declared.register.Register.{Register}
use Rattle.pst_machine_steps.specs.declared.register.Register.TheVariants.{Number, Null}
use Rattle.pst_machine_steps.specs.Live.{IsNumber}
use Rattle.pst_machine_steps.specs.declared.standing.CallFrame.{CallFrame}
use Rattle.pst_machine_steps.specs.declared.standing.Waiting.{Waiting}
use Rattle.pst_machine_steps.specs.declared.standing.Standing.{Standing}
use Rattle.pst_machine_steps.specs.declared.standing.Step.{Step}
use Rattle.pst_machine_steps.specs.declared.standing.Step.TheVariants.{Next, Here, Switched, Waits, Ends, Trap}

-- what a register of a frame holds
abbrev pub held_in : {R : Type 0} → CallFrame R → Reg → Register R
held_in frame r = slice_index_or frame.registers.items r.0 Null

-- a frame has this register
abbrev pub HasRegister : {R : Type 0} → CallFrame R → Reg → Type 0
HasRegister frame r = r.0 < length frame.registers.items

-- a frame has this register, and it holds a number
abbrev pub HoldsNumber : {R : Type 0} → CallFrame R → Reg → Type 0
HoldsNumber frame r = HasRegister frame r × IsNumber (held_in frame r)

-- what a register holds at first
abbrev pub register_default : {R : Type 0} → Kind → Register R
register_default Int = Number (pos 0)
register_default (Pointer ty) = Null

-- the registers of a procedure that begins: its arguments, as the caller holds them, and behind them what registers hold at first
abbrev pub first_registers : {R : Type 0} → (caller : CallFrame R) → (arguments : List Reg) → List Kind → List (Register R)
first_registers caller arguments kinds = map (held_in caller) arguments ++ map register_default (drop (length arguments) kinds)

-- the place, the run, the charges and what was made and printed stay
pub record SameTally {P R : Type 0} (a b : Standing P R) : Type 0 where
  pub place : b.place ≡ a.place
  pub run : b.run ≡ a.run
  pub left : b.left ≡ a.left
  pub made : b.made ≡ a.made
  pub printed : b.printed ≡ a.printed

-- a frame is entered, and the one before waits behind its call
pub record IsEntered {R : Type 0} (f : CallFrame R) (callers : List (Waiting R)) (procedure : ProcNo) (into : Option Reg) (arguments : List Reg) (kinds : List Kind) (f' : CallFrame R) (callers' : List (Waiting R)) : Type 0 where
  pub few : length callers < 255
  pub procedure_is : f'.procedure ≡ procedure
  pub at : f'.at ≡ 0
  pub line : f'.line ≡ 0
  pub registers : f'.registers.items ≡ first_registers f arguments kinds
  pub callers_are : callers' ≡ callers ++ record { frame = record f { at = f.at + 1 }; into = into } ∷ []

-- what a call does to the frame that goes on and those that wait: a frame is entered, unless 255 frames wait
abbrev pub Called : {R : Type 0} → CallFrame R → List (Waiting R) → ProcNo → Option Reg → List Reg → List Kind → Step → CallFrame R → List (Waiting R) → Type 0
Called f callers procedure into arguments kinds Switched f' callers' = IsEntered f callers procedure into arguments kinds f' callers'
Called f callers procedure into arguments kinds (Trap kind) f' callers' = (kind ≡ Depth) × (255 ≤ length callers) × (f' ≡ f) × (callers' ≡ callers)
Called f callers procedure into arguments kinds Next f' callers' = ⊥
Called f callers procedure into arguments kinds Here f' callers' = ⊥
Called f callers procedure into arguments kinds (Waits line) f' callers' = ⊥
Called f callers procedure into arguments kinds (Ends v) f' callers' = ⊥

-- what a call of a procedure of the code does
abbrev pub CalledIn : {P R : Type 0} → Parts → CallFrame R → Standing P R → ProcNo → Option Reg → List Reg → Step → CallFrame R → Standing P R → Type 0
CalledIn parts f a procedure into arguments step f' b =
    IfSome (slice_get parts.procedures procedure.0) (λ p. Called f a.callers.items procedure into arguments p.kinds step f' b.callers.items)

-- registers with the result of a call, if one is named
abbrev pub with_register : {R : Type 0} → Option Reg → Option (Register R) → List (Register R) → List (Register R)
with_register (Some d) (Some v) registers = slice_set registers d.0 v
with_register (Some d) None registers = registers
with_register None v registers = registers

-- what a frame gives back
abbrev pub given_back : {R : Type 0} → CallFrame R → Option Reg → Option (Register R)
given_back frame s = option_map (held_in frame) s

-- the last frame that waits goes on with the result
pub record IsBack {R : Type 0} (callers : List (Waiting R)) (v : Option (Register R)) (f' : CallFrame R) (callers' : List (Waiting R)) : Type 0 where
  pub waiting : Waiting R
  pub callers_are : callers ≡ callers' ++ waiting ∷ []
  pub procedure : f'.procedure ≡ waiting.frame.procedure
  pub at : f'.at ≡ waiting.frame.at
  pub line : f'.line ≡ waiting.frame.line
  pub registers : f'.registers.items ≡ with_register waiting.into v waiting.frame.registers.items

-- what a return does to the frame that goes on and those that wait
abbrev pub Left : {R : Type 0} → CallFrame R → List (Waiting R) → Option Reg → Step → CallFrame R → List (Waiting R) → Type 0
Left f callers r Switched f' callers' = IsBack callers (given_back f r) f' callers'
Left f callers r (Ends given) f' callers' = (given ≡ r) × (callers ≡ []) × (f' ≡ f) × (callers' ≡ [])
Left f callers r Next f' callers' = ⊥
Left f callers r Here f' callers' = ⊥
Left f callers r (Waits line) f' callers' = ⊥
Left f callers r (Trap kind) f' callers' = ⊥

-- no frame holds anything, and none waits
pub record HoldsNothing {P R : Type 0} (a : Standing P R) : Type 0 where
  pub registers : a.current.registers.items ≡ []
  pub callers : a.callers.items ≡ []
