-- A run in frames of valid code stops within the instructions that its number counts, whatever registers and heap hold.
use Rattle.std.proofs.Common.{◌≡◌, ℕ, zero, suc, ◌+◌, ◌-◌, ◌<◌, nat_lt, Bool, true, false, List, [], ◌∷◌, length, map, Option, Some, None, refl, sym, ap, ◌∙◌, arith, slice_get, ⊎_elim}
use Rattle.std.proofs.lemmas.Bool.{cases_lt}
use Rattle.pst_program.specs.declared.meaning.Value.{Value}
use Rattle.pst_program.specs.Meaning.{World, Ending, Normal, Returned, Trapped, Spent}
use Rattle.pst_code.specs.declared.instr.Reg.{Reg}
use Rattle.pst_code.specs.declared.instr.Instr.{Instr}
use Rattle.pst_code.specs.declared.instr.Instr.TheVariants.{Charge, Jump, Jumpeq, Jumpne, Jumplt, Jumple, Jumpgt, Jumpge, Call, Return}
use Rattle.pst_code.specs.declared.procedure.Procedure.{Procedure}
use Rattle.pst_code.specs.declared.procedure.Parts.{Parts}
use Rattle.pst_code.specs.Machine.{Frame, Caller, Move, Goes, Waits, Over, Stuck, held, effect, after_effect, take_charge, jump_where, enter_where, leave_to, act, next_instr, go_on, steps, spent}
use Rattle.pst_code.specs.SoundRuns.{IsOneOf}
use Rattle.pst_code.specs.Falls.{total, MoveFalls, EachMoveFallsAnywhere}
use Rattle.pst_code.specs.Laws.{ComesTo}
use Rattle.pst_code.proofs.Going.{steps_add, longer}

-- frames that wait, each of a procedure of the code
abbrev pub AreOfCode : Parts → List Caller → Type 0
AreOfCode parts [] = Unit {0}
AreOfCode parts (c ∷ callers) = IsOneOf parts c.frame.procedure × AreOfCode parts callers

-- a move goes on in frames of the code
abbrev IsOfCode : Parts → Move → Type 0
IsOfCode parts (Goes f callers w) = IsOneOf parts f.procedure × AreOfCode parts callers
IsOfCode parts (Waits line f callers w) = Unit {0}
IsOfCode parts (Over o) = Unit {0}
IsOfCode parts Stuck = Unit {0}

module _ (parts : Parts) (f : Frame) (callers : List Caller) (one : IsOneOf parts f.procedure) (all : AreOfCode parts callers) where
  charge_of : (n line : ℕ) (w : World) → IsOfCode parts (take_charge n line f callers w)
  charge_of zero line w = tt
  charge_of (suc n) line w = (one, all)

  jump_of : (b : Bool) (to : ℕ) (w : World) → IsOfCode parts (jump_where b to f callers w)
  jump_of true to w = (one, all)
  jump_of false to w = (one, all)

  effect_of : (o : Ending) → IsOfCode parts (after_effect o f callers)
  effect_of (Normal registers w) = (one, all)
  effect_of (Returned v w) = tt
  effect_of (Trapped t line w) = tt
  effect_of (Spent line w) = tt

  call_of : (b : Bool) (number : ℕ) (callee : Option Procedure) → slice_get parts.procedures number ≡ callee
      → (vs : List Value) (into : Option Reg) (w : World) → IsOfCode parts (enter_where b callee vs into f callers w)
  call_of false number callee at vs into w = tt
  call_of true number None at vs into w = tt
  call_of true number (Some p) at vs into w = (record { number = number; is = at }, (one, all))

back_of : (parts : Parts) (into : Option Reg) (v : Option Value) (f : Frame) (callers : List Caller) (w : World) → IsOneOf parts f.procedure
    → AreOfCode parts callers → IsOfCode parts (leave_to v (record { frame = f; into = into } ∷ callers) w)
back_of parts None v f callers w one all = (one, all)
back_of parts (Some d) None f callers w one all = (one, all)
back_of parts (Some d) (Some v) f callers w one all = (one, all)

leave_of : (parts : Parts) (v : Option Value) (callers : List Caller) (w : World) → AreOfCode parts callers → IsOfCode parts (leave_to v callers w)
leave_of parts v [] w all = tt
leave_of parts v (c ∷ callers) w all = back_of parts c.into v c.frame callers w all.0 all.1

move_of : (parts : Parts) (f : Frame) (callers : List Caller) (w : World) → IsOneOf parts f.procedure → AreOfCode parts callers → (i : Option Instr) → IsOfCode parts (act parts i f callers w)
move_of parts f callers w one all None = tt
move_of parts f callers w one all (Some (Charge line)) = charge_of parts f callers one all w.charges line w
move_of parts f callers w one all (Some (Jump to)) = jump_of parts f callers one all true to w
move_of parts f callers w one all (Some (Jumpeq a b to)) = jump_of parts f callers one all _ to w
move_of parts f callers w one all (Some (Jumpne a b to)) = jump_of parts f callers one all _ to w
move_of parts f callers w one all (Some (Jumplt a b to)) = jump_of parts f callers one all _ to w
move_of parts f callers w one all (Some (Jumple a b to)) = jump_of parts f callers one all _ to w
move_of parts f callers w one all (Some (Jumpgt a b to)) = jump_of parts f callers one all _ to w
move_of parts f callers w one all (Some (Jumpge a b to)) = jump_of parts f callers one all _ to w
move_of parts f callers w one all (Some (Call p into arguments)) =
    call_of parts f callers one all (nat_lt (length callers + 1) 256) p.0 (slice_get parts.procedures p.0) refl (map (held f.registers) arguments) into w
move_of parts f callers w one all (Some (Return None)) = leave_of parts None callers w all
move_of parts f callers w one all (Some (Return (Some s))) = leave_of parts (Some (held f.registers s)) callers w all
move_of parts f callers w one all (Some i) = effect_of parts f callers one all (effect parts.shape i f.line f.registers w)

-- ---- a run stops

-- the machine does not go on from this move
abbrev pub HasStopped : Move → Type 0
HasStopped (Goes f callers w) = ⊥
HasStopped (Waits line f callers w) = Unit {0}
HasStopped (Over o) = Unit {0}
HasStopped Stuck = Unit {0}

stops_on : (parts : Parts) (n : ℕ) (f : Frame) (callers : List Caller) (w : World) (v : Move) → IsOfCode parts v → MoveFalls parts f callers w v → total parts f callers w < suc n
    → ((g : Frame) (c : List Caller) (u : World) → IsOneOf parts g.procedure → AreOfCode parts c → total parts g c u < n → HasStopped (steps parts n g c u)) → HasStopped (go_on v (steps parts n))
stops_on parts n f callers w (Goes g c u) of falls less next = next g c u of.0 of.1 (omega (arith, falls, less))
stops_on parts n f callers w (Waits line g c u) of falls less next = tt
stops_on parts n f callers w (Over o) of falls less next = tt
stops_on parts n f callers w Stuck of falls less next = tt

pub stops : (parts : Parts) → EachMoveFallsAnywhere parts → (n : ℕ) (f : Frame) (callers : List Caller) (w : World) → IsOneOf parts f.procedure
    → AreOfCode parts callers → total parts f callers w < n → HasStopped (steps parts n f callers w)
stops parts falls zero f callers w one all less = absurd (omega (arith, less))
stops parts falls (suc n) f callers w one all less =
    stops_on parts n f callers w (act parts (next_instr f) f callers w) (move_of parts f callers w one all (next_instr f)) (falls f callers w one) less (stops parts falls n)

-- ---- where it has stopped it stays

stuck_on : (parts : Parts) (n : ℕ) (v : Move) → v ≡ Stuck → go_on v (steps parts n) ≡ Stuck
stuck_on parts n (Goes f c w) e = absurd (cc)
stuck_on parts n (Waits line f c w) e = absurd (cc)
stuck_on parts n (Over o) e = absurd (cc)
stuck_on parts n Stuck e = refl

-- a run that is stuck comes to no end
pub stuck_ends_nowhere : (parts : Parts) (n : ℕ) (f : Frame) (callers : List Caller) (w : World) (o : Ending) → steps parts n f callers w ≡ Stuck → ComesTo parts f callers w o → ⊥
stuck_ends_nowhere parts n f callers w o stuck to =
    ⊎_elim
    (λ lt.
    let whole : n + (to.within - n) ≡ to.within = omega arith in
    let still : steps parts to.within f callers w ≡ Stuck = ap (λ k. steps parts k f callers w) (sym whole)
    ∙ steps_add parts n (to.within - n) f callers w ∙ stuck_on parts (to.within - n) (steps parts n f callers w) stuck in
    differ o (ap spent (sym still) ∙ to.comes))
    (λ le. differ o (ap spent (sym stuck) ∙ longer parts to.within n f callers w o le to.comes))
    (cases_lt n to.within)
  where
    differ : (p : Ending) → Stuck ≡ Over p → ⊥
    differ p e = cc
