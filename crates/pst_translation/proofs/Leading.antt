-- Code that stands at a place, and what the machine comes to from there.
use Rattle.std.proofs.Common.{◌≡◌, ◌≢◌, ℕ, suc, ◌+◌, ◌<◌, ◌≤◌, List, [], ◌∷◌, ◌++◌, length, Some, refl, ap, ◌∙◌, subst, arith, append_assoc, length-append}
use Rattle.std.proofs.Math.Seq.{get_or-append_seam}
use Rattle.std.proofs.lemmas.Option.{slice_get-get_or}
use Rattle.std.specs.Prelude.{slice_get, slice_index_or}
use Rattle.pst_base.specs.declared.names.Kind.{Kind}
use Rattle.pst_program.specs.declared.meaning.Value.{Value}
use Rattle.pst_program.specs.declared.meaning.Value.TheVariants.{Null as ANull}
use Rattle.pst_program.specs.Value.{Answer, Gives, Traps}
use Rattle.pst_program.specs.Meaning.{World, Ending, Trapped, Spent}
use Rattle.pst_code.specs.declared.instr.Reg.{Reg}
use Rattle.pst_code.specs.declared.instr.Instr.{Instr}
use Rattle.pst_code.specs.declared.instr.Instr.TheVariants as instr
use Rattle.pst_code.specs.declared.procedure.Procedure.{Procedure}
use Rattle.pst_code.specs.declared.procedure.Parts.{Parts}
use Rattle.pst_code.specs.Machine.{Frame, Caller, Move, Goes, Waits, Over, held, act, next_instr, go_on, steps, spent}
use Rattle.pst_translation.specs.Code.{Temp}

-- the instructions stand in the code at this place
abbrev pub HasAt : List Instr → ℕ → List Instr → Type 0
HasAt code at [] = Unit {0}
HasAt code at (i ∷ is) = (slice_get code at ≡ Some i) × HasAt code (at + 1) is

pub has_front : (code : List Instr) (at : ℕ) (a b : List Instr) → HasAt code at (a ++ b) → HasAt code at a
has_front code at [] b h = tt
has_front code at (i ∷ a) b h = (h.0, has_front code (at + 1) a b h.1)

pub has_back : (code : List Instr) (at : ℕ) (a b : List Instr) → HasAt code at (a ++ b) → HasAt code (at + length a) b
has_back code at [] b h = let e : at ≡ at + 0 = omega arith in subst (λ n. HasAt code n b) e h
has_back code at (i ∷ a) b h =
    let e : at + 1 + length a ≡ at + length (i ∷ a) = omega arith in
    subst (λ n. HasAt code n b) e (has_back code (at + 1) a b h.1)

has_from : (pre is : List Instr) → HasAt (pre ++ is) (length pre) is
has_from pre [] = tt
has_from pre (i ∷ is) =
    let within : length pre < length (pre ++ i ∷ is) = omega (arith, length-append pre (i ∷ is)) in
    let here = slice_get-get_or (pre ++ i ∷ is) (length pre) i within ∙ ap Some (get_or-append_seam pre i is i) in
    let n : length (pre ++ i ∷ []) ≡ length pre + 1 = omega (arith, length-append pre (i ∷ [])) in
    let rest' = subst (λ l. HasAt l (length (pre ++ i ∷ [])) is) (append_assoc pre (i ∷ []) is) (has_from (pre ++ i ∷ []) is) in
    (here, subst (λ m. HasAt (pre ++ i ∷ is) m is) n rest')

pub has_all : (code : List Instr) → HasAt code 0 code
has_all code = has_from [] code

-- the instruction writes to no register, or to one below n
abbrev pub WritesBelow : ℕ → Instr → Type 0
WritesBelow n (instr.Const d z) = d.0 < n
WritesBelow n (instr.Null d) = d.0 < n
WritesBelow n (instr.Copy d s) = d.0 < n
WritesBelow n (instr.Add d a b) = d.0 < n
WritesBelow n (instr.Sub d a b) = d.0 < n
WritesBelow n (instr.Mul d a b) = d.0 < n
WritesBelow n (instr.Div d a b) = d.0 < n
WritesBelow n (instr.Rem d a b) = d.0 < n
WritesBelow n (instr.Neg d a) = d.0 < n
WritesBelow n (instr.Root d slot) = d.0 < n
WritesBelow n (instr.Load d o slot) = d.0 < n
WritesBelow n (instr.Loadx d o slot elements i) = d.0 < n
WritesBelow n (instr.New d ty) = d.0 < n
WritesBelow n (instr.Call p (Some d) arguments) = d.0 < n
WritesBelow n i = Unit {0}

-- ---- what the machine comes to

-- it goes from one state to another
pub record Leads (parts : Parts) (f : Frame) (callers : List Caller) (w : World) (f' : Frame) (callers' : List Caller) (w' : World) : Type 0 where
  pub by : (k : ℕ) → (j : ℕ) × (k ≤ j) × (steps parts j f callers w ≡ steps parts k f' callers' w')

-- it comes to an end
pub record Ends (parts : Parts) (f : Frame) (callers : List Caller) (w : World) (o : Ending) : Type 0 where
  pub within : ℕ
  pub comes : spent (steps parts within f callers w) ≡ Over o

pub stays : (parts : Parts) (f : Frame) (callers : List Caller) (w : World) → Leads parts f callers w f callers w
stays parts f callers w = record { by = λ k. (k, omega arith, refl) }

pub leads_on : (parts : Parts) (f f1 f2 : Frame) (c c1 c2 : List Caller) (w w1 w2 : World) → Leads parts f c w f1 c1 w1 → Leads parts f1 c1 w1 f2 c2 w2 → Leads parts f c w f2 c2 w2
leads_on parts f f1 f2 c c1 c2 w w1 w2 l m =
    record { by = λ k. let b = m.by k in let a = l.by b.0 in (a.0, omega (arith, a.1, b.1), a.2 ∙ b.2) }

pub ends_on : (parts : Parts) (f f1 : Frame) (c c1 : List Caller) (w w1 : World) (o : Ending) → Leads parts f c w f1 c1 w1 → Ends parts f1 c1 w1 o → Ends parts f c w o
ends_on parts f f1 c c1 w w1 o l e = let a = l.by e.within in record { within = a.0; comes = ap spent a.2 ∙ e.comes }

-- one instruction
pub step : (parts : Parts) (f : Frame) (c : List Caller) (w : World) (i : Instr) (m : Move) → next_instr f ≡ Some i → act parts (Some i) f c w ≡ m
    → (k : ℕ) → steps parts (suc k) f c w ≡ go_on m (steps parts k)
step parts f c w i m h e k = ap (λ o. go_on (act parts o f c w) (steps parts k)) h ∙ ap (λ x. go_on x (steps parts k)) e

-- one that goes on
pub one : (parts : Parts) (f f1 : Frame) (c c1 : List Caller) (w w1 : World) (i : Instr) → next_instr f ≡ Some i → act parts (Some i) f c w ≡ Goes f1 c1 w1 → Leads parts f c w f1 c1 w1
one parts f f1 c c1 w w1 i h e = record { by = λ k. (suc k, omega arith, step parts f c w i (Goes f1 c1 w1) h e k) }

-- one that ends the run
pub last : (parts : Parts) (f : Frame) (c : List Caller) (w : World) (o : Ending) (i : Instr) → next_instr f ≡ Some i → act parts (Some i) f c w ≡ Over o → Ends parts f c w o
last parts f c w o i h e = record { within = 1; comes = ap spent (step parts f c w i (Over o) h e 0) }

-- one that waits for its charge
pub last_waits : (parts : Parts) (f : Frame) (c : List Caller) (w : World) (line : ℕ) (i : Instr) → next_instr f ≡ Some i
    → act parts (Some i) f c w ≡ Waits line f c w → Ends parts f c w (Spent line w)
last_waits parts f c w line i h e = record { within = 1; comes = ap spent (step parts f c w i (Waits line f c w) h e 0) }

-- ---- registers

-- temporary registers stand past the locals, and those of two levels are two
pub record Layout (temp : Temp) (locals : ℕ) : Type 0 where
  pub above : (k : ℕ) (kind : Kind) → locals ≤ (temp k kind).0
  pub apart : (k k' : ℕ) (kind kind' : Kind) → (temp k kind).0 ≡ (temp k' kind').0 → k ≡ k'

-- the registers that are no temporary ones of a level from k on are as they were
pub record Kept (temp : Temp) (k : ℕ) (regs regs' : List Value) : Type 0 where
  pub at : (r : ℕ) → ((k' : ℕ) (kind : Kind) → k ≤ k' → r ≢ (temp k' kind).0) → slice_index_or regs' r ANull ≡ slice_index_or regs r ANull

pub kept_all : (temp : Temp) (k : ℕ) (regs : List Value) → Kept temp k regs regs
kept_all temp k regs = record { at = λ r h. refl }

pub kept_on : (temp : Temp) (k k1 : ℕ) (r r1 r2 : List Value) → k ≤ k1 → Kept temp k r r1 → Kept temp k1 r1 r2 → Kept temp k r r2
kept_on temp k k1 r r1 r2 le a b = record {
  at = λ x h. b.at x (λ k' kind le'. h k' kind (omega arith)) ∙ a.at x h;
}

-- the locals of the registers are those of the environment
pub record Holds (locals : ℕ) (env regs : List Value) : Type 0 where
  pub at : (x : ℕ) → x < locals → slice_index_or regs x ANull ≡ slice_index_or env x ANull

pub holds_kept : (temp : Temp) (locals : ℕ) → Layout temp locals → (k : ℕ) (env regs regs' : List Value) → Holds locals env regs → Kept temp k regs regs' → Holds locals env regs'
holds_kept temp locals lay k env regs regs' h kept = record {
  at = λ x lt. kept.at x (λ k' kind le e. absurd (omega (arith, lay.above k' kind))) ∙ h.at x lt;
}

-- ---- expressions

-- an expression's code has put its value into a register
pub record Gets (parts : Parts) (me : Procedure) (temp : Temp) (k : ℕ) (r : Reg) (c : List Caller) (w : World) (line at : ℕ) (regs : List Value) (at' : ℕ) (v : Value) : Type 0 where
  pub after : List Value
  pub leads : Leads parts (record { procedure = me; at = at; registers = regs; line = line }) c w (record { procedure = me; at = at'; registers = after; line = line }) c w
  pub value_is : held after r ≡ v
  pub kept : Kept temp k regs after
  pub same : length after ≡ length regs

-- it does so, or traps as the expression does
abbrev pub ExprRuns : (parts : Parts) (me : Procedure) (temp : Temp) (k : ℕ) (r : Reg) (c : List Caller) (w : World) (line at : ℕ) (regs : List Value) (at' : ℕ) → Answer → Type 0
ExprRuns parts me temp k r c w line at regs at' (Gives v) = Gets parts me temp k r c w line at regs at' v
ExprRuns parts me temp k r c w line at regs at' (Traps t) =
    Ends parts (record { procedure = me; at = at; registers = regs; line = line }) c w (Trapped t line w)
