-- The code of a call.
use Rattle.std.proofs.Common.{◌≡◌, ◌≢◌, ℕ, suc, ◌+◌, ◌≤◌, nat_lt, List, [], ◌∷◌, length, map, Option, Some, None, refl, sym, ap, ◌∙◌, subst, arith, length-append, length-set}
use Rattle.std.specs.Prelude.{slice_get, slice_set}
use Rattle.std.specs.Option.{option_map}
use Rattle.pst_base.specs.declared.names.Kind.{Kind}
use Rattle.pst_program.specs.declared.meaning.Value.{Value}
use Rattle.pst_program.specs.Syntax as syntax
use Rattle.pst_program.specs.Syntax.{Expr, Routines}
use Rattle.pst_program.specs.Value.{Answer, Gives, Traps, value}
use Rattle.pst_program.specs.Meaning.{World, Ending, Normal, Returned, Trapped, Spent, Answers, Gives_all, Traps_at, one_more, values, with_answers, after_call, keep_result, call_with, call}
use Rattle.pst_code.specs.declared.instr.Reg.{Reg}
use Rattle.pst_code.specs.declared.instr.Instr.{Instr}
use Rattle.pst_code.specs.declared.instr.Instr.TheVariants as instr
use Rattle.pst_code.specs.declared.procedure.Procedure.{Procedure}
use Rattle.pst_code.specs.declared.procedure.Parts.{Parts}
use Rattle.pst_code.specs.Machine.{Frame, Caller, Move, Over, held, behind, with_result, enter_where, act, go_on, steps, spent}
use Rattle.pst_translation.specs.Code.{Temp, reg, proc_no, register, expr_code, arguments_code, registers, call_code}
use Rattle.pst_translation.proofs.Leading.{HasAt, has_front, has_back, WritesBelow, Leads, Ends, stays, leads_on, ends_on, step, Layout, Kept, kept_all, kept_on, Holds, holds_kept, ExprRuns}
use Rattle.pst_translation.proofs.Operands.{AllOperands, IsPlace}
use Rattle.pst_translation.proofs.Exprs.{register_apart, expr_runs}
use Rattle.pst_translation.proofs.Plain.{Passes, Runs, holds_set, runs_after, charge_run}

-- the procedure is there, and takes so many arguments
pub record Callable (procedures : List syntax.Procedure) (p count : ℕ) : Type 0 where
  pub callee : syntax.Procedure
  pub is_there : slice_get procedures p ≡ Some callee
  pub fits : count ≤ length callee.kinds

-- ---- what a call comes to, from its first move on

-- the caller's frame goes on, with the result
pub record Resumes (start : Move) (parts : Parts) (c : List Caller) (f : Frame) (into : Option Reg) (w : World) (v : Option Value) (w' : World) : Type 0 where
  pub by : (k : ℕ) → (j : ℕ) × (k ≤ j) × (go_on start (steps parts j) ≡ steps parts k (with_result into v (behind f f.registers)) c w')
  pub fewer : w'.charges ≤ w.charges

-- the run ends
pub record Stops (start : Move) (parts : Parts) (o : Ending) : Type 0 where
  pub within : ℕ
  pub comes : spent (go_on start (steps parts within)) ≡ Over o

abbrev pub Called : (start : Move) (parts : Parts) (c : List Caller) (f : Frame) (into : Option Reg) (w : World) → Ending → Type 0
Called start parts c f into w (Normal env' w') = ⊥
Called start parts c f into w (Returned v w') = Resumes start parts c f into w v w'
Called start parts c f into w (Trapped t line w') = Stops start parts (Trapped t line w')
Called start parts c f into w (Spent line w') = Stops start parts (Spent line w')

-- how a call begins
abbrev pub starts : (parts : Parts) (p : ℕ) → List Value → Option Reg → Frame → List Caller → World → Move
starts parts p vs into f c w = enter_where (nat_lt (length c + 1) 256) (slice_get parts.procedures p) vs into f c w

-- each call does what it means, where d more may become active
abbrev pub CallsRun : Routines → Parts → ℕ → Type 0
CallsRun r parts d =
    (p : ℕ) (vs : List Value) (f : Frame) (into : Option Reg) (c : List Caller) (w : World) → length c + d ≡ 255 → Callable r.procedures p (length vs)
    → Called (starts parts p vs into f c w) parts c f into w (call r d p vs f.line w)

-- ---- arguments

pub record GetsAll (parts : Parts) (me : Procedure) (temp : Temp) (k : ℕ) (rs : List Reg) (c : List Caller) (w : World) (line at : ℕ) (regs : List Value) (at' : ℕ) (vs : List Value) : Type 0 where
  pub after : List Value
  pub leads : Leads parts (record { procedure = me; at = at; registers = regs; line = line }) c w (record { procedure = me; at = at'; registers = after; line = line }) c w
  pub values_are : map (held after) rs ≡ vs
  pub count : length vs ≡ length rs
  pub kept : Kept temp k regs after
  pub same : length after ≡ length regs

abbrev pub ArgumentsRun : (parts : Parts) (me : Procedure) (temp : Temp) (k : ℕ) (rs : List Reg) (c : List Caller) (w : World) (line at : ℕ) (regs : List Value) (at' : ℕ) → Answers → Type 0
ArgumentsRun parts me temp k rs c w line at regs at' (Gives_all vs) = GetsAll parts me temp k rs c w line at regs at' vs
ArgumentsRun parts me temp k rs c w line at regs at' (Traps_at t) =
    Ends parts (record { procedure = me; at = at; registers = regs; line = line }) c w (Trapped t line w)

module _ (parts : Parts) (me : Procedure) (temp : Temp) (locals size : ℕ) (lay : Layout temp locals)
    (valid : (i : ℕ) (x : Instr) → slice_get me.instructions i ≡ Some x → WritesBelow size x) (c : List Caller) where
  abbrev fr : ℕ → List Value → ℕ → Frame
  fr at regs line = record { procedure = me; at = at; registers = regs; line = line }

  registers_length : (es : List Expr) (k : ℕ) → length (registers parts.shape temp es k) ≡ length es
  registers_length [] k = refl
  registers_length (e ∷ es) k = ap suc (registers_length es (k + 1))

  -- one argument and the others
  more_run : (k : ℕ) (r : Reg) (rs : List Reg) (line at at1 at' : ℕ) (regs : List Value) (w : World) (a : Answer) (b : Answers)
      → ((k' : ℕ) (kind : Kind) → k + 1 ≤ k' → r.0 ≢ (temp k' kind).0) → ExprRuns parts me temp k r c w line at regs at1 a
      → ((regs1 : List Value) → length regs1 ≡ length regs → Kept temp k regs regs1 → ArgumentsRun parts me temp (k + 1) rs c w line at1 regs1 at' b)
      → ArgumentsRun parts me temp k (r ∷ rs) c w line at regs at' (one_more a b)
  more_run k r rs line at at1 at' regs w (Traps t) b apart ra rb = ra
  more_run k r rs line at at1 at' regs w (Gives v) (Traps_at t) apart ra rb =
      ends_on parts _ _ _ _ _ _ _ ra.leads (rb ra.after ra.same ra.kept)
  more_run k r rs line at at1 at' regs w (Gives v) (Gives_all vs) apart ra rb =
      let b = rb ra.after ra.same ra.kept in
      record {
        after = b.after;
        leads = leads_on parts _ _ _ _ _ _ _ _ _ ra.leads b.leads;
        values_are = ap (λ x. x ∷ map (held b.after) rs) (b.kept.at r.0 apart ∙ ra.value_is) ∙ ap (λ l. v ∷ l) b.values_are;
        count = ap suc b.count;
        kept = kept_on temp k (k + 1) regs ra.after b.after (omega arith) ra.kept b.kept;
        same = b.same ∙ ra.same;
      }

  arguments_run : (es : List Expr) (k line at : ℕ) (env regs : List Value) (w : World) → AllOperands locals es → length regs ≡ size
      → Holds locals env regs → HasAt me.instructions at (arguments_code parts.shape temp es k)
      → ArgumentsRun parts me temp k (registers parts.shape temp es k) c w line at regs (at + length (arguments_code parts.shape temp es k))
      (values parts.shape es env w.heap)
  arguments_run [] k line at env regs w ok same holds has =
      let e : at ≡ at + 0 = omega arith in
      record {
        after = regs;
        leads = subst (λ n. Leads parts (fr at regs line) c w (fr n regs line) c w) e (stays parts _ _ _);
        values_are = refl;
        count = refl;
        kept = kept_all temp k regs;
        same = refl;
      }
  arguments_run (e ∷ es) k line at env regs w ok same holds has =
      let ce = expr_code parts.shape temp e k in
      let len : at + length ce + length (arguments_code parts.shape temp es (k + 1)) ≡ at + length (arguments_code parts.shape temp (e ∷ es) k) =
      omega (arith, length-append ce (arguments_code parts.shape temp es (k + 1))) in
      subst (λ n. ArgumentsRun parts me temp k (registers parts.shape temp (e ∷ es) k) c w line at regs n (values parts.shape (e ∷ es) env w.heap))
      len (more_run k (register parts.shape temp e k) (registers parts.shape temp es (k + 1)) line at (at + length ce) _ regs w
      (value parts.shape e env w.heap) (values parts.shape es env w.heap)
      (λ k' kind le. register_apart parts.shape temp locals lay e ok.0 k k' kind (omega arith))
      (expr_runs parts me temp locals size lay valid c line w env e ok.0 k at regs same holds (has_front me.instructions at ce _ has))
      (λ regs1 same1 kept. arguments_run es (k + 1) line (at + length ce) env regs1 w ok.1 (same1 ∙ same)
      (holds_kept temp locals lay k env regs regs1 holds kept) (has_back me.instructions at ce _ has)))

  -- ---- the call itself

  abbrev Does : Frame → World → ℕ → Ending → Type 0
  Does f w at' o = Runs parts me locals size c f w at' o

  back_in : (x : Option ℕ) (v : Option Value) (line at at' : ℕ) (env regs : List Value) (w w' : World) → at + 1 ≡ at' → IsPlace locals x
      → locals ≤ size → length regs ≡ size → length env ≡ locals → Holds locals env regs → w'.charges ≤ w.charges
      → Leads parts (fr at regs line) c w (with_result (option_map reg x) v (behind (fr at regs line) regs)) c w'
      → Passes parts me locals size c (fr at regs line) w at' (keep_result x v env) w'
  back_in (Some d) (Some v) line at at' env regs w w' e ok room same long holds fewer l = record {
    after = slice_set regs d v;
    line = line;
    leads = subst (λ n. Leads parts (fr at regs line) c w (fr n (slice_set regs d v) line) c w') e l;
    holds = holds_set locals env regs d v holds (omega (arith, ok)) (omega (arith, ok));
    same = length-set regs d v ∙ same;
    long = length-set env d v ∙ long;
    fewer = fewer;
  }
  back_in (Some d) None line at at' env regs w w' e ok room same long holds fewer l = record {
    after = regs;
    line = line;
    leads = subst (λ n. Leads parts (fr at regs line) c w (fr n regs line) c w') e l;
    holds = holds;
    same = same;
    long = long;
    fewer = fewer;
  }
  back_in None v line at at' env regs w w' e ok room same long holds fewer l = record {
    after = regs;
    line = line;
    leads = subst (λ n. Leads parts (fr at regs line) c w (fr n regs line) c w') e l;
    holds = holds;
    same = same;
    long = long;
    fewer = fewer;
  }

  called_run : (start : Move) (i : Instr) (x : Option ℕ) (line at at' : ℕ) (env regs : List Value) (w : World) (o : Ending) → at + 1 ≡ at'
      → IsPlace locals x → locals ≤ size → length regs ≡ size → length env ≡ locals → Holds locals env regs → slice_get me.instructions at ≡ Some i
      → act parts (Some i) (fr at regs line) c w ≡ start → Called start parts c (fr at regs line) (option_map reg x) w o
      → Does (fr at regs line) w at' (after_call x env o)
  called_run start i x line at at' env regs w (Normal env' w') e ok room same long holds here is r = absurd r
  called_run start i x line at at' env regs w (Returned v w') e ok room same long holds here is r =
      back_in x v line at at' env regs w w' e ok room same long holds r.fewer record {
        by = λ k. let a = r.by k in (suc a.0, omega (arith, a.1), step parts (fr at regs line) c w i start here is a.0 ∙ a.2);
      }
  called_run start i x line at at' env regs w (Trapped t l w') e ok room same long holds here is r =
      record { within = suc r.within; comes = ap spent (step parts (fr at regs line) c w i start here is r.within) ∙ r.comes }
  called_run start i x line at at' env regs w (Spent l w') e ok room same long holds here is r =
      record { within = suc r.within; comes = ap spent (step parts (fr at regs line) c w i start here is r.within) ∙ r.comes }

  module _ (r : Routines) (d : ℕ) (deep : length c + d ≡ 255) (calls_run : CallsRun r parts d) where
    then_call : (x : Option ℕ) (p : ℕ) (rs : List Reg) (line at at1 at' : ℕ) (env regs : List Value) (w : World) (a : Answers) → at1 + 1 ≡ at'
        → IsPlace locals x → locals ≤ size → length regs ≡ size → length env ≡ locals → Holds locals env regs → Callable r.procedures p (length rs)
        → slice_get me.instructions at1 ≡ Some (instr.Call (proc_no p) (option_map reg x) rs) → ArgumentsRun parts me temp 0 rs c w line at regs at1 a
        → Does (fr at regs line) w at' (with_answers a line w (λ vs. after_call x env (call r d p vs line w)))
    then_call x p rs line at at1 at' env regs w (Traps_at t) e ok room same long holds can here g = g
    then_call x p rs line at at1 at' env regs w (Gives_all vs) e ok room same long holds can here g =
        let can' = subst (Callable r.procedures p) (sym g.count) can in
        runs_after parts me locals size c _ _ w w at' _ (omega arith) g.leads
        (called_run (starts parts p vs (option_map reg x) (fr at1 g.after line) c w) (instr.Call (proc_no p) (option_map reg x) rs) x line at1 at'
        env g.after w (call r d p vs line w) e ok room (g.same ∙ same) long (holds_kept temp locals lay 0 env regs g.after holds g.kept) here
        (ap (λ l. starts parts p l (option_map reg x) (fr at1 g.after line) c w) g.values_are)
        (calls_run p vs (fr at1 g.after line) (option_map reg x) c w deep can'))

    pub call_run : (x : Option ℕ) (p : ℕ) (es : List Expr) (line at line0 : ℕ) (env regs : List Value) (w : World) → IsPlace locals x
        → AllOperands locals es → Callable r.procedures p (length es) → locals ≤ size → length regs ≡ size → length env ≡ locals
        → Holds locals env regs → HasAt me.instructions at (call_code parts.shape temp x p es line)
        → Does (fr at regs line0) w (at + length (call_code parts.shape temp x p es line))
        (call_with parts.shape x es (λ vs w. call r d p vs line w) line env w)
    call_run x p es line at line0 env regs w ok_x ok_es can room same long holds has =
        let ca = arguments_code parts.shape temp es 0 in let rs = registers parts.shape temp es 0 in
        let here = (has_back me.instructions (at + 1) ca _ has.1).0 in
        let len : at + 1 + length ca + 1 ≡ at + length (call_code parts.shape temp x p es line) = omega (arith, length-append ca (instr.Call (proc_no p) (option_map reg x) rs ∷ [])) in
        let can' = subst (Callable r.procedures p) (sym (registers_length es 0)) can in
        charge_run parts me locals size c (fr at regs line0) w line _ _ has.0 (λ m is.
        then_call x p rs line (at + 1) (at + 1 + length ca) _ env regs (record w { charges = m }) _ len ok_x room same long holds can' here
        (arguments_run es 0 line (at + 1) env regs (record w { charges = m }) ok_es same holds (has_front me.instructions (at + 1) ca _ has.1)))
