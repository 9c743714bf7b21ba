-- The machine on the compiled code does what the program does.
use Rattle.std.proofs.Common.{◌≡◌, ℕ, zero, suc, ◌+◌, ◌<◌, ◌≤◌, pos, true, nat_lt, List, [], ◌∷◌, ◌++◌, length, map, drop, Option, Some, None, refl, sym, ap}
use Rattle.std.proofs.Common.{◌∙◌, subst, arith, length-append, length-drop, append_assoc, get_or-set_same}
use Rattle.std.proofs.lemmas.List.{drop-append-le, map-append, length-map, get_or_append_left}
use Rattle.std.proofs.lemmas.Bool.{lt-ltb}
use Rattle.std.specs.Prelude.{slice_get, slice_index_or, slice_set}
use Rattle.pst_base.specs.declared.names.Kind.{Kind}
use Rattle.pst_base.specs.declared.names.Kind.TheVariants.{Int, Pointer}
use Rattle.pst_program.specs.declared.meaning.Value.{Value}
use Rattle.pst_program.specs.declared.meaning.Value.TheVariants.{Number as ANumber, Null as ANull}
use Rattle.std.specs.Option.{option_map}
use Rattle.pst_program.specs.Syntax as syntax
use Rattle.pst_program.specs.Syntax.{Routines}
use Rattle.pst_program.specs.Meaning.{World, Ending, Normal, Returned, Trapped, Spent, default_of, first_env, leave, run_body, exec, call}
use Rattle.pst_program.specs.Typed.{IsTypedBlock}
use Rattle.pst_code.specs.declared.instr.Reg.{Reg}
use Rattle.pst_code.specs.declared.instr.Instr.{Instr}
use Rattle.pst_code.specs.declared.instr.Instr.TheVariants as instr
use Rattle.pst_code.specs.declared.procedure.Procedure.{Procedure}
use Rattle.pst_code.specs.declared.procedure.Parts.{Parts}
use Rattle.pst_code.specs.Machine.{Frame, Caller, Move, Goes, behind, put, after_effect, leave_to, first_frame, enter_where, act, go_on, steps, spent, EndsIn}
use Rattle.pst_translation.specs.Code.{Temp, block_code, end_code, body_code}
use Rattle.pst_translation.proofs.Leading.{HasAt, has_front, has_back, has_all, WritesBelow, step, Layout, Holds}
use Rattle.pst_translation.proofs.Plain.{Leaves, Runs}
use Rattle.pst_translation.proofs.Calls.{Called, CallsRun, starts}
use Rattle.pst_translation.proofs.Nested.{block_run}

-- a machine's procedure is the code of a well-typed one
pub record Compiled (r : Routines) (p : syntax.Procedure) (me : Procedure) : Type 0 where
  pub temp : Temp
  pub temps : List Kind
  pub layout : Layout temp (length p.kinds)
  pub kinds_are : me.kinds ≡ p.kinds ++ temps
  pub code_is : me.instructions ≡ body_code r.shape temp p
  pub valid : (i : ℕ) (x : Instr) → slice_get me.instructions i ≡ Some x → WritesBelow (length me.kinds) x
  pub typed : IsTypedBlock r p p.body

-- each procedure has its code at its place
pub record Linked (r : Routines) (procedures : List Procedure) : Type 0 where
  pub at : (i : ℕ) (p : syntax.Procedure) → slice_get r.procedures i ≡ Some p → (me : Procedure) × (slice_get procedures i ≡ Some me) × Compiled r p me

-- ---- the registers at first

first_length : (ks : List Kind) (vs : List Value) → length vs ≤ length ks → length (first_env ks vs) ≡ length ks
first_length ks vs le =
    omega (arith, length-append vs (map default_of (drop (length vs) ks)), length-map (drop (length vs) ks) default_of, length-drop (length vs) ks)

first_parts : (ks ts : List Kind) (vs : List Value) → length vs ≤ length ks → first_env (ks ++ ts) vs ≡ first_env ks vs ++ map default_of ts
first_parts ks ts vs le =
    ap (λ l. vs ++ map default_of l) (drop-append-le (length vs) ks ts le)
    ∙ ap (λ l. vs ++ l) (map-append default_of (drop (length vs) ks) ts)
    ∙ sym (append_assoc vs (map default_of (drop (length vs) ks)) (map default_of ts))

first_holds : (ks ts : List Kind) (vs : List Value) → length vs ≤ length ks → Holds (length ks) (first_env ks vs) (first_env (ks ++ ts) vs)
first_holds ks ts vs le = record {
  at = λ x lt. ap (λ l. slice_index_or l x ANull) (first_parts ks ts vs le) ∙ get_or_append_left (first_env ks vs) (map default_of ts) ANull x (omega (arith, first_length ks vs le));
}

module _ (parts : Parts) (me : Procedure) (locals size : ℕ) (valid : (i : ℕ) (x : Instr) → slice_get me.instructions i ≡ Some x → WritesBelow size x) (c : List Caller) where
  -- ---- the end of a procedure

  put_run : (at line : ℕ) (regs : List Value) (w : World) (t : Reg) (i : Instr) (v : Value) → t.0 < length regs
      → ((f : Frame) → act parts (Some i) f c w ≡ after_effect (put t v f.registers w) f c)
      → HasAt me.instructions at (i ∷ (instr.Return (Some t) ∷ []))
      → Leaves parts c (record { procedure = me; at = at; registers = regs; line = line }) w (Some v) w
  put_run at line regs w t i v lt is has =
      let f : Frame = record { procedure = me; at = at; registers = regs; line = line } in
      let g : Frame = record { procedure = me; at = at + 1; registers = slice_set regs t.0 v; line = line } in
      record {
        by = λ k. (
          suc (suc k),
          omega arith,
          step parts f c w i (Goes g c w) has.0 (is f) (suc k)
              ∙ step parts g c w (instr.Return (Some t)) (leave_to (Some v) c w) has.1.0
              (ap (λ u. leave_to (Some u) c w) (get_or-set_same regs t.0 v ANull lt)) k,
        );
        fewer = omega arith;
      }

  end_run : (temp : Temp) (result : Option Kind) (at line : ℕ) (regs : List Value) (w : World) → length regs ≡ size
      → HasAt me.instructions at (end_code temp result) → Leaves parts c (record { procedure = me; at = at; registers = regs; line = line }) w
      (option_map default_of result) w
  end_run temp None at line regs w same has = record {
    by = λ k. let f : Frame = record { procedure = me; at = at; registers = regs; line = line } in (suc k, omega arith, step parts f c w (instr.Return None) (leave_to None c w) has.0 refl k);
    fewer = omega arith;
  }
  end_run temp (Some Int) at line regs w same has =
      put_run at line regs w (temp 0 Int) (instr.Const (temp 0 Int) (pos 0)) (ANumber (pos 0)) (omega (arith, valid _ _ has.0)) (λ f. refl) has
  end_run temp (Some (Pointer ty)) at line regs w same has =
      put_run at line regs w (temp 0 (Pointer ty)) (instr.Null (temp 0 (Pointer ty))) ANull (omega (arith, valid _ _ has.0)) (λ f. refl) has

  left_run : (temp : Temp) (result : Option Kind) (f : Frame) (w : World) (at1 : ℕ) (o : Ending) → HasAt me.instructions at1 (end_code temp result)
      → Runs parts me locals size c f w at1 o → Runs parts me locals size c f w 0 (leave result o)
  left_run temp result f w at1 (Normal env' w') has g =
      let e = end_run temp result at1 g.line g.after w' g.same has in
      record {
        by = λ k. let b = e.by k in let a = g.leads.by b.0 in (a.0, omega (arith, a.1, b.1), a.2 ∙ b.2);
        fewer = omega (arith, g.fewer);
      }
  left_run temp result f w at1 (Returned v w') has g = g
  left_run temp result f w at1 (Trapped t line w') has g = g
  left_run temp result f w at1 (Spent line w') has g = g

-- ---- a call from its first move on

called_left : (start : Move) (parts : Parts) (me : Procedure) (locals size : ℕ) (c : List Caller) (f f0 : Frame) (into : Option Reg) (w : World)
    (result : Option Kind) (o : Ending) → start ≡ Goes f0 (record { frame = behind f f.registers; into = into } ∷ c) w
    → Runs parts me locals size (record { frame = behind f f.registers; into = into } ∷ c) f0 w 0 (leave result o)
    → Called start parts c f into w (leave result o)
called_left start parts me locals size c f f0 into w result (Normal env' w') is g =
    record { by = λ k. let a = g.by k in (a.0, a.1, ap (λ m. go_on m (steps parts a.0)) is ∙ a.2); fewer = g.fewer }
called_left start parts me locals size c f f0 into w result (Returned v w') is g =
    record { by = λ k. let a = g.by k in (a.0, a.1, ap (λ m. go_on m (steps parts a.0)) is ∙ a.2); fewer = g.fewer }
called_left start parts me locals size c f f0 into w result (Trapped t line w') is g =
    record { within = g.within; comes = ap (λ m. spent (go_on m (steps parts g.within))) is ∙ g.comes }
called_left start parts me locals size c f f0 into w result (Spent line w') is g =
    record { within = g.within; comes = ap (λ m. spent (go_on m (steps parts g.within))) is ∙ g.comes }

ends_in : (parts : Parts) (me : Procedure) (locals size : ℕ) (vs : List Value) (w : World) (result : Option Kind) (o : Ending)
    → Runs parts me locals size [] (first_frame me vs) w 0 (leave result o) → EndsIn parts me vs w (leave result o)
ends_in parts me locals size vs w result (Normal env' w') e = let a = e.by 0 in record { within = a.0; comes = ap spent a.2 }
ends_in parts me locals size vs w result (Returned v w') e = let a = e.by 0 in record { within = a.0; comes = ap spent a.2 }
ends_in parts me locals size vs w result (Trapped t line w') e = record { within = e.within; comes = e.comes }
ends_in parts me locals size vs w result (Spent line w') e = record { within = e.within; comes = e.comes }

module _ (r : Routines) (procedures : List Procedure) where
  abbrev parts : Parts
  parts = record { shape = r.shape; procedures = procedures }

  -- ---- a whole body

  body_run : (p : syntax.Procedure) (me : Procedure) (vs : List Value) (c : List Caller) (d : ℕ) (w : World) → Compiled r p me → length c + d ≡ 255
      → CallsRun r parts d → length vs ≤ length p.kinds → Runs parts me (length p.kinds) (length me.kinds) c (first_frame me vs) w 0
      (run_body r.shape (call r d) (Some p) vs w)
  body_run p me vs c d w comp deep calls le =
      let ks = p.kinds in
      let bc = block_code r.shape comp.temp p.body 0 in
      let has : HasAt me.instructions 0 (body_code r.shape comp.temp p) = subst (HasAt me.instructions 0) comp.code_is (has_all me.instructions) in
      let sizes : length me.kinds ≡ length ks + length comp.temps = ap length comp.kinds_are ∙ length-append ks comp.temps in
      let room : length ks ≤ length me.kinds = omega arith in
      let few : length vs ≤ length me.kinds = omega arith in
      let holds : Holds (length ks) (first_env ks vs) (first_env me.kinds vs) =
      subst (λ l. Holds (length ks) (first_env ks vs) (first_env l vs)) (sym comp.kinds_are) (first_holds ks comp.temps vs le) in
      left_run parts me (length ks) (length me.kinds) comp.valid c comp.temp p.result (first_frame me vs) w (0 + length bc)
      (exec r.shape (call r d) p.body (first_env ks vs) w) (has_back me.instructions 0 bc (end_code comp.temp p.result) has)
      (block_run r procedures p me comp.temp (length me.kinds) room comp.layout comp.valid c d deep calls p.body 0 comp.typed
      (has_front me.instructions 0 bc (end_code comp.temp p.result) has) (first_env ks vs) (first_env me.kinds vs) 0 w
      (first_length me.kinds vs few) (first_length ks vs le) holds)

  calls_run : Linked r procedures → (d : ℕ) → CallsRun r parts d
  unfolding call
  calls_run linked zero q vs f into c w deep can =
      let full : length c + 1 ≡ 256 = omega arith in
      record { within = 0; comes = ap (λ n. spent (go_on (enter_where (nat_lt n 256) (slice_get procedures q) vs into f c w) (steps parts 0))) full }
  calls_run linked (suc d) q vs f into c w deep can =
      let l = linked.at q can.callee can.is_there in
      let c1 : List Caller = record { frame = behind f f.registers; into = into } ∷ c in
      let deep1 : length c1 + d ≡ 255 = omega arith in
      let free : nat_lt (length c + 1) 256 ≡ true = lt-ltb (length c + 1) 256 (omega arith) in
      let is : starts parts q vs into f c w ≡ Goes (first_frame l.0 vs) c1 w =
      ap (λ b. enter_where b (slice_get procedures q) vs into f c w) free
      ∙ ap (λ o. enter_where true o vs into f c w) l.1 in
      subst (λ x. Called (starts parts q vs into f c w) parts c f into w (run_body r.shape (call r d) x vs w)) (sym can.is_there)
      (called_left (starts parts q vs into f c w) parts l.0 (length can.callee.kinds) (length l.0.kinds) c f (first_frame l.0 vs) into w
      can.callee.result (exec r.shape (call r d) can.callee.body (first_env can.callee.kinds vs) w) is
      (body_run can.callee l.0 vs c1 d w l.2 deep1 (calls_run linked d) can.fits))

  -- the machine comes to the end of the program
  pub machine_is : Linked r procedures → (p : syntax.Procedure) (me : Procedure) → Compiled r p me → (vs : List Value) → length vs ≤ length p.kinds
      → (w : World) → EndsIn parts me vs w (run_body r.shape (call r 255) (Some p) vs w)
  machine_is linked p me comp vs le w =
      let deep : length {A = Caller} [] + 255 ≡ 255 = refl in
      ends_in parts me (length p.kinds) (length me.kinds) vs w p.result (exec r.shape (call r 255) p.body (first_env p.kinds vs) w) (body_run p me vs [] 255 w comp deep (calls_run linked 255) le)
