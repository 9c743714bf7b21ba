-- The code of the statements that hold no other statement.
use Rattle.std.proofs.Common.{◌≡◌, ℕ, zero, suc, ◌+◌, ◌^◌, ◌<◌, ◌≤◌, ℤ, Bool, true, false, nat_lt, List, [], ◌∷◌, ◌++◌, length, Option, Some, None, refl, sym}
use Rattle.std.proofs.Common.{ap, ◌∙◌, subst, arith, length-append, length-set, get_or-set_same, get_or-set_other, ⊎_elim}
use Rattle.std.proofs.lemmas.Bool.{cases_eq}
use Rattle.std.specs.Prelude.{slice_get, slice_index_or, slice_set}
use Rattle.pst_base.specs.declared.names.Kind.{Kind}
use Rattle.pst_base.specs.declared.names.Kind.TheVariants.{Int, Pointer}
use Rattle.pst_base.specs.declared.names.Name.{Name}
use Rattle.pst_base.specs.declared.names.TrapKind.TheVariants.{Null as NullTrap, InDegree, Output}
use Rattle.pst_base.specs.declared.names.TypeNo.{TypeNo}
use Rattle.pst_base.specs.Name.{root_name}
use Rattle.pst_base.specs.Heap.{kind_in, type_in}
use Rattle.std.specs.Option.{option_eq}
use Rattle.pst_program.specs.declared.meaning.Value.{Value}
use Rattle.pst_program.specs.declared.meaning.Value.TheVariants.{Number as ANumber, Truth as ATruth, Null as ANull, Record as ARecord}
use Rattle.pst_program.specs.Syntax.{Expr}
use Rattle.pst_program.specs.Value.{Answer, Gives, Traps, number_of, index_of, value}
use Rattle.pst_program.specs.Meaning.{World, Ending, Normal, Returned, Trapped, Spent, charged, with_answer, then_do, choose, value_written, pointer_written}
use Rattle.pst_program.specs.Meaning.{next_name, record_made, is_full, same_type, is_target, write_pointer, write_kind, with_object, with_index, print_number}
use Rattle.pst_program.specs.Meaning.{set_local, set_root, store_field, store_element, make, print_value, return_value}
use Rattle.pst_code.specs.declared.instr.Reg.{Reg}
use Rattle.pst_code.specs.declared.instr.Instr.{Instr}
use Rattle.pst_code.specs.declared.instr.Instr.TheVariants as instr
use Rattle.pst_code.specs.declared.procedure.Procedure.{Procedure}
use Rattle.pst_code.specs.declared.procedure.Parts.{Parts}
use Rattle.pst_code.specs.Machine.{Frame, Caller, Goes, held, put, after_effect, take_charge, leave_to, next_instr, act, go_on, steps}
use Rattle.pst_translation.specs.Code.{Temp, reg, slot_no, register, expr_code, set_code, set_root_code, store_code, store_element_code, print_code, return_code}
use Rattle.pst_translation.proofs.Leading.{HasAt, has_front, has_back, WritesBelow, Leads, Ends, leads_on, ends_on, step, one, last, last_waits, Layout, Kept, Holds, holds_kept, ExprRuns}
use Rattle.pst_translation.proofs.Operands.{IsOperand}
use Rattle.pst_translation.proofs.Exprs.{register_apart, expr_runs}

-- the machine comes on to an index with this environment in its registers
pub record Passes (parts : Parts) (me : Procedure) (locals size : ℕ) (c : List Caller) (f : Frame) (w : World) (at' : ℕ) (env' : List Value) (w' : World) : Type 0 where
  pub after : List Value
  pub line : ℕ
  pub leads : Leads parts f c w (record { procedure = me; at = at'; registers = after; line = line }) c w'
  pub holds : Holds locals env' after
  pub same : length after ≡ size
  pub long : length env' ≡ locals
  pub fewer : w'.charges ≤ w.charges

-- it leaves the frame with this value
pub record Leaves (parts : Parts) (c : List Caller) (f : Frame) (w : World) (v : Option Value) (w' : World) : Type 0 where
  pub by : (k : ℕ) → (j : ℕ) × (k ≤ j) × (steps parts j f c w ≡ go_on (leave_to v c w') (steps parts k))
  pub fewer : w'.charges ≤ w.charges

-- what a statement's code does
abbrev pub Runs : (parts : Parts) (me : Procedure) (locals size : ℕ) (c : List Caller) (f : Frame) (w : World) (at' : ℕ) → Ending → Type 0
Runs parts me locals size c f w at' (Normal env' w') = Passes parts me locals size c f w at' env' w'
Runs parts me locals size c f w at' (Returned v w') = Leaves parts c f w v w'
Runs parts me locals size c f w at' (Trapped t line w') = Ends parts f c w (Trapped t line w')
Runs parts me locals size c f w at' (Spent line w') = Ends parts f c w (Spent line w')

pub holds_set : (locals : ℕ) (env regs : List Value) (x : ℕ) (v : Value) → Holds locals env regs → x < length regs → x < length env → Holds locals (slice_set env x v) (slice_set regs x v)
holds_set locals env regs x v h lt lt' = record {
  at = λ y less. ⊎_elim
      (λ e. let P : ℕ → Type 0 = λ z. slice_index_or (slice_set regs x v) z ANull ≡ slice_index_or (slice_set env x v) z ANull in
      subst P (sym e) (get_or-set_same regs x v ANull lt ∙ sym (get_or-set_same env x v ANull lt')))
      (λ ne. get_or-set_other regs x y v ANull ne ∙ h.at y less ∙ sym (get_or-set_other env x y v ANull ne))
      (cases_eq y x);
}

module _ (parts : Parts) (me : Procedure) (locals size : ℕ) (c : List Caller) where
  -- before a run
  pub runs_after : (f f1 : Frame) (w w1 : World) (at' : ℕ) (o : Ending) → w1.charges ≤ w.charges → Leads parts f c w f1 c w1
      → Runs parts me locals size c f1 w1 at' o → Runs parts me locals size c f w at' o
  runs_after f f1 w w1 at' (Normal env' w') le l r = record {
    after = r.after;
    line = r.line;
    leads = leads_on parts _ _ _ _ _ _ _ _ _ l r.leads;
    holds = r.holds;
    same = r.same;
    long = r.long;
    fewer = omega (arith, r.fewer);
  }
  runs_after f f1 w w1 at' (Returned v w') le l r = record {
    by = λ k. let b = r.by k in let a = l.by b.0 in (a.0, omega (arith, a.1, b.1), a.2 ∙ b.2);
    fewer = omega (arith, r.fewer);
  }
  runs_after f f1 w w1 at' (Trapped t line w') le l r = ends_on parts _ _ _ _ _ _ _ l r
  runs_after f f1 w w1 at' (Spent line w') le l r = ends_on parts _ _ _ _ _ _ _ l r

  -- one run after another
  pub seq_run : (f : Frame) (w : World) (at1 at' : ℕ) (o : Ending) (go : List Value → World → Ending) → Runs parts me locals size c f w at1 o
      → ((env' regs' : List Value) (line' : ℕ) (w' : World) → length regs' ≡ size → length env' ≡ locals → Holds locals env' regs'
      → w'.charges ≤ w.charges → Runs parts me locals size c (record { procedure = me; at = at1; registers = regs'; line = line' }) w' at'
      (go env' w')) → Runs parts me locals size c f w at' (then_do o go)
  seq_run f w at1 at' (Normal env' w') go r next = runs_after f _ w w' at' (go env' w') r.fewer r.leads (next env' r.after r.line w' r.same r.long r.holds r.fewer)
  seq_run f w at1 at' (Returned v w') go r next = r
  seq_run f w at1 at' (Trapped t line w') go r next = r
  seq_run f w at1 at' (Spent line w') go r next = r

  -- a charge
  charge_by : (n : ℕ) (f : Frame) (w : World) (line at' : ℕ) (go : World → Ending) → n ≡ w.charges → next_instr f ≡ Some (instr.Charge line)
      → act parts (Some (instr.Charge line)) f c w ≡ take_charge n line f c w
      → ((m : ℕ) → suc m ≡ w.charges → Runs parts me locals size c (record f { at = f.at + 1; line = line }) (record w { charges = m }) at'
      (go record w { charges = m })) → Runs parts me locals size c f w at' (charged n line w go)
  charge_by zero f w line at' go e here is next = last_waits parts f c w line (instr.Charge line) here is
  charge_by (suc m) f w line at' go e here is next =
      runs_after f _ w (record w { charges = m }) at' _ (omega (arith, e))
      (one parts f (record f { at = f.at + 1; line = line }) c c w (record w { charges = m }) (instr.Charge line) here is) (next m e)

  pub charge_run : (f : Frame) (w : World) (line at' : ℕ) (go : World → Ending) → next_instr f ≡ Some (instr.Charge line)
      → ((m : ℕ) → suc m ≡ w.charges → Runs parts me locals size c (record f { at = f.at + 1; line = line }) (record w { charges = m }) at'
      (go record w { charges = m })) → Runs parts me locals size c f w at' (charged w.charges line w go)
  charge_run f w line at' go here next = charge_by w.charges f w line at' go refl here refl next

  -- a value, and what comes then
  pub value_run : (temp : Temp) (k : ℕ) (r : Reg) (line at at1 at' : ℕ) (regs : List Value) (w : World) (a : Answer) (go : Value → Ending)
      → ExprRuns parts me temp k r c w line at regs at1 a → ((v : Value) (regs1 : List Value) → held regs1 r ≡ v → Kept temp k regs regs1
      → length regs1 ≡ length regs → Runs parts me locals size c (record { procedure = me; at = at1; registers = regs1; line = line }) w at' (go v))
      → Runs parts me locals size c (record { procedure = me; at = at; registers = regs; line = line }) w at' (with_answer a line w go)
  value_run temp k r line at at1 at' regs w (Gives v) go g next =
      runs_after _ _ w w at' (go v) (omega arith) g.leads (next v g.after g.value_is g.kept g.same)
  value_run temp k r line at at1 at' regs w (Traps t) go e next = e

module _ (parts : Parts) (me : Procedure) (temp : Temp) (locals size : ℕ) (lay : Layout temp locals)
    (valid : (i : ℕ) (x : Instr) → slice_get me.instructions i ≡ Some x → WritesBelow size x) (c : List Caller) where
  abbrev fr : ℕ → List Value → ℕ → Frame
  fr at regs line = record { procedure = me; at = at; registers = regs; line = line }

  abbrev Does : Frame → World → ℕ → Ending → Type 0
  Does f w at' o = Runs parts me locals size c f w at' o

  -- one instruction to the end of a statement
  passes_by : (i : Instr) (at at' line : ℕ) (regs env' regs' : List Value) (w w' : World) → at + 1 ≡ at' → slice_get me.instructions at ≡ Some i
      → act parts (Some i) (fr at regs line) c w ≡ Goes (fr (at + 1) regs' line) c w' → Holds locals env' regs' → length regs' ≡ size
      → length env' ≡ locals → w'.charges ≤ w.charges → Passes parts me locals size c (fr at regs line) w at' env' w'
  passes_by i at at' line regs env' regs' w w' e here is holds same long fewer = record {
    after = regs';
    line = line;
    leads = one parts (fr at regs line) (fr at' regs' line) c c w w' i here (is ∙ ap (λ n. Goes (fr n regs' line) c w') e);
    holds = holds;
    same = same;
    long = long;
    fewer = fewer;
  }

  pub set_run : (x : ℕ) (e : Expr) (line at line0 : ℕ) (env regs : List Value) (w : World) → x < locals → IsOperand locals e → length regs ≡ size
      → length env ≡ locals → Holds locals env regs → HasAt me.instructions at (set_code parts.shape temp x e line)
      → Does (fr at regs line0) w (at + length (set_code parts.shape temp x e line)) (set_local parts.shape x e line env w)
  set_run x e line at line0 env regs w lt ok same long holds has =
      let ce = expr_code parts.shape temp e 0 in let r = register parts.shape temp e 0 in
      let here = (has_back me.instructions (at + 1) ce _ has.1).0 in
      let len : at + 1 + length ce + 1 ≡ at + length (set_code parts.shape temp x e line) = omega (arith, length-append ce (instr.Copy (reg x) r ∷ [])) in
      charge_run parts me locals size c (fr at regs line0) w line _ _ has.0 (λ m is.
      let w1 = record w { charges = m } in
      value_run parts me locals size c temp 0 r line (at + 1) (at + 1 + length ce) _ regs w1 (value parts.shape e env w.heap) _
      (expr_runs parts me temp locals size lay valid c line w1 env e ok 0 (at + 1) regs same holds
      (has_front me.instructions (at + 1) ce _ has.1)) (λ v regs1 is_v kept same1.
      passes_by (instr.Copy (reg x) r) (at + 1 + length ce) _ line regs1 (slice_set env x v) (slice_set regs1 x v) w1 w1 len here
      (ap (λ u. Goes (fr (at + 1 + length ce + 1) (slice_set regs1 x u) line) c w1) is_v)
      (holds_set locals env regs1 x v (holds_kept temp locals lay 0 env regs regs1 holds kept) (omega (arith, valid _ _ here, same1))
      (omega arith)) (length-set regs1 x v ∙ same1 ∙ same) (length-set env x v ∙ long) (omega arith)))

  -- ---- prints

  print_last : (b : Bool) (i : Instr) (z : ℤ) (line at at' : ℕ) (env regs : List Value) (w : World) → at + 1 ≡ at' → length regs ≡ size
      → length env ≡ locals → Holds locals env regs → slice_get me.instructions at ≡ Some i
      → act parts (Some i) (fr at regs line) c w ≡ after_effect
      (choose b (Normal regs record w { printed = w.printed ++ z ∷ [] }) (Trapped Output line w)) (fr at regs line) c
      → Does (fr at regs line) w at' (choose b (Normal env record w { printed = w.printed ++ z ∷ [] }) (Trapped Output line w))
  print_last true i z line at at' env regs w e same long holds here is =
      passes_by i at at' line regs env regs w (record w { printed = w.printed ++ z ∷ [] }) e here is holds same long (omega arith)
  print_last false i z line at at' env regs w e same long holds here is = last parts (fr at regs line) c w _ i here is

  pub print_run : (e : Expr) (line at line0 : ℕ) (env regs : List Value) (w : World) → IsOperand locals e → length regs ≡ size → length env ≡ locals
      → Holds locals env regs → HasAt me.instructions at (print_code parts.shape temp e line)
      → Does (fr at regs line0) w (at + length (print_code parts.shape temp e line)) (print_value parts.shape e line env w)
  print_run e line at line0 env regs w ok same long holds has =
      let ce = expr_code parts.shape temp e 0 in let r = register parts.shape temp e 0 in
      let here = (has_back me.instructions (at + 1) ce _ has.1).0 in
      let len : at + 1 + length ce + 1 ≡ at + length (print_code parts.shape temp e line) = omega (arith, length-append ce (instr.Print r ∷ [])) in
      charge_run parts me locals size c (fr at regs line0) w line _ _ has.0 (λ m is.
      let w1 = record w { charges = m } in
      value_run parts me locals size c temp 0 r line (at + 1) (at + 1 + length ce) _ regs w1 (value parts.shape e env w.heap) _
      (expr_runs parts me temp locals size lay valid c line w1 env e ok 0 (at + 1) regs same holds
      (has_front me.instructions (at + 1) ce _ has.1)) (λ v regs1 is_v kept same1.
      print_last (nat_lt (length w.printed) (2 ^ 16)) (instr.Print r) (number_of v) line (at + 1 + length ce) _ env regs1 w1 len (same1 ∙ same) long
      (holds_kept temp locals lay 0 env regs regs1 holds kept) here
      (ap (λ u. after_effect (print_number (number_of u) line regs1 w1) (fr (at + 1 + length ce) regs1 line) c) is_v)))

  -- ---- returns

  pub return_run : (o : Option Expr) (line at line0 : ℕ) (env regs : List Value) (w : World) (at' : ℕ)
      → ((e : Expr) → o ≡ Some e → IsOperand locals e) → length regs ≡ size → Holds locals env regs
      → HasAt me.instructions at (return_code parts.shape temp o line) → Does (fr at regs line0) w at' (return_value parts.shape o line env w)
  return_run None line at line0 env regs w at' ok same holds has =
      charge_run parts me locals size c (fr at regs line0) w line _ _ has.0 (λ m is.
      record { by = λ k. (suc k, omega arith, step parts (fr (at + 1) regs line) c (record w { charges = m }) (instr.Return None) _ has.1.0 refl k); fewer = omega arith })
  return_run (Some e) line at line0 env regs w at' ok same holds has =
      let ce = expr_code parts.shape temp e 0 in let r = register parts.shape temp e 0 in
      let here = (has_back me.instructions (at + 1) ce _ has.1).0 in
      charge_run parts me locals size c (fr at regs line0) w line _ _ has.0 (λ m is.
      let w1 = record w { charges = m } in
      value_run parts me locals size c temp 0 r line (at + 1) (at + 1 + length ce) _ regs w1 (value parts.shape e env w.heap) _
      (expr_runs parts me temp locals size lay valid c line w1 env e (ok e refl) 0 (at + 1) regs same holds
      (has_front me.instructions (at + 1) ce _ has.1)) (λ v regs1 is_v kept same1.
      record {
        by = λ k. (
          suc k,
          omega arith,
          step parts (fr (at + 1 + length ce) regs1 line) c w1 (instr.Return (Some r)) (leave_to (Some v) c w1)
              here (ap (λ u. leave_to (Some u) c w1) is_v) k,
        );
        fewer = omega arith;
      }))

  -- ---- writes

  -- a write of a record's name, by its two tests
  checked_last : (b b' : Bool) (i : Instr) (n y : Name) (slot line at at' : ℕ) (env regs : List Value) (w : World) → at + 1 ≡ at' → length regs ≡ size
      → length env ≡ locals → Holds locals env regs → slice_get me.instructions at ≡ Some i
      → act parts (Some i) (fr at regs line) c w ≡ after_effect
      (choose b (choose b' (Trapped InDegree line w) (Normal regs (pointer_written w n slot (Some y)))) (Trapped NullTrap line w)) (fr at regs line) c
      → Does (fr at regs line) w at' (choose b (choose b' (Trapped InDegree line w) (Normal env (pointer_written w n slot (Some y)))) (Trapped NullTrap line w))
  checked_last true true i n y slot line at at' env regs w e same long holds here is = last parts (fr at regs line) c w _ i here is
  checked_last true false i n y slot line at at' env regs w e same long holds here is =
      passes_by i at at' line regs env regs w (pointer_written w n slot (Some y)) e here is holds same long (omega arith)
  checked_last false b' i n y slot line at at' env regs w e same long holds here is = last parts (fr at regs line) c w _ i here is

  pointer_last : (v : Value) (ty : TypeNo) (i : Instr) (n : Name) (slot line at at' : ℕ) (env regs : List Value) (w : World) → at + 1 ≡ at'
      → length regs ≡ size → length env ≡ locals → Holds locals env regs → slice_get me.instructions at ≡ Some i
      → act parts (Some i) (fr at regs line) c w ≡ after_effect (write_pointer parts.shape ty n slot v line regs w) (fr at regs line) c
      → Does (fr at regs line) w at' (write_pointer parts.shape ty n slot v line env w)
  pointer_last ANull ty i n slot line at at' env regs w e same long holds here is =
      passes_by i at at' line regs env regs w (pointer_written w n slot None) e here is holds same long (omega arith)
  pointer_last (ARecord y) ty i n slot line at at' env regs w e same long holds here is =
      checked_last (option_eq same_type (type_in w.heap y) (Some ty)) (is_full parts.shape w.heap n slot y) i n y slot line at at' env regs w e same long holds here is
  pointer_last (ANumber x) ty i n slot line at at' env regs w e same long holds here is = last parts (fr at regs line) c w _ i here is
  pointer_last (ATruth b) ty i n slot line at at' env regs w e same long holds here is = last parts (fr at regs line) c w _ i here is

  write_last : (kind : Option Kind) (v : Value) (i : Instr) (n : Name) (slot line at at' : ℕ) (env regs : List Value) (w : World) → at + 1 ≡ at'
      → length regs ≡ size → length env ≡ locals → Holds locals env regs → slice_get me.instructions at ≡ Some i
      → act parts (Some i) (fr at regs line) c w ≡ after_effect (write_kind parts.shape kind n slot v line regs w) (fr at regs line) c
      → Does (fr at regs line) w at' (write_kind parts.shape kind n slot v line env w)
  write_last None v i n slot line at at' env regs w e same long holds here is = last parts (fr at regs line) c w _ i here is
  write_last (Some Int) v i n slot line at at' env regs w e same long holds here is =
      passes_by i at at' line regs env regs w (value_written w n slot (number_of v)) e here is holds same long (omega arith)
  write_last (Some (Pointer ty)) v i n slot line at at' env regs w e same long holds here is =
      pointer_last v ty i n slot line at at' env regs w e same long holds here is

  pub set_root_run : (slot : ℕ) (e : Expr) (line at line0 : ℕ) (env regs : List Value) (w : World) → IsOperand locals e → length regs ≡ size
      → length env ≡ locals → Holds locals env regs → HasAt me.instructions at (set_root_code parts.shape temp slot e line)
      → Does (fr at regs line0) w (at + length (set_root_code parts.shape temp slot e line)) (set_root parts.shape slot e line env w)
  set_root_run slot e line at line0 env regs w ok same long holds has =
      let ce = expr_code parts.shape temp e 0 in let r = register parts.shape temp e 0 in
      let here = (has_back me.instructions (at + 1) ce _ has.1).0 in
      let len : at + 1 + length ce + 1 ≡ at + length (set_root_code parts.shape temp slot e line) = omega (arith, length-append ce (instr.Setroot (slot_no slot) r ∷ [])) in
      let kind = kind_in parts.shape w.heap root_name slot in
      charge_run parts me locals size c (fr at regs line0) w line _ _ has.0 (λ m is.
      let w1 = record w { charges = m } in
      value_run parts me locals size c temp 0 r line (at + 1) (at + 1 + length ce) _ regs w1 (value parts.shape e env w.heap) _
      (expr_runs parts me temp locals size lay valid c line w1 env e ok 0 (at + 1) regs same holds
      (has_front me.instructions (at + 1) ce _ has.1)) (λ v regs1 is_v kept same1.
      write_last kind v (instr.Setroot (slot_no slot) r) root_name slot line (at + 1 + length ce) _ env regs1 w1 len (same1 ∙ same) long
      (holds_kept temp locals lay 0 env regs regs1 holds kept) here
      (ap (λ u. after_effect (write_kind parts.shape kind root_name slot u line regs1 w1) (fr (at + 1 + length ce) regs1 line) c) is_v)))

  -- the check of an object, and what follows it
  check_run : (v : Value) (o : Reg) (line at at' : ℕ) (regs : List Value) (w : World) (go : Name → Ending) → held regs o ≡ v
      → slice_get me.instructions at ≡ Some (instr.Check o) → ((n : Name) → v ≡ ARecord n → Does (fr (at + 1) regs line) w at' (go n))
      → Does (fr at regs line) w at' (with_object v line w go)
  check_run (ARecord n) o line at at' regs w go e here next =
      runs_after parts me locals size c (fr at regs line) (fr (at + 1) regs line) w w at' (go n) (omega arith)
      (one parts (fr at regs line) (fr (at + 1) regs line) c c w w (instr.Check o) here
      (ap (λ u. after_effect (with_object u line w (λ n. Normal regs w)) (fr at regs line) c) e)) (next n refl)
  check_run ANull o line at at' regs w go e here next = last parts (fr at regs line) c w _ (instr.Check o) here
      (ap (λ u. after_effect (with_object u line w (λ n. Normal regs w)) (fr at regs line) c) e)
  check_run (ANumber x) o line at at' regs w go e here next =
      last parts (fr at regs line) c w _ (instr.Check o) here (ap (λ u. after_effect (with_object u line w (λ n. Normal regs w)) (fr at regs line) c) e)
  check_run (ATruth b) o line at at' regs w go e here next = last parts (fr at regs line) c w _ (instr.Check o) here
      (ap (λ u. after_effect (with_object u line w (λ n. Normal regs w)) (fr at regs line) c) e)

  pub store_run : (o : Expr) (slot : ℕ) (e : Expr) (line at line0 : ℕ) (env regs : List Value) (w : World) → IsOperand locals o → IsOperand locals e
      → length regs ≡ size → length env ≡ locals → Holds locals env regs → HasAt me.instructions at (store_code parts.shape temp o slot e line)
      → Does (fr at regs line0) w (at + length (store_code parts.shape temp o slot e line)) (store_field parts.shape o slot e line env w)
  store_run o slot e line at line0 env regs w ok_o ok_e same long holds has =
      let co = expr_code parts.shape temp o 0 in let ro = register parts.shape temp o 0 in
      let ce = expr_code parts.shape temp e 1 in let re = register parts.shape temp e 1 in
      let h1 = has_back me.instructions (at + 1) co _ has.1 in
      let at1 = at + 1 + length co in
      let at2 = at1 + 1 + length ce in
      let h2 = has_back me.instructions (at1 + 1) ce _ h1.1 in
      let len : at2 + 1 ≡ at + length (store_code parts.shape temp o slot e line) =
      omega (
        arith,
        length-append co (instr.Check ro ∷ (ce ++ instr.Store ro (slot_no slot) re ∷ [])),
        length-append ce (instr.Store ro (slot_no slot) re ∷ []),
      ) in
      charge_run parts me locals size c (fr at regs line0) w line _ _ has.0 (λ m is.
      let w1 = record w { charges = m } in
      value_run parts me locals size c temp 0 ro line (at + 1) at1 _ regs w1 (value parts.shape o env w.heap) _
      (expr_runs parts me temp locals size lay valid c line w1 env o ok_o 0 (at + 1) regs same holds
      (has_front me.instructions (at + 1) co _ has.1)) (λ object regs1 is_o kept same1.
      check_run object ro line at1 _ regs1 w1 _ is_o h1.0 (λ n is_n.
      value_run parts me locals size c temp 1 re line (at1 + 1) at2 _ regs1 w1 (value parts.shape e env w.heap) _
      (expr_runs parts me temp locals size lay valid c line w1 env e ok_e 1 (at1 + 1) regs1 (same1 ∙ same)
      (holds_kept temp locals lay 0 env regs regs1 holds kept) (has_front me.instructions (at1 + 1) ce _ h1.1)) (λ v regs2 is_v kept2 same2.
      write_last (kind_in parts.shape w.heap n slot) v (instr.Store ro (slot_no slot) re) n slot line at2 _ env regs2 w1 len (same2 ∙ same1 ∙ same)
      long (holds_kept temp locals lay 1 env regs1 regs2 (holds_kept temp locals lay 0 env regs regs1 holds kept) kept2) h2.0 (
      ap (λ u. after_effect (with_object u line w1 (λ n. write_kind parts.shape (kind_in parts.shape w.heap n slot) n slot (held regs2 re) line regs2
      w1)) (fr at2 regs2 line) c) (kept2.at ro.0 (λ k' kind le. register_apart parts.shape temp locals lay o ok_o 0 k' kind (omega arith)) ∙ is_o ∙ is_n)
      ∙ ap (λ u. after_effect (write_kind parts.shape (kind_in parts.shape w.heap n slot) n slot u line regs2 w1) (fr at2 regs2 line) c) is_v)))))

  -- the test of an index, and what follows it
  bound_run : (o : Option ℕ) (i : Reg) (elements line at at' : ℕ) (regs : List Value) (w : World) (go : ℕ → Ending)
      → index_of elements (number_of (held regs i)) ≡ o → slice_get me.instructions at ≡ Some (instr.Bound i elements)
      → ((k : ℕ) → o ≡ Some k → Does (fr (at + 1) regs line) w at' (go k)) → Does (fr at regs line) w at' (with_index o line w go)
  bound_run (Some k) i elements line at at' regs w go e here next =
      runs_after parts me locals size c (fr at regs line) (fr (at + 1) regs line) w w at' (go k) (omega arith)
      (one parts (fr at regs line) (fr (at + 1) regs line) c c w w (instr.Bound i elements) here
      (ap (λ u. after_effect (with_index u line w (λ k. Normal regs w)) (fr at regs line) c) e)) (next k refl)
  bound_run None i elements line at at' regs w go e here next =
      last parts (fr at regs line) c w _ (instr.Bound i elements) here (ap (λ u. after_effect (with_index u line w (λ k. Normal regs w)) (fr at regs line) c) e)

  -- the record and the index stay in their registers while the value is evaluated, so the write's own tests pass
  pub store_element_run : (o : Expr) (slot elements : ℕ) (i e : Expr) (line at line0 : ℕ) (env regs : List Value) (w : World) → IsOperand locals o
      → IsOperand locals i → IsOperand locals e → length regs ≡ size → length env ≡ locals → Holds locals env regs
      → HasAt me.instructions at (store_element_code parts.shape temp o slot elements i e line)
      → Does (fr at regs line0) w (at + length (store_element_code parts.shape temp o slot elements i e line))
      (store_element parts.shape o slot elements i e line env w)
  store_element_run o slot elements i e line at line0 env regs w ok_o ok_i ok_e same long holds has =
      let co = expr_code parts.shape temp o 0 in let ro = register parts.shape temp o 0 in
      let ci = expr_code parts.shape temp i 1 in let ri = register parts.shape temp i 1 in
      let ce = expr_code parts.shape temp e 2 in let re = register parts.shape temp e 2 in
      let storex = instr.Storex ro (slot_no slot) elements ri re in
      let at1 = at + 1 + length co in
      let at2 = at1 + 1 + length ci in
      let at3 = at2 + 1 + length ce in
      let h1 = has_back me.instructions (at + 1) co _ has.1 in
      let h2 = has_back me.instructions (at1 + 1) ci _ h1.1 in
      let h3 = has_back me.instructions (at2 + 1) ce _ h2.1 in
      let len : at3 + 1 ≡ at + length (store_element_code parts.shape temp o slot elements i e line) =
      omega (
        arith,
        length-append co (instr.Check ro ∷ (ci ++ (instr.Bound ri elements ∷ (ce ++ storex ∷ [])))),
        length-append ci (instr.Bound ri elements ∷ (ce ++ storex ∷ [])),
        length-append ce (storex ∷ []),
      ) in
      charge_run parts me locals size c (fr at regs line0) w line _ _ has.0 (λ m is.
      let w1 = record w { charges = m } in
      value_run parts me locals size c temp 0 ro line (at + 1) at1 _ regs w1 (value parts.shape o env w.heap) _
      (expr_runs parts me temp locals size lay valid c line w1 env o ok_o 0 (at + 1) regs same holds
      (has_front me.instructions (at + 1) co _ has.1)) (λ object regs1 is_o kept same1.
      let holds1 = holds_kept temp locals lay 0 env regs regs1 holds kept in
      check_run object ro line at1 _ regs1 w1 _ is_o h1.0 (λ n is_n.
      value_run parts me locals size c temp 1 ri line (at1 + 1) at2 _ regs1 w1 (value parts.shape i env w.heap) _
      (expr_runs parts me temp locals size lay valid c line w1 env i ok_i 1 (at1 + 1) regs1 (same1 ∙ same) holds1
      (has_front me.instructions (at1 + 1) ci _ h1.1)) (λ index regs2 is_i kept2 same2.
      let holds2 = holds_kept temp locals lay 1 env regs1 regs2 holds1 kept2 in
      bound_run (index_of elements (number_of index)) ri elements line at2 _ regs2 w1 _ (ap (λ u. index_of elements (number_of u)) is_i) h2.0 (λ k is_k.
      value_run parts me locals size c temp 2 re line (at2 + 1) at3 _ regs2 w1 (value parts.shape e env w.heap) _
      (expr_runs parts me temp locals size lay valid c line w1 env e ok_e 2 (at2 + 1) regs2 (same2 ∙ same1 ∙ same) holds2
      (has_front me.instructions (at2 + 1) ce _ h2.1)) (λ v regs3 is_v kept3 same3.
      write_last (kind_in parts.shape w.heap n (slot + k)) v storex n (slot + k) line at3 _ env regs3 w1 len (same3 ∙ same2 ∙ same1 ∙ same) long
      (holds_kept temp locals lay 2 env regs2 regs3 holds2 kept3) h3.0 (
      ap (λ u. after_effect (with_object u line w1 (λ n. with_index (index_of elements (number_of (held regs3 ri))) line w1
      (λ k. write_kind parts.shape (kind_in parts.shape w.heap n (slot + k)) n (slot + k) (held regs3 re) line regs3 w1))) (fr at3 regs3 line) c)
      (kept3.at ro.0 (λ k' kind le. register_apart parts.shape temp locals lay o ok_o 0 k' kind (omega arith))
      ∙ kept2.at ro.0 (λ k' kind le. register_apart parts.shape temp locals lay o ok_o 0 k' kind (omega arith)) ∙ is_o ∙ is_n)
      ∙ ap (λ u. after_effect (with_index u line w1 (λ k. write_kind parts.shape (kind_in parts.shape w.heap n (slot + k)) n (slot + k)
      (held regs3 re) line regs3 w1)) (fr at3 regs3 line) c)
      (ap (λ u. index_of elements (number_of u)) (kept3.at ri.0
      (λ k' kind le. register_apart parts.shape temp locals lay i ok_i 1 k' kind (omega arith)) ∙ is_i) ∙ is_k)
      ∙ ap (λ u. after_effect (write_kind parts.shape (kind_in parts.shape w.heap n (slot + k)) n (slot + k) u line regs3 w1) (fr at3 regs3 line) c) is_v)))))))

  -- ---- new records

  make_last : (b : Bool) (x : ℕ) (ty : TypeNo) (i : Instr) (line at : ℕ) (env regs : List Value) (w : World) → x < length regs → x < length env
      → length regs ≡ size → length env ≡ locals → Holds locals env regs → slice_get me.instructions at ≡ Some i
      → act parts (Some i) (fr at regs line) c w ≡ after_effect
      (choose b (put (reg x) (ARecord (next_name w)) regs (record_made parts.shape ty w)) (Trapped NullTrap line w)) (fr at regs line) c
      → Does (fr at regs line) w (at + 1) (choose b (Normal (slice_set env x (ARecord (next_name w))) (record_made parts.shape ty w)) (Trapped NullTrap line w))
  make_last true x ty i line at env regs w lt lt' same long holds here is =
      let v = ARecord (next_name w) in
      passes_by i at (at + 1) line regs (slice_set env x v) (slice_set regs x v) w (record_made parts.shape ty w) refl here is
      (holds_set locals env regs x v holds lt lt') (length-set regs x v ∙ same) (length-set env x v ∙ long) (omega arith)
  make_last false x ty i line at env regs w lt lt' same long holds here is = last parts (fr at regs line) c w _ i here is

  pub make_run : (x : ℕ) (ty : TypeNo) (line at line0 : ℕ) (env regs : List Value) (w : World) → x < locals → length regs ≡ size → length env ≡ locals
      → Holds locals env regs → HasAt me.instructions at (instr.Charge line ∷ (instr.New (reg x) ty ∷ []))
      → Does (fr at regs line0) w (at + 2) (make parts.shape x ty line env w)
  make_run x ty line at line0 env regs w lt same long holds has =
      let len : at + 1 + 1 ≡ at + 2 = omega arith in
      let here = has.1.0 in
      charge_run parts me locals size c (fr at regs line0) w line _ _ has.0 (λ m is.
      let w1 = record w { charges = m } in
      subst (λ n. Does (fr (at + 1) regs line) w1 n (choose (is_target parts.shape ty)
      (Normal (slice_set env x (ARecord (next_name w1))) (record_made parts.shape ty w1)) (Trapped NullTrap line w1))) len
      (make_last (is_target parts.shape ty) x ty (instr.New (reg x) ty) line (at + 1) env regs w1 (omega (arith, valid _ _ here)) (omega arith)
      same long holds here refl))
