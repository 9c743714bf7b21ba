-- The code of an expression puts its value into its register, or traps as it does.
use Rattle.std.proofs.Common.{◌≡◌, ◌≢◌, ℕ, ◌+◌, ◌<◌, ◌≤◌, neg_ℤ, List, [], ◌∷◌, ◌++◌, length, Some, refl, ap, ◌∙◌, subst, arith, length-append, length-set, get_or-set_same, get_or-set_other}
use Rattle.std.specs.Prelude.{slice_get, slice_set}
use Rattle.pst_base.specs.declared.names.Kind.{Kind}
use Rattle.pst_base.specs.declared.names.Kind.TheVariants.{Int, Pointer}
use Rattle.pst_base.specs.declared.names.Op.{Op}
use Rattle.pst_base.specs.declared.names.Op.TheVariants as op
use Rattle.pst_base.specs.declared.shape.TypeShape.{TypeShape}
use Rattle.pst_base.specs.Name.{root_name}
use Rattle.pst_program.specs.declared.meaning.Value.{Value}
use Rattle.pst_program.specs.declared.meaning.Value.TheVariants.{Number as ANumber, Truth as ATruth, Null as ANull, Record as ARecord}
use Rattle.pst_program.specs.Syntax.{Expr, Number, Null, Local, Root, Parens, Load, LoadIndexed, Negate, Not, Binary}
use Rattle.pst_program.specs.Value.{Answer, Gives, Traps, and_then, number_of, limited, operate, index_of, object_of, load, load_element, value}
use Rattle.pst_program.specs.Meaning.{World, Normal, with_object}
use Rattle.pst_program.specs.Typed.{root_kind}
use Rattle.pst_code.specs.declared.instr.Reg.{Reg}
use Rattle.pst_code.specs.declared.instr.Instr.{Instr}
use Rattle.pst_code.specs.declared.instr.Instr.TheVariants as instr
use Rattle.pst_code.specs.declared.procedure.Procedure.{Procedure}
use Rattle.pst_code.specs.declared.procedure.Parts.{Parts}
use Rattle.pst_code.specs.Machine.{Frame, Caller, Goes, held, put_answer, after_effect, act}
use Rattle.pst_translation.specs.Code.{Temp, slot_no, kind_or, register, expr_code}
use Rattle.pst_translation.proofs.Leading.{HasAt, has_front, has_back, WritesBelow, Leads, stays, leads_on, ends_on, one, last, Layout, Kept, kept_all, kept_on, Holds, holds_kept, ExprRuns}
use Rattle.pst_translation.proofs.Operands.{IsOperand}

module _ (shape : List TypeShape) (temp : Temp) (locals : ℕ) (lay : Layout temp locals) where
  -- the register of an expression is no temporary one of a higher level
  pub register_apart : (e : Expr) → IsOperand locals e → (k k' : ℕ) (kind : Kind) → k < k' → (register shape temp e k).0 ≢ (temp k' kind).0
  register_apart (Number n) ok k k' kind lt e = absurd (omega (arith, lay.apart _ _ _ _ e))
  register_apart (Null ty) ok k k' kind lt e = absurd (omega (arith, lay.apart _ _ _ _ e))
  register_apart (Local x) ok k k' kind lt e = absurd (omega (arith, lay.above k' kind))
  register_apart (Root slot) ok k k' kind lt e = absurd (omega (arith, lay.apart _ _ _ _ e))
  register_apart (Parens a) ok k k' kind lt e = register_apart a ok k k' kind lt e
  register_apart (Load a slot kind1) ok k k' kind lt e = absurd (omega (arith, lay.apart _ _ _ _ e))
  register_apart (LoadIndexed a slot elements i kind1) ok k k' kind lt e = absurd (omega (arith, lay.apart _ _ _ _ e))
  register_apart (Negate a) ok k k' kind lt e = absurd (omega (arith, lay.apart _ _ _ _ e))
  register_apart (Not a) ok k k' kind lt e = absurd ok
  register_apart (Binary o a b) ok k k' kind lt e = absurd (omega (arith, lay.apart _ _ _ _ e))

module _ (parts : Parts) (me : Procedure) (temp : Temp) (locals size : ℕ) (lay : Layout temp locals)
    (valid : (i : ℕ) (x : Instr) → slice_get me.instructions i ≡ Some x → WritesBelow size x) (c : List Caller) (line : ℕ) (w : World) (env : List Value) where
  abbrev fr : ℕ → List Value → Frame
  fr at regs = record { procedure = me; at = at; registers = regs; line = line }

  abbrev Does : ℕ → Reg → ℕ → List Value → ℕ → Answer → Type 0
  Does k r at regs at' a = ExprRuns parts me temp k r c w line at regs at' a

  -- the last instruction puts an answer into a temporary register
  finish : (i : Instr) (k : ℕ) (kind : Kind) (at at1 at' : ℕ) (regs regs1 : List Value) (a : Answer) → at1 + 1 ≡ at' → (temp k kind).0 < length regs1
      → Leads parts (fr at regs) c w (fr at1 regs1) c w → Kept temp k regs regs1 → length regs1 ≡ length regs → slice_get me.instructions at1 ≡ Some i
      → act parts (Some i) (fr at1 regs1) c w ≡ after_effect (put_answer (temp k kind) a line regs1 w) (fr at1 regs1) c → Does k (temp k kind) at regs at' a
  finish i k kind at at1 at' regs regs1 (Traps t) e lt l kept same here act_is = ends_on parts _ _ _ _ _ _ _ l (last parts (fr at1 regs1) c w _ i here act_is)
  finish i k kind at at1 at' regs regs1 (Gives v) e lt l kept same here act_is = record {
    after = slice_set regs1 (temp k kind).0 v;
    leads = leads_on parts _ _ _ _ _ _ _ _ _ l (one parts (fr at1 regs1) (fr at' (slice_set regs1 (temp k kind).0 v)) c c w w i here
        (act_is ∙ ap (λ n. Goes (fr n (slice_set regs1 (temp k kind).0 v)) c w) e));
    value_is = get_or-set_same regs1 (temp k kind).0 v ANull lt;
    kept = record { at = λ r h. get_or-set_other regs1 (temp k kind).0 r v ANull (h k kind (omega arith)) ∙ kept.at r h };
    same = length-set regs1 (temp k kind).0 v ∙ same;
  }

  -- one operand and an instruction
  one_run : (i : Instr) (operation : Value → Answer) (k : ℕ) (kind : Kind) (r : Reg) (ce : List Instr) (at : ℕ) (regs : List Value) (a : Answer)
      → (temp k kind).0 < length regs → HasAt me.instructions at (ce ++ i ∷ [])
      → ((f : Frame) → act parts (Some i) f c w ≡ after_effect (put_answer (temp k kind) (operation (held f.registers r)) f.line f.registers w) f c)
      → Does k r at regs (at + length ce) a → Does k (temp k kind) at regs (at + length (ce ++ i ∷ [])) (and_then a operation)
  one_run i operation k kind r ce at regs (Traps t) lt has is ra = ra
  one_run i operation k kind r ce at regs (Gives v) lt has is ra =
      let at1 = at + length ce in
      let here = (has_back me.instructions at ce (i ∷ []) has).0 in
      let len : at1 + 1 ≡ at + length (ce ++ i ∷ []) = omega (arith, length-append ce (i ∷ [])) in
      finish i k kind at at1 _ regs ra.after (operation v) len (omega (arith, ra.same)) ra.leads ra.kept ra.same here (is (fr at1 ra.after)
      ∙ ap (λ x. after_effect (put_answer (temp k kind) (operation x) line ra.after w) (fr at1 ra.after) c) ra.value_is)

  -- two operands and an instruction
  two_run : (i : Instr) (operation : Value → Value → Answer) (k : ℕ) (kind : Kind) (x y : Reg) (ca cb : List Instr) (at : ℕ) (regs : List Value)
      (a b : Answer) → (temp k kind).0 < length regs → HasAt me.instructions at (ca ++ (cb ++ i ∷ []))
      → ((f : Frame) → act parts (Some i) f c w ≡ after_effect
      (put_answer (temp k kind) (operation (held f.registers x) (held f.registers y)) f.line f.registers w) f c)
      → ((k' : ℕ) (kind' : Kind) → k + 1 ≤ k' → x.0 ≢ (temp k' kind').0) → Does k x at regs (at + length ca) a
      → ((regs1 : List Value) → length regs1 ≡ length regs → Kept temp k regs regs1
      → Does (k + 1) y (at + length ca) regs1 (at + length ca + length cb) b)
      → Does k (temp k kind) at regs (at + length (ca ++ (cb ++ i ∷ []))) (and_then a (λ v. and_then b (operation v)))
  two_run i operation k kind x y ca cb at regs (Traps t) b lt has is apart ra rb = ra
  two_run i operation k kind x y ca cb at regs (Gives v) (Traps t) lt has is apart ra rb =
      ends_on parts _ _ _ _ _ _ _ ra.leads (rb ra.after ra.same ra.kept)
  two_run i operation k kind x y ca cb at regs (Gives v) (Gives u) lt has is apart ra rb =
      let b = rb ra.after ra.same ra.kept in
      let at1 = at + length ca + length cb in
      let here = (has_back me.instructions (at + length ca) cb (i ∷ []) (has_back me.instructions at ca (cb ++ i ∷ []) has)).0 in
      let len : at1 + 1 ≡ at + length (ca ++ (cb ++ i ∷ [])) = omega (arith, length-append ca (cb ++ i ∷ []), length-append cb (i ∷ [])) in
      finish i k kind at at1 _ regs b.after (operation v u) len (omega (arith, ra.same, b.same)) (leads_on parts _ _ _ _ _ _ _ _ _ ra.leads b.leads)
      (kept_on temp k (k + 1) regs ra.after b.after (omega arith) ra.kept b.kept) (b.same ∙ ra.same) here (is (fr at1 b.after)
      ∙ ap (λ z. after_effect (put_answer (temp k kind) (operation z (held b.after y)) line b.after w) (fr at1 b.after) c) (b.kept.at x.0 apart ∙ ra.value_is)
      ∙ ap (λ z. after_effect (put_answer (temp k kind) (operation v z) line b.after w) (fr at1 b.after) c) b.value_is)

  -- a check, by what its register holds
  check_is : (x : Reg) (at : ℕ) (regs : List Value) (v : Value) → held regs x ≡ v
      → act parts (Some (instr.Check x)) (fr at regs) c w ≡ after_effect (with_object v line w (λ n. Normal regs w)) (fr at regs) c
  check_is x at regs v is = ap (λ u. after_effect (with_object u line w (λ n. Normal regs w)) (fr at regs) c) is

  -- a record and an index, with the check of the record between them
  element_run : (slot elements : ℕ) (k : ℕ) (kind : Kind) (x y : Reg) (ca cb : List Instr) (at : ℕ) (regs : List Value) (a b : Answer)
      → (temp k kind).0 < length regs → HasAt me.instructions at
      (ca ++ (instr.Check x ∷ (cb ++ instr.Loadx (temp k kind) x (slot_no slot) elements y ∷ [])))
      → ((k' : ℕ) (kind' : Kind) → k + 1 ≤ k' → x.0 ≢ (temp k' kind').0) → Does k x at regs (at + length ca) a
      → ((regs1 : List Value) → length regs1 ≡ length regs → Kept temp k regs regs1
      → Does (k + 1) y (at + length ca + 1) regs1 (at + length ca + 1 + length cb) b)
      → Does k (temp k kind) at regs (at + length (ca ++ (instr.Check x ∷ (cb ++ instr.Loadx (temp k kind) x (slot_no slot) elements y ∷ []))))
      (and_then a (λ v. and_then (object_of v) (λ object. and_then b
      (λ index. load_element parts.shape w.heap slot (index_of elements (number_of index)) object))))
  element_run slot elements k kind x y ca cb at regs (Traps t) b lt has apart ra rb = ra
  element_run slot elements k kind x y ca cb at regs (Gives ANull) b lt has apart ra rb =
      ends_on parts _ _ _ _ _ _ _ ra.leads (last parts (fr (at + length ca) ra.after) c w _ (instr.Check x) (has_back me.instructions at ca _ has).0
      (check_is x (at + length ca) ra.after _ ra.value_is))
  element_run slot elements k kind x y ca cb at regs (Gives (ANumber n)) b lt has apart ra rb =
      ends_on parts _ _ _ _ _ _ _ ra.leads (last parts (fr (at + length ca) ra.after) c w _ (instr.Check x) (has_back me.instructions at ca _ has).0
      (check_is x (at + length ca) ra.after _ ra.value_is))
  element_run slot elements k kind x y ca cb at regs (Gives (ATruth t)) b lt has apart ra rb =
      ends_on parts _ _ _ _ _ _ _ ra.leads (last parts (fr (at + length ca) ra.after) c w _ (instr.Check x) (has_back me.instructions at ca _ has).0
      (check_is x (at + length ca) ra.after _ ra.value_is))
  element_run slot elements k kind x y ca cb at regs (Gives (ARecord n)) (Traps t) lt has apart ra rb =
      let checked = one parts (fr (at + length ca) ra.after) (fr (at + length ca + 1) ra.after) c c w w (instr.Check x)
      (has_back me.instructions at ca _ has).0 (check_is x (at + length ca) ra.after _ ra.value_is) in
      ends_on parts _ _ _ _ _ _ _ (leads_on parts _ _ _ _ _ _ _ _ _ ra.leads checked) (rb ra.after ra.same ra.kept)
  element_run slot elements k kind x y ca cb at regs (Gives (ARecord n)) (Gives u) lt has apart ra rb =
      let i = instr.Loadx (temp k kind) x (slot_no slot) elements y in
      let b = rb ra.after ra.same ra.kept in
      let at1 = at + length ca in
      let at2 = at1 + 1 + length cb in
      let h1 = has_back me.instructions at ca _ has in
      let here = (has_back me.instructions (at1 + 1) cb (i ∷ []) h1.1).0 in
      let checked = one parts (fr at1 ra.after) (fr (at1 + 1) ra.after) c c w w (instr.Check x) h1.0 (check_is x at1 ra.after _ ra.value_is) in
      let len : at2 + 1 ≡ at + length (ca ++ (instr.Check x ∷ (cb ++ i ∷ []))) = omega (arith, length-append ca (instr.Check x ∷ (cb ++ i ∷ [])), length-append cb (i ∷ [])) in
      finish i k kind at at2 _ regs b.after (load_element parts.shape w.heap slot (index_of elements (number_of u)) (ARecord n)) len
      (omega (arith, ra.same, b.same)) (leads_on parts _ _ _ _ _ _ _ _ _ (leads_on parts _ _ _ _ _ _ _ _ _ ra.leads checked) b.leads)
      (kept_on temp k (k + 1) regs ra.after b.after (omega arith) ra.kept b.kept) (b.same ∙ ra.same) here (
      ap (λ z. after_effect (put_answer (temp k kind) (and_then (object_of z)
      (load_element parts.shape w.heap slot (index_of elements (number_of (held b.after y))))) line b.after w) (fr at2 b.after) c)
      (b.kept.at x.0 apart ∙ ra.value_is)
      ∙ ap (λ z. after_effect (put_answer (temp k kind) (load_element parts.shape w.heap slot (index_of elements (number_of z)) (ARecord n)) line b.after w) (fr at2 b.after) c) b.value_is)

  -- what the code of an expression does, at each level and place
  abbrev ExprDoes : Expr → Type 0
  ExprDoes e = (k at : ℕ) (regs : List Value) → length regs ≡ size → Holds locals env regs → HasAt me.instructions at (expr_code parts.shape temp e k)
      → Does k (register parts.shape temp e k) at regs (at + length (expr_code parts.shape temp e k)) (value parts.shape e env w.heap)

  -- an operator that gives a number
  sum_runs : (o : Op) (i : Instr) (a b : Expr) → IsOperand locals a → (k at : ℕ) (regs : List Value) → length regs ≡ size → Holds locals env regs
      → (WritesBelow size i → (temp k Int).0 < size) → HasAt me.instructions at
      (expr_code parts.shape temp a k ++ (expr_code parts.shape temp b (k + 1) ++ i ∷ []))
      → ((f : Frame) → act parts (Some i) f c w ≡ after_effect
      (put_answer (temp k Int) (operate o (held f.registers (register parts.shape temp a k)) (held f.registers (register parts.shape temp b (k + 1))))
      f.line f.registers w) f c) → ExprDoes a → ExprDoes b → Does k (temp k Int) at regs
      (at + length (expr_code parts.shape temp a k ++ (expr_code parts.shape temp b (k + 1) ++ i ∷ [])))
      (and_then (value parts.shape a env w.heap) (λ v. and_then (value parts.shape b env w.heap) (operate o v)))
  sum_runs o i a b ok k at regs len holds writes has is left right =
      let ca = expr_code parts.shape temp a k in let cb = expr_code parts.shape temp b (k + 1) in
      let h1 = has_back me.instructions at ca _ has in
      let below = writes (valid _ _ (has_back me.instructions _ cb _ h1).0) in
      two_run i (operate o) k Int (register parts.shape temp a k) (register parts.shape temp b (k + 1)) ca cb at regs _ _ (omega (arith, below)) has
      is (λ k' kind' le. register_apart parts.shape temp locals lay a ok k k' kind' (omega arith))
      (left k at regs len holds (has_front me.instructions at ca _ has))
      (λ regs1 same kept. right (k + 1) _ regs1 (same ∙ len) (holds_kept temp locals lay k env regs regs1 holds kept) (has_front me.instructions _ cb _ h1))

  pub expr_runs : (e : Expr) → IsOperand locals e → ExprDoes e
  expr_runs (Number n) ok k at regs len holds has =
      finish (instr.Const (temp k Int) n) k Int at at _ regs regs (Gives (ANumber n)) refl (omega (arith, valid _ _ has.0)) (stays parts _ _ _) (kept_all temp k regs) refl has.0 refl
  expr_runs (Null ty) ok k at regs len holds has =
      finish (instr.Null (temp k (Pointer ty))) k (Pointer ty) at at _ regs regs (Gives ANull) refl (omega (arith, valid _ _ has.0)) (stays parts _ _ _) (kept_all temp k regs) refl has.0 refl
  expr_runs (Local x) ok k at regs len holds has =
      let e : at ≡ at + 0 = omega arith in
      record {
        after = regs;
        leads = subst (λ n. Leads parts (fr at regs) c w (fr n regs) c w) e (stays parts _ _ _);
        value_is = holds.at x ok;
        kept = kept_all temp k regs;
        same = refl;
      }
  expr_runs (Root slot) ok k at regs len holds has =
      let kind = kind_or (root_kind parts.shape slot) in
      finish (instr.Root (temp k kind) (slot_no slot)) k kind at at _ regs regs (load parts.shape w.heap slot (ARecord root_name)) refl
      (omega (arith, valid _ _ has.0)) (stays parts _ _ _) (kept_all temp k regs) refl has.0 refl
  expr_runs (Parens e) ok k at regs len holds has = expr_runs e ok k at regs len holds has
  expr_runs (Load e slot kind) ok k at regs len holds has =
      let ce = expr_code parts.shape temp e k in
      one_run (instr.Load (temp k kind) (register parts.shape temp e k) (slot_no slot)) (load parts.shape w.heap slot) k kind
      (register parts.shape temp e k) ce at regs _ (omega (arith, valid _ _ (has_back me.instructions at ce _ has).0)) has (λ f. refl)
      (expr_runs e ok k at regs len holds (has_front me.instructions at ce _ has))
  expr_runs (LoadIndexed e slot elements i kind) ok k at regs len holds has =
      let ce = expr_code parts.shape temp e k in let x = register parts.shape temp e k in
      let ci = expr_code parts.shape temp i (k + 1) in let y = register parts.shape temp i (k + 1) in
      let h1 = has_back me.instructions at ce _ has in
      let below : (temp k kind).0 < size = valid _ _ (has_back me.instructions (at + length ce + 1) ci _ h1.1).0 in
      element_run slot elements k kind x y ce ci at regs _ _ (omega (arith, below)) has
      (λ k' kind' le. register_apart parts.shape temp locals lay e ok.0 k k' kind' (omega arith))
      (expr_runs e ok.0 k at regs len holds (has_front me.instructions at ce _ has))
      (λ regs1 same kept. expr_runs i ok.1 (k + 1) _ regs1 (same ∙ len) (holds_kept temp locals lay k env regs regs1 holds kept)
      (has_front me.instructions _ ci _ h1.1))
  expr_runs (Negate e) ok k at regs len holds has =
      let ce = expr_code parts.shape temp e k in
      one_run (instr.Neg (temp k Int) (register parts.shape temp e k)) (λ v. limited (neg_ℤ (number_of v))) k Int (register parts.shape temp e k) ce
      at regs _ (omega (arith, valid _ _ (has_back me.instructions at ce _ has).0)) has (λ f. refl)
      (expr_runs e ok k at regs len holds (has_front me.instructions at ce _ has))
  expr_runs (Not e) ok k at regs len holds has = absurd ok
  expr_runs (Binary op.Add a b) ok k at regs len holds has =
      sum_runs op.Add (instr.Add (temp k Int) (register parts.shape temp a k) (register parts.shape temp b (k + 1))) a b ok.0 k at regs len holds
      (λ lt. lt) has (λ f. refl) (expr_runs a ok.0) (expr_runs b ok.1)
  expr_runs (Binary op.Sub a b) ok k at regs len holds has =
      sum_runs op.Sub (instr.Sub (temp k Int) (register parts.shape temp a k) (register parts.shape temp b (k + 1))) a b ok.0 k at regs len holds
      (λ lt. lt) has (λ f. refl) (expr_runs a ok.0) (expr_runs b ok.1)
  expr_runs (Binary op.Mul a b) ok k at regs len holds has =
      sum_runs op.Mul (instr.Mul (temp k Int) (register parts.shape temp a k) (register parts.shape temp b (k + 1))) a b ok.0 k at regs len holds
      (λ lt. lt) has (λ f. refl) (expr_runs a ok.0) (expr_runs b ok.1)
  expr_runs (Binary op.Div a b) ok k at regs len holds has =
      sum_runs op.Div (instr.Div (temp k Int) (register parts.shape temp a k) (register parts.shape temp b (k + 1))) a b ok.0 k at regs len holds
      (λ lt. lt) has (λ f. refl) (expr_runs a ok.0) (expr_runs b ok.1)
  expr_runs (Binary op.Rem a b) ok k at regs len holds has =
      sum_runs op.Rem (instr.Rem (temp k Int) (register parts.shape temp a k) (register parts.shape temp b (k + 1))) a b ok.0 k at regs len holds
      (λ lt. lt) has (λ f. refl) (expr_runs a ok.0) (expr_runs b ok.1)
  expr_runs (Binary op.Equal a b) ok k at regs len holds has = absurd ok
  expr_runs (Binary op.NotEqual a b) ok k at regs len holds has = absurd ok
  expr_runs (Binary op.Less a b) ok k at regs len holds has = absurd ok
  expr_runs (Binary op.LessEqual a b) ok k at regs len holds has = absurd ok
  expr_runs (Binary op.Greater a b) ok k at regs len holds has = absurd ok
  expr_runs (Binary op.GreaterEqual a b) ok k at regs len holds has = absurd ok
  expr_runs (Binary op.And a b) ok k at regs len holds has = absurd ok
  expr_runs (Binary op.Or a b) ok k at regs len holds has = absurd ok
