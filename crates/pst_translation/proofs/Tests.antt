-- The code of a condition goes where it is to go.
use Rattle.std.proofs.Common.{◌≡◌, ◌≢◌, ℕ, ◌+◌, ◌≤◌, ℤ, pos, negsuc, Bool, true, false, not, nat_lt, nat_le, List, [], ◌∷◌, ◌++◌, length, Some, refl, sym, ap, ◌∙◌, subst, arith}
use Rattle.std.proofs.lemmas.Bool.{ltb-true, ltb-false, lt-leb, le-leb}
use Rattle.std.specs.Prelude.{slice_get, int_lt, int_le, if◌then◌else◌}
use Rattle.pst_base.specs.declared.names.Kind.{Kind}
use Rattle.pst_base.specs.declared.names.Op.TheVariants as op
use Rattle.pst_program.specs.declared.meaning.Value.{Value}
use Rattle.pst_program.specs.declared.meaning.Value.TheVariants.{Truth as ATruth}
use Rattle.pst_program.specs.Syntax.{Expr, Number, Null, Local, Root, Parens, Load, LoadIndexed, Negate, Not, Binary}
use Rattle.pst_program.specs.Value.{Answer, Gives, Traps, and_then, binary, number_of, truth_of, same_value, operate, value}
use Rattle.pst_program.specs.Meaning.{World, Trapped}
use Rattle.pst_code.specs.declared.instr.Reg.{Reg}
use Rattle.pst_code.specs.declared.instr.Instr.{Instr}
use Rattle.pst_code.specs.declared.procedure.Procedure.{Procedure}
use Rattle.pst_code.specs.declared.procedure.Parts.{Parts}
use Rattle.pst_code.specs.Machine.{Frame, Caller, Goes, held, jump_where, act}
use Rattle.pst_translation.specs.Code.{Temp, register, expr_code, test_size, test_code}
use Rattle.pst_translation.proofs.ValidPlaces.{test_length}
use Rattle.pst_translation.proofs.Leading.{HasAt, has_front, has_back, WritesBelow, Leads, Ends, leads_on, ends_on, one, Layout, Kept, kept_on, Holds, holds_kept, ExprRuns}
use Rattle.pst_translation.proofs.Operands.{IsOperand, IsTest}
use Rattle.pst_translation.proofs.Exprs.{register_apart, expr_runs}

-- to where the truth is the wanted one, and else on
abbrev pub arrive : (want truth : Bool) → (to on : ℕ) → ℕ
arrive true true to on = to
arrive true false to on = on
arrive false true to on = on
arrive false false to on = to

pub record Went (parts : Parts) (me : Procedure) (temp : Temp) (c : List Caller) (w : World) (line at : ℕ) (regs : List Value) (at' : ℕ) : Type 0 where
  pub after : List Value
  pub leads : Leads parts (record { procedure = me; at = at; registers = regs; line = line }) c w (record { procedure = me; at = at'; registers = after; line = line }) c w
  pub kept : Kept temp 0 regs after
  pub same : length after ≡ length regs

abbrev pub TestRuns : (parts : Parts) (me : Procedure) (temp : Temp) (c : List Caller) (w : World) (line : ℕ) (want : Bool) (to at : ℕ) (regs : List Value) (on : ℕ) → Answer → Type 0
TestRuns parts me temp c w line want to at regs on (Gives v) =
    Went parts me temp c w line at regs (arrive want (truth_of v) to on)
TestRuns parts me temp c w line want to at regs on (Traps t) =
    Ends parts (record { procedure = me; at = at; registers = regs; line = line }) c w (Trapped t line w)

-- ---- a comparison and its opposite

le_by : (b : Bool) (m n : ℕ) → nat_lt m n ≡ b → nat_le n m ≡ not b
le_by true m n e = lt-leb n m (ltb-true m n e)
le_by false m n e = le-leb n m (ltb-false m n e)

nat_opposite : (m n : ℕ) → nat_le n m ≡ not (nat_lt m n)
nat_opposite m n = le_by (nat_lt m n) m n refl

not_not : (b : Bool) → b ≡ not (not b)
not_not true = refl
not_not false = refl

-- at least is the opposite of less
not_less : (a b : ℤ) → int_le b a ≡ not (int_lt a b)
not_less (pos m) (pos n) = nat_opposite m n
not_less (pos m) (negsuc n) = refl
not_less (negsuc m) (pos n) = refl
not_less (negsuc m) (negsuc n) = nat_opposite n m

-- and greater that of at most
not_most : (a b : ℤ) → int_lt b a ≡ not (int_le a b)
not_most a b = not_not (int_lt b a) ∙ ap not (sym (not_less b a))

-- ---- where it goes

abbrev agree : Bool → Bool → Bool
agree true b = b
agree false b = not b

jumps : (want b : Bool) (to : ℕ) (f : Frame) (c : List Caller) (w : World) → jump_where (agree want b) to f c w ≡ Goes record f { at = arrive want b to (f.at + 1) } c w
jumps true true to f c w = refl
jumps true false to f c w = refl
jumps false true to f c w = refl
jumps false false to f c w = refl

not_arrive : (want b : Bool) (to on : ℕ) → arrive (not want) b to on ≡ arrive want (not b) to on
not_arrive true true to on = refl
not_arrive true false to on = refl
not_arrive false true to on = refl
not_arrive false false to on = refl

module _ (parts : Parts) (me : Procedure) (temp : Temp) (locals size : ℕ) (lay : Layout temp locals)
    (valid : (i : ℕ) (x : Instr) → slice_get me.instructions i ≡ Some x → WritesBelow size x) (c : List Caller) (line : ℕ) (w : World) (env : List Value) where
  abbrev fr : ℕ → List Value → Frame
  fr at regs = record { procedure = me; at = at; registers = regs; line = line }

  abbrev Tries : (want : Bool) (to at : ℕ) (regs : List Value) (on : ℕ) → Answer → Type 0
  Tries want to at regs on a = TestRuns parts me temp c w line want to at regs on a

  then_went : (at at1 at2 : ℕ) (regs : List Value) (a : Went parts me temp c w line at regs at1) → Went parts me temp c w line at1 a.after at2 → Went parts me temp c w line at regs at2
  then_went at at1 at2 regs a b = record {
    after = b.after;
    leads = leads_on parts _ _ _ _ _ _ _ _ _ a.leads b.leads;
    kept = kept_on temp 0 0 regs a.after b.after (omega arith) a.kept b.kept;
    same = b.same ∙ a.same;
  }

  then_tries : (want : Bool) (to at at1 : ℕ) (regs : List Value) (on : ℕ) (b : Answer) (a : Went parts me temp c w line at regs at1) → Tries want to at1 a.after on b → Tries want to at regs on b
  then_tries want to at at1 regs on (Traps t) a b = ends_on parts _ _ _ _ _ _ _ a.leads b
  then_tries want to at at1 regs on (Gives v) a b = then_went at at1 _ regs a b

  -- two operands and a jump
  compare_run : (i : Instr) (test : Value → Value → Bool) (want : Bool) (to : ℕ) (x y : Reg) (ca cb : List Instr) (at : ℕ) (regs : List Value)
      (a b : Answer) → HasAt me.instructions at (ca ++ (cb ++ i ∷ []))
      → ((f : Frame) → act parts (Some i) f c w ≡ jump_where (agree want (test (held f.registers x) (held f.registers y))) to f c w)
      → ((k' : ℕ) (kind' : Kind) → 1 ≤ k' → x.0 ≢ (temp k' kind').0) → ExprRuns parts me temp 0 x c w line at regs (at + length ca) a
      → ((regs1 : List Value) → length regs1 ≡ length regs → Kept temp 0 regs regs1
      → ExprRuns parts me temp 1 y c w line (at + length ca) regs1 (at + length ca + length cb) b)
      → Tries want to at regs (at + (length ca + (length cb + 1))) (and_then a (λ v. and_then b (λ u. Gives (ATruth (test v u)))))
  compare_run i test want to x y ca cb at regs (Traps t) b has is apart ra rb = ra
  compare_run i test want to x y ca cb at regs (Gives v) (Traps t) has is apart ra rb =
      ends_on parts _ _ _ _ _ _ _ ra.leads (rb ra.after ra.same ra.kept)
  compare_run i test want to x y ca cb at regs (Gives v) (Gives u) has is apart ra rb =
      let b = rb ra.after ra.same ra.kept in
      let at1 = at + length ca + length cb in
      let here = (has_back me.instructions (at + length ca) cb (i ∷ []) (has_back me.instructions at ca (cb ++ i ∷ []) has)).0 in
      let len : at1 + 1 ≡ at + (length ca + (length cb + 1)) = omega arith in
      record {
        after = b.after;
        leads = leads_on parts _ _ _ _ _ _ _ _ _ (leads_on parts _ _ _ _ _ _ _ _ _ ra.leads b.leads)
            (one parts (fr at1 b.after) (fr (arrive want (test v u) to (at + (length ca + (length cb + 1)))) b.after) c c w w i here (is (fr at1 b.after)
            ∙ ap (λ z. jump_where (agree want (test z (held b.after y))) to (fr at1 b.after) c w) (b.kept.at x.0 apart ∙ ra.value_is)
            ∙ ap (λ z. jump_where (agree want (test v z)) to (fr at1 b.after) c w) b.value_is
            ∙ jumps want (test v u) to (fr at1 b.after) c w
            ∙ ap (λ n. Goes (fr (arrive want (test v u) to n) b.after) c w) len));
        kept = kept_on temp 0 1 regs ra.after b.after (omega arith) ra.kept b.kept;
        same = b.same ∙ ra.same;
      }

  -- the jump of a comparison of two expressions
  compared_run : (test : Value → Value → Bool) (a b : Expr) → IsOperand locals a × IsOperand locals b
      → (i : Instr) (want : Bool) (to at : ℕ) (regs : List Value) → length regs ≡ size → Holds locals env regs
      → HasAt me.instructions at (expr_code parts.shape temp a 0 ++ (expr_code parts.shape temp b 1 ++ i ∷ []))
      → ((f : Frame) → act parts (Some i) f c w ≡ jump_where (agree want
      (test (held f.registers (register parts.shape temp a 0)) (held f.registers (register parts.shape temp b 1)))) to f c w)
      → Tries want to at regs (at + (length (expr_code parts.shape temp a 0) + (length (expr_code parts.shape temp b 1) + 1)))
      (and_then (value parts.shape a env w.heap) (λ v. and_then (value parts.shape b env w.heap) (λ u. Gives (ATruth (test v u)))))
  compared_run test a b ok i want to at regs len holds has is =
      let ca = expr_code parts.shape temp a 0 in let cb = expr_code parts.shape temp b 1 in
      compare_run i test want to (register parts.shape temp a 0) (register parts.shape temp b 1) ca cb at regs _ _ has is
      (λ k' kind' le. register_apart parts.shape temp locals lay a ok.0 0 k' kind' (omega arith))
      (expr_runs parts me temp locals size lay valid c line w env a ok.0 0 at regs len holds (has_front me.instructions at ca _ has))
      (λ regs1 same kept. expr_runs parts me temp locals size lay valid c line w env b ok.1 1 _ regs1 (same ∙ len)
      (holds_kept temp locals lay 0 env regs regs1 holds kept) (has_front me.instructions _ cb _ (has_back me.instructions at ca _ has)))

  not_run : (want : Bool) (to at : ℕ) (regs : List Value) (on : ℕ) (a : Answer) → Tries (not want) to at regs on a → Tries want to at regs on (and_then a (λ v. Gives (ATruth (not (truth_of v)))))
  not_run want to at regs on (Traps t) r = r
  not_run want to at regs on (Gives v) r = subst (λ n. Went parts me temp c w line at regs n) (not_arrive want (truth_of v) to on) r

  -- where the left operand is known
  and_right : (want : Bool) (to to1 at at1 on : ℕ) (regs : List Value) (v : Value) (t : Bool) (b : Answer) → to1 ≡ arrive want false to on
      → (r : Went parts me temp c w line at regs (arrive false t to1 at1))
      → ((regs1 : List Value) → length regs1 ≡ length regs → Kept temp 0 regs regs1 → Tries want to at1 regs1 on b)
      → Tries want to at regs on (if not t then Gives (ATruth t) else and_then b (operate op.And v))
  and_right want to to1 at at1 on regs v false b e r rb = subst (λ n. Went parts me temp c w line at regs n) e r
  and_right want to to1 at at1 on regs v true (Traps t) e r rb = then_tries want to at at1 regs on (Traps t) r (rb r.after r.same r.kept)
  and_right want to to1 at at1 on regs v true (Gives u) e r rb = then_tries want to at at1 regs on (Gives u) r (rb r.after r.same r.kept)

  and_run : (want : Bool) (to to1 at at1 on : ℕ) (regs : List Value) (a b : Answer) → to1 ≡ arrive want false to on → Tries false to1 at regs at1 a
      → ((regs1 : List Value) → length regs1 ≡ length regs → Kept temp 0 regs regs1 → Tries want to at1 regs1 on b)
      → Tries want to at regs on (binary op.And a b)
  and_run want to to1 at at1 on regs (Traps t) b e r rb = r
  and_run want to to1 at at1 on regs (Gives v) b e r rb = and_right want to to1 at at1 on regs v (truth_of v) b e r rb

  or_right : (want : Bool) (to to1 at at1 on : ℕ) (regs : List Value) (v : Value) (t : Bool) (b : Answer) → to1 ≡ arrive want true to on
      → (r : Went parts me temp c w line at regs (arrive true t to1 at1))
      → ((regs1 : List Value) → length regs1 ≡ length regs → Kept temp 0 regs regs1 → Tries want to at1 regs1 on b)
      → Tries want to at regs on (if t then Gives (ATruth t) else and_then b (operate op.Or v))
  or_right want to to1 at at1 on regs v true b e r rb = subst (λ n. Went parts me temp c w line at regs n) e r
  or_right want to to1 at at1 on regs v false (Traps t) e r rb = then_tries want to at at1 regs on (Traps t) r (rb r.after r.same r.kept)
  or_right want to to1 at at1 on regs v false (Gives u) e r rb = then_tries want to at at1 regs on (Gives u) r (rb r.after r.same r.kept)

  or_run : (want : Bool) (to to1 at at1 on : ℕ) (regs : List Value) (a b : Answer) → to1 ≡ arrive want true to on → Tries true to1 at regs at1 a
      → ((regs1 : List Value) → length regs1 ≡ length regs → Kept temp 0 regs regs1 → Tries want to at1 regs1 on b)
      → Tries want to at regs on (binary op.Or a b)
  or_run want to to1 at at1 on regs (Traps t) b e r rb = r
  or_run want to to1 at at1 on regs (Gives v) b e r rb = or_right want to to1 at at1 on regs v (truth_of v) b e r rb

  -- the code after a condition's
  after_test : (e : Expr) (want : Bool) (to at : ℕ) (is : List Instr) → HasAt me.instructions at (test_code parts.shape temp e want to at ++ is)
      → HasAt me.instructions (at + test_size parts.shape temp e) is
  after_test e want to at is has = subst (λ n. HasAt me.instructions (at + n) is) (test_length parts.shape temp e want to at)
      (has_back me.instructions at (test_code parts.shape temp e want to at) is has)

  sums : (at m n : ℕ) → at + m + n ≡ at + (m + n)
  sums at m n = omega arith

  pub test_runs : (e : Expr) → IsTest locals e → (want : Bool) (to at : ℕ) (regs : List Value) → length regs ≡ size → Holds locals env regs
      → HasAt me.instructions at (test_code parts.shape temp e want to at)
      → Tries want to at regs (at + test_size parts.shape temp e) (value parts.shape e env w.heap)
  test_runs (Number n) ok want to at regs len holds has = absurd ok
  test_runs (Null ty) ok want to at regs len holds has = absurd ok
  test_runs (Local x) ok want to at regs len holds has = absurd ok
  test_runs (Root slot) ok want to at regs len holds has = absurd ok
  test_runs (Parens e) ok want to at regs len holds has = test_runs e ok want to at regs len holds has
  test_runs (Load e slot kind) ok want to at regs len holds has = absurd ok
  test_runs (LoadIndexed e slot elements i kind) ok want to at regs len holds has = absurd ok
  test_runs (Negate e) ok want to at regs len holds has = absurd ok
  test_runs (Not e) ok want to at regs len holds has =
      not_run want to at regs _ _ (test_runs e ok (not want) to at regs len holds has)
  test_runs (Binary op.And a b) ok false to at regs len holds has =
      subst (λ n. Tries false to at regs n (binary op.And (value parts.shape a env w.heap) (value parts.shape b env w.heap)))
      (sums at (test_size parts.shape temp a) (test_size parts.shape temp b))
      (and_run false to to at (at + test_size parts.shape temp a) _ regs _ _ refl
      (test_runs a ok.0 false to at regs len holds (has_front me.instructions at _ _ has))
      (λ regs1 same kept. test_runs b ok.1 false to _ regs1 (same ∙ len) (holds_kept temp locals lay 0 env regs regs1 holds kept)
      (after_test a false to at _ has)))
  test_runs (Binary op.And a b) ok true to at regs len holds has =
      subst (λ n. Tries true to at regs n (binary op.And (value parts.shape a env w.heap) (value parts.shape b env w.heap)))
      (sums at (test_size parts.shape temp a) (test_size parts.shape temp b))
      (and_run true to (at + (test_size parts.shape temp a + test_size parts.shape temp b)) at (at + test_size parts.shape temp a) _ regs _ _
      (sym (sums at (test_size parts.shape temp a) (test_size parts.shape temp b)))
      (test_runs a ok.0 false _ at regs len holds (has_front me.instructions at _ _ has))
      (λ regs1 same kept. test_runs b ok.1 true to _ regs1 (same ∙ len) (holds_kept temp locals lay 0 env regs regs1 holds kept)
      (after_test a false _ at _ has)))
  test_runs (Binary op.Or a b) ok true to at regs len holds has =
      subst (λ n. Tries true to at regs n (binary op.Or (value parts.shape a env w.heap) (value parts.shape b env w.heap)))
      (sums at (test_size parts.shape temp a) (test_size parts.shape temp b))
      (or_run true to to at (at + test_size parts.shape temp a) _ regs _ _ refl
      (test_runs a ok.0 true to at regs len holds (has_front me.instructions at _ _ has))
      (λ regs1 same kept. test_runs b ok.1 true to _ regs1 (same ∙ len) (holds_kept temp locals lay 0 env regs regs1 holds kept)
      (after_test a true to at _ has)))
  test_runs (Binary op.Or a b) ok false to at regs len holds has =
      subst (λ n. Tries false to at regs n (binary op.Or (value parts.shape a env w.heap) (value parts.shape b env w.heap)))
      (sums at (test_size parts.shape temp a) (test_size parts.shape temp b))
      (or_run false to (at + (test_size parts.shape temp a + test_size parts.shape temp b)) at (at + test_size parts.shape temp a) _ regs _ _
      (sym (sums at (test_size parts.shape temp a) (test_size parts.shape temp b)))
      (test_runs a ok.0 true _ at regs len holds (has_front me.instructions at _ _ has))
      (λ regs1 same kept. test_runs b ok.1 false to _ regs1 (same ∙ len) (holds_kept temp locals lay 0 env regs regs1 holds kept)
      (after_test a true _ at _ has)))
  test_runs (Binary op.Equal a b) ok true to at regs len holds has =
      compared_run same_value a b ok _ true to at regs len holds has (λ f. refl)
  test_runs (Binary op.Equal a b) ok false to at regs len holds has =
      compared_run same_value a b ok _ false to at regs len holds has (λ f. refl)
  test_runs (Binary op.NotEqual a b) ok true to at regs len holds has =
      compared_run (λ v u. not (same_value v u)) a b ok _ true to at regs len holds has (λ f. refl)
  test_runs (Binary op.NotEqual a b) ok false to at regs len holds has =
      compared_run (λ v u. not (same_value v u)) a b ok _ false to at regs len holds has
      (λ f. ap (λ t. jump_where t to f c w) (not_not (same_value (held f.registers (register parts.shape temp a 0))
      (held f.registers (register parts.shape temp b 1)))))
  test_runs (Binary op.Less a b) ok true to at regs len holds has =
      compared_run (λ v u. int_lt (number_of v) (number_of u)) a b ok _ true to at regs len holds has (λ f. refl)
  test_runs (Binary op.Less a b) ok false to at regs len holds has =
      compared_run (λ v u. int_lt (number_of v) (number_of u)) a b ok _ false to at regs len holds has
      (λ f. ap (λ t. jump_where t to f c w) (not_less (number_of (held f.registers (register parts.shape temp a 0)))
      (number_of (held f.registers (register parts.shape temp b 1)))))
  test_runs (Binary op.LessEqual a b) ok true to at regs len holds has =
      compared_run (λ v u. int_le (number_of v) (number_of u)) a b ok _ true to at regs len holds has (λ f. refl)
  test_runs (Binary op.LessEqual a b) ok false to at regs len holds has =
      compared_run (λ v u. int_le (number_of v) (number_of u)) a b ok _ false to at regs len holds has
      (λ f. ap (λ t. jump_where t to f c w) (not_most (number_of (held f.registers (register parts.shape temp a 0)))
      (number_of (held f.registers (register parts.shape temp b 1)))))
  test_runs (Binary op.Greater a b) ok true to at regs len holds has =
      compared_run (λ v u. int_lt (number_of u) (number_of v)) a b ok _ true to at regs len holds has (λ f. refl)
  test_runs (Binary op.Greater a b) ok false to at regs len holds has =
      compared_run (λ v u. int_lt (number_of u) (number_of v)) a b ok _ false to at regs len holds has
      (λ f. ap (λ t. jump_where t to f c w) (not_less (number_of (held f.registers (register parts.shape temp b 1)))
      (number_of (held f.registers (register parts.shape temp a 0)))))
  test_runs (Binary op.GreaterEqual a b) ok true to at regs len holds has =
      compared_run (λ v u. int_le (number_of u) (number_of v)) a b ok _ true to at regs len holds has (λ f. refl)
  test_runs (Binary op.GreaterEqual a b) ok false to at regs len holds has =
      compared_run (λ v u. int_le (number_of u) (number_of v)) a b ok _ false to at regs len holds has
      (λ f. ap (λ t. jump_where t to f c w) (not_most (number_of (held f.registers (register parts.shape temp b 1)))
      (number_of (held f.registers (register parts.shape temp a 0)))))
  test_runs (Binary op.Add a b) ok want to at regs len holds has = absurd ok
  test_runs (Binary op.Sub a b) ok want to at regs len holds has = absurd ok
  test_runs (Binary op.Mul a b) ok want to at regs len holds has = absurd ok
  test_runs (Binary op.Div a b) ok want to at regs len holds has = absurd ok
  test_runs (Binary op.Rem a b) ok want to at regs len holds has = absurd ok
