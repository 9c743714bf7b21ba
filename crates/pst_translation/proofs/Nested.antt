-- The code of choices, loops and statements one after another.
use Rattle.std.proofs.Common.{◌≡◌, ℕ, zero, suc, ◌+◌, ◌≤◌, Bool, true, false, List, [], ◌∷◌, ◌++◌, length, Option, Some, None, refl, sym, ap, ◌∙◌, subst, arith, length-append}
use Rattle.std.proofs.lemmas.List.{length-map, length-take}
use Rattle.std.specs.Prelude.{slice_get}
use Rattle.pst_program.specs.declared.meaning.Value.{Value}
use Rattle.pst_program.specs.Syntax as syntax
use Rattle.pst_program.specs.Syntax.{Expr, Action, Actions, Set, SetRoot, Store, StoreIndexed, New, Call, Print, If, Either, While, Return, Empty, Then, Routines}
use Rattle.pst_program.specs.Value.{Answer, Gives, Traps, truth_of, value}
use Rattle.pst_program.specs.Meaning.{World, Ending, Normal, Returned, Trapped, Spent, with_answer, then_do, choose, if_else, turns, call, exec_action, exec}
use Rattle.pst_program.specs.Typed.{sort_of, field_of, array_of, root_kind, parameters_of, IsCall, IsReturn, IsTypedAction, IsTypedBlock}
use Rattle.pst_program.specs.Typed.{Of}
use Rattle.pst_code.specs.declared.instr.Instr.{Instr}
use Rattle.pst_code.specs.declared.instr.Instr.TheVariants as instr
use Rattle.pst_code.specs.declared.procedure.Procedure.{Procedure}
use Rattle.pst_code.specs.declared.procedure.Parts.{Parts}
use Rattle.pst_code.specs.Machine.{Frame, Caller, take_charge}
use Rattle.pst_translation.specs.Code.{Temp, test_size, test_code, if_code, either_code, while_code, action_code, block_code}
use Rattle.pst_translation.proofs.ValidPlaces.{test_length}
use Rattle.pst_translation.proofs.Leading.{HasAt, has_front, has_back, WritesBelow, stays, leads_on, one, last_waits, Layout, Holds, holds_kept}
use Rattle.pst_translation.proofs.Operands.{IsOperand, IsTest, AllOperands, IsPlace, operand, test, fitting, all_operands, with_field, with_array, in_range, place}
use Rattle.pst_translation.proofs.Tests.{arrive, Went, TestRuns, test_runs}
use Rattle.pst_translation.proofs.Plain.{Runs, runs_after, seq_run, charge_run, set_run, set_root_run, store_run, store_element_run, make_run, print_run, return_run}
use Rattle.pst_translation.proofs.Calls.{Callable, CallsRun, call_run}

-- ---- what typing says of a call

record CallGoes (r : Routines) (locals : ℕ) (x : Option ℕ) (q : ℕ) (es : List Expr) : Type 0 where
  place : IsPlace locals x
  arguments : AllOperands locals es
  callee : Callable r.procedures q (length es)

call_goes : (r : Routines) (p : syntax.Procedure) (x : Option ℕ) (q : ℕ) (es : List Expr) (found : Option syntax.Procedure)
    → slice_get r.procedures q ≡ found → IsCall r.shape p x es found → CallGoes r (length p.kinds) x q es
call_goes r p x q es None is fits = absurd fits
call_goes r p x q es (Some callee) is fits =
    let ks = parameters_of callee in
    let count : length es ≡ length ks =
    sym (length-map es (sort_of r.shape p.kinds)) ∙ ap length fits.arguments_fit ∙ length-map ks (λ kind. Some (Of kind)) in
    let few : length ks ≤ length callee.kinds = omega (arith, length-take callee.arguments callee.kinds) in
    record {
      place = place r.shape p.kinds x callee.result fits.result_fits;
      arguments = all_operands r.shape p.kinds es ks fits.arguments_fit;
      callee = record { callee = callee; is_there = is; fits = omega (arith, count) };
    }

returned : (r : Routines) (p : syntax.Procedure) (o : Option Expr) → IsReturn r.shape p o → (e : Expr) → o ≡ Some e → IsOperand (length p.kinds) e
returned r p None ok e is = absurd (cc)
returned r p (Some a) ok e is = let same : a ≡ e = cc in subst (IsOperand (length p.kinds)) same (fitting r.shape p.kinds a p.result ok)

module _ (r : Routines) (routines : List Procedure) (p : syntax.Procedure) (me : Procedure) (temp : Temp) (size : ℕ) (room : length p.kinds ≤ size)
    (lay : Layout temp (length p.kinds)) (valid : (i : ℕ) (x : Instr) → slice_get me.instructions i ≡ Some x → WritesBelow size x) (c : List Caller)
    (d : ℕ) (deep : length c + d ≡ 255) (calls_run : CallsRun r (record { shape = r.shape; procedures = routines }) d) where
  abbrev parts : Parts
  parts = record { shape = r.shape; procedures = routines }

  abbrev locals : ℕ
  locals = length p.kinds

  abbrev fr : ℕ → List Value → ℕ → Frame
  fr at regs line = record { procedure = me; at = at; registers = regs; line = line }

  abbrev Does : Frame → World → ℕ → Ending → Type 0
  Does f w at' o = Runs parts me locals size c f w at' o

  -- what the code at a place does, whatever the registers, the environment and the world are
  abbrev DoesAll : (at at' : ℕ) → (List Value → World → Ending) → Type 0
  DoesAll at at' m = (env regs : List Value) (line : ℕ) (w : World) → length regs ≡ size → length env ≡ locals → Holds locals env regs → Does (fr at regs line) w at' (m env w)

  -- the same, of one environment and one world
  abbrev DoesFrom : (at at' line : ℕ) → List Value → World → Ending → Type 0
  DoesFrom at at' line env w o = (regs : List Value) → length regs ≡ size → Holds locals env regs → Does (fr at regs line) w at' o

  -- a condition, and one of two runs
  choose_run : (b : Bool) (line at to on at' : ℕ) (env regs : List Value) (w : World) (first other : Ending) → length regs ≡ size
      → Holds locals env regs → Went parts me temp c w line at regs (arrive false b to on) → DoesFrom on at' line env w first
      → DoesFrom to at' line env w other → Does (fr at regs line) w at' (choose b first other)
  choose_run true line at to on at' env regs w first other same holds g yes_runs no_runs =
      runs_after parts me locals size c _ _ w w at' first (omega arith) g.leads (yes_runs g.after (g.same ∙ same) (holds_kept temp locals lay 0 env regs g.after holds g.kept))
  choose_run false line at to on at' env regs w first other same holds g yes_runs no_runs =
      runs_after parts me locals size c _ _ w w at' other (omega arith) g.leads (no_runs g.after (g.same ∙ same) (holds_kept temp locals lay 0 env regs g.after holds g.kept))

  test_then : (a : Answer) (line at to on at' : ℕ) (env regs : List Value) (w : World) (first other : Ending) → length regs ≡ size
      → Holds locals env regs → TestRuns parts me temp c w line false to at regs on a → DoesFrom on at' line env w first
      → DoesFrom to at' line env w other → Does (fr at regs line) w at' (with_answer a line w (λ v. choose (truth_of v) first other))
  test_then (Traps t) line at to on at' env regs w first other same holds g yes_runs no_runs = g
  test_then (Gives v) line at to on at' env regs w first other same holds g yes_runs no_runs =
      choose_run (truth_of v) line at to on at' env regs w first other same holds g yes_runs no_runs

  -- the code after a condition's
  after_test : (e : Expr) (to at : ℕ) (is : List Instr) → HasAt me.instructions at (test_code r.shape temp e false to at ++ is) → HasAt me.instructions (at + test_size r.shape temp e) is
  after_test e to at is has = subst (λ n. HasAt me.instructions (at + n) is) (test_length r.shape temp e false to at) (has_back me.instructions at (test_code r.shape temp e false to at) is has)

  tested : (e : Expr) → IsTest locals e → (to at at' line line1 : ℕ) (first other : List Value → World → Ending) (env regs : List Value) (w : World)
      → slice_get me.instructions at ≡ Some (instr.Charge line) → HasAt me.instructions (at + 1) (test_code r.shape temp e false to (at + 1))
      → length regs ≡ size → Holds locals env regs → ((m : ℕ) → suc m ≡ w.charges
      → DoesFrom (at + 1 + test_size r.shape temp e) at' line env (record w { charges = m }) (first env record w { charges = m }))
      → ((m : ℕ) → suc m ≡ w.charges → DoesFrom to at' line env (record w { charges = m }) (other env record w { charges = m }))
      → Does (fr at regs line1) w at' (if_else r.shape e first other line env w)
  tested e ok to at at' line line1 first other env regs w has has1 same holds yes_runs no_runs =
      charge_run parts me locals size c (fr at regs line1) w line at' _ has (λ m is.
      let w1 = record w { charges = m } in
      test_then (value r.shape e env w.heap) line (at + 1) to (at + 1 + test_size r.shape temp e) at' env regs w1 (first env w1) (other env w1) same
      holds (test_runs parts me temp locals size lay valid c line w1 env e ok false to (at + 1) regs same holds has1) (yes_runs m is) (no_runs m is))

  -- nothing more to do
  skips : (at : ℕ) → DoesAll at at Normal
  skips at env regs line w same long holds = record {
    after = regs;
    line = line;
    leads = stays parts _ _ _;
    holds = holds;
    same = same;
    long = long;
    fewer = omega arith;
  }

  -- a jump at the end
  then_jump : (f : Frame) (w : World) (at1 to : ℕ) (o : Ending) → slice_get me.instructions at1 ≡ Some (instr.Jump to) → Does f w at1 o → Does f w to o
  then_jump f w at1 to (Normal env' w') has g = record {
    after = g.after;
    line = g.line;
    leads = leads_on parts _ _ _ _ _ _ _ _ _ g.leads (one parts (fr at1 g.after g.line) (fr to g.after g.line) c c w' w' (instr.Jump to) has refl);
    holds = g.holds;
    same = g.same;
    long = g.long;
    fewer = g.fewer;
  }
  then_jump f w at1 to (Returned v w') has g = g
  then_jump f w at1 to (Trapped t line w') has g = g
  then_jump f w at1 to (Spent line w') has g = g

  if_run : (e : Expr) → IsTest locals e → (body : ℕ → List Instr) (line at : ℕ) (first : List Value → World → Ending)
      → HasAt me.instructions at (if_code r.shape temp e body line at)
      → ((q : ℕ) → HasAt me.instructions q (body q) → DoesAll q (q + length (body q)) first)
      → DoesAll at (at + length (if_code r.shape temp e body line at)) (if_else r.shape e first Normal line)
  if_run e ok body line at first has runs =
      let start = at + 1 + test_size r.shape temp e in
      let to = start + length (body start) in
      let ct = test_code r.shape temp e false to (at + 1) in
      let len : to ≡ at + length (if_code r.shape temp e body line at) = omega (arith, length-append ct (body start), test_length r.shape temp e false to (at + 1)) in
      λ env regs l w same long holds. tested e ok to at _ line l first Normal env regs w has.0 (has_front me.instructions (at + 1) ct _ has.1) same holds
      (λ m is regs1 same1 holds1. subst (λ n. Does (fr start regs1 line) (record w { charges = m }) n (first env record w { charges = m })) len
      (runs start (after_test e to (at + 1) (body start) has.1) env regs1 line _ same1 long holds1))
      (λ m is regs1 same1 holds1. subst (λ n. Does (fr to regs1 line) (record w { charges = m }) n (Normal env record w { charges = m })) len (skips to env regs1 line _ same1 long holds1))

  either_run : (e : Expr) → IsTest locals e → (body rest : ℕ → List Instr) (line at : ℕ) (first other : List Value → World → Ending)
      → HasAt me.instructions at (either_code r.shape temp e body rest line at)
      → ((q : ℕ) → HasAt me.instructions q (body q) → DoesAll q (q + length (body q)) first)
      → ((q : ℕ) → HasAt me.instructions q (rest q) → DoesAll q (q + length (rest q)) other)
      → DoesAll at (at + length (either_code r.shape temp e body rest line at)) (if_else r.shape e first other line)
  either_run e ok body rest line at first other has runs runs' =
      let start = at + 1 + test_size r.shape temp e in
      let middle = start + length (body start) + 1 in
      let end = middle + length (rest middle) in
      let ct = test_code r.shape temp e false middle (at + 1) in
      let h1 = after_test e middle (at + 1) _ has.1 in
      let h2 = has_back me.instructions start (body start) _ h1 in
      let len : end ≡ at + length (either_code r.shape temp e body rest line at) =
      omega (
        arith,
        length-append ct (body start ++ (instr.Jump end ∷ rest middle)),
        length-append (body start) (instr.Jump end ∷ rest middle),
        test_length r.shape temp e false middle (at + 1),
      ) in
      λ env regs l w same long holds. tested e ok middle at _ line l first other env regs w has.0 (has_front me.instructions (at + 1) ct _ has.1) same holds
      (λ m is regs1 same1 holds1. subst (λ n. Does (fr start regs1 line) (record w { charges = m }) n (first env record w { charges = m })) len
      (then_jump (fr start regs1 line) _ (start + length (body start)) end (first env record w { charges = m }) h2.0
      (runs start (has_front me.instructions start (body start) _ h1) env regs1 line _ same1 long holds1)))
      (λ m is regs1 same1 holds1. subst (λ n. Does (fr middle regs1 line) (record w { charges = m }) n (other env record w { charges = m })) len (runs' middle h2.1 env regs1 line _ same1 long holds1))

  -- a loop: at most n charges are left
  turns_run : (e : Expr) → IsTest locals e → (body : List Value → World → Ending) (line at back to : ℕ)
      → slice_get me.instructions at ≡ Some (instr.Charge line) → HasAt me.instructions (at + 1) (test_code r.shape temp e false to (at + 1))
      → slice_get me.instructions back ≡ Some (instr.Jump at) → DoesAll (at + 1 + test_size r.shape temp e) back body
      → (n : ℕ) (env regs : List Value) (line1 : ℕ) (w : World) → w.charges ≤ n → length regs ≡ size → length env ≡ locals → Holds locals env regs
      → Does (fr at regs line1) w to (turns n r.shape e body line env w)
  turns_run e ok body line at back to head has1 jump runs zero env regs line1 w le same long holds =
      let none : w.charges ≡ 0 = omega arith in
      last_waits parts (fr at regs line1) c w line (instr.Charge line) head (ap (λ n. take_charge n line (fr at regs line1) c w) none)
  turns_run e ok body line at back to head has1 jump runs (suc n) env regs line1 w le same long holds =
      tested e ok to at to line line1 (λ env w. then_do (body env w) (turns n r.shape e body line)) Normal env regs w head has1 same holds
      (λ m is regs1 same1 holds1. let w1 = record w { charges = m } in
      seq_run parts me locals size c (fr (at + 1 + test_size r.shape temp e) regs1 line) w1 at to (body env w1) (turns n r.shape e body line)
      (then_jump (fr (at + 1 + test_size r.shape temp e) regs1 line) w1 back at (body env w1) jump (runs env regs1 line w1 same1 long holds1))
      (λ env' regs' line' w' same' long' holds' fewer. turns_run e ok body line at back to head has1 jump runs n env' regs' line' w' (omega arith) same' long' holds'))
      (λ m is regs1 same1 holds1. skips to env regs1 line _ same1 long holds1)

  while_run : (e : Expr) → IsTest locals e → (bc : ℕ → List Instr) (line at : ℕ) (body : List Value → World → Ending)
      → HasAt me.instructions at (while_code r.shape temp e bc line at)
      → ((q : ℕ) → HasAt me.instructions q (bc q) → DoesAll q (q + length (bc q)) body)
      → DoesAll at (at + length (while_code r.shape temp e bc line at)) (λ env w. turns w.charges r.shape e body line env w)
  while_run e ok bc line at body has runs env regs line1 w same long holds =
      let start = at + 1 + test_size r.shape temp e in
      let back = start + length (bc start) in
      let ct = test_code r.shape temp e false (back + 1) (at + 1) in
      let h1 = after_test e (back + 1) (at + 1) _ has.1 in
      let h2 = has_back me.instructions start (bc start) _ h1 in
      let len : back + 1 ≡ at + length (while_code r.shape temp e bc line at) =
      omega (
        arith,
        length-append ct (bc start ++ instr.Jump at ∷ []),
        length-append (bc start) (instr.Jump at ∷ []),
        test_length r.shape temp e false (back + 1) (at + 1),
      ) in
      subst (λ n. Does (fr at regs line1) w n (turns w.charges r.shape e body line env w)) len
      (turns_run e ok body line at back (back + 1) has.0 (has_front me.instructions (at + 1) ct _ has.1) h2.0
      (runs start (has_front me.instructions start (bc start) _ h1)) w.charges env regs line1 w (omega arith) same long holds)

  -- ---- every statement

  mutual
    pub action_run : (action : Action) (line at : ℕ) → IsTypedAction r p action → HasAt me.instructions at (action_code r.shape temp action line at)
        → DoesAll at (at + length (action_code r.shape temp action line at)) (exec_action r.shape (call r d) action line)
    action_run (Set x e) line at ok has =
        λ env regs line0 w same long holds. set_run parts me temp locals size lay valid c x e line at line0 env regs w
        (in_range r.shape p.kinds x (sort_of r.shape p.kinds e) ok) (fitting r.shape p.kinds e (slice_get p.kinds x) ok) same long holds has
    action_run (SetRoot slot e) line at ok has =
        λ env regs line0 w same long holds. set_root_run parts me temp locals size lay valid c slot e line at line0 env regs w
        (fitting r.shape p.kinds e (root_kind r.shape slot) ok.1) same long holds has
    action_run (Store o slot e) line at ok has =
        λ env regs line0 w same long holds. store_run parts me temp locals size lay valid c o slot e line at line0 env regs w
        (with_field r.shape p.kinds o slot (sort_of r.shape p.kinds e) ok.1)
        (fitting r.shape p.kinds e (field_of r.shape (sort_of r.shape p.kinds o) slot) ok.1) same long holds has
    action_run (StoreIndexed o slot elements i e) line at ok has =
        λ env regs line0 w same long holds. store_element_run parts me temp locals size lay valid c o slot elements i e line at line0 env regs w
        (with_array r.shape p.kinds o slot elements (sort_of r.shape p.kinds e) ok.2) (operand r.shape p.kinds i _ ok.1)
        (fitting r.shape p.kinds e (array_of r.shape (sort_of r.shape p.kinds o) slot elements) ok.2) same long holds has
    action_run (New x ty) line at ok has =
        λ env regs line0 w same long holds. make_run parts me temp locals size lay valid c x ty line at line0 env regs w (place r.shape p.kinds (Some x) (Some _) ok.2) same long holds has
    action_run (Call x q es) line at ok has =
        let g = call_goes r p x q es (slice_get r.procedures q) refl ok in
        λ env regs line0 w same long holds. call_run parts me temp locals size lay valid c r d deep calls_run x q es line at line0 env regs w g.place g.arguments g.callee room same long holds has
    action_run (Print e) line at ok has =
        λ env regs line0 w same long holds. print_run parts me temp locals size lay valid c e line at line0 env regs w (operand r.shape p.kinds e _ ok) same long holds has
    action_run (If e first) line at ok has =
        if_run e (test r.shape p.kinds e ok.0) (block_code r.shape temp first) line at (exec r.shape (call r d) first) has (λ q h. block_run first q ok.1 h)
    action_run (Either e first other) line at ok has =
        either_run e (test r.shape p.kinds e ok.0) (block_code r.shape temp first) (block_code r.shape temp other) line at
        (exec r.shape (call r d) first) (exec r.shape (call r d) other) has (λ q h. block_run first q ok.1 h) (λ q h. block_run other q ok.2 h)
    action_run (While e body) line at ok has =
        while_run e (test r.shape p.kinds e ok.0) (block_code r.shape temp body) line at (exec r.shape (call r d) body) has (λ q h. block_run body q ok.1 h)
    action_run (Return e) line at ok has =
        λ env regs line0 w same long holds. return_run parts me temp locals size lay valid c e line at line0 env regs w _ (returned r p e ok) same holds has

    pub block_run : (actions : Actions) (at : ℕ) → IsTypedBlock r p actions → HasAt me.instructions at (block_code r.shape temp actions at)
        → DoesAll at (at + length (block_code r.shape temp actions at)) (exec r.shape (call r d) actions)
    block_run Empty at ok has =
        let e : at ≡ at + 0 = omega arith in
        subst (λ n. DoesAll at n Normal) e (skips at)
    block_run (Then line action rest) at ok has =
        let ca = action_code r.shape temp action line at in
        let len : at + length ca + length (block_code r.shape temp rest (at + length ca)) ≡ at + length
        (block_code r.shape temp (Then line action rest) at) = omega (arith, length-append ca (block_code r.shape temp rest (at + length ca))) in
        λ env regs line0 w same long holds. subst (λ n. Does (fr at regs line0) w n (exec r.shape (call r d) (Then line action rest) env w)) len
        (seq_run parts me locals size c (fr at regs line0) w (at + length ca) _ (exec_action r.shape (call r d) action line env w)
        (exec r.shape (call r d) rest) (action_run action line at ok.0 (has_front me.instructions at ca _ has) env regs line0 w same long holds)
        (λ env' regs' line' w' same' long' holds' fewer. block_run rest (at + length ca) ok.1 (has_back me.instructions at ca _ has) env' regs'
        line' w' same' long' holds'))
