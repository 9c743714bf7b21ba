-- A turn of a loop, and a call.
use Rattle.std.proofs.Common.{◌≡◌, ◌≢◌, ℕ, zero, suc, ◌-◌, ◌≤◌, List, [], ◌∷◌, Bool, true, false, Option, Some, Result, Ok, map, refl, ap, ◌∙◌, sym, subst, arith, slice_get}
use Rattle.pst_base.specs.declared.names.Kind.{Kind}
use Rattle.pst_base.specs.declared.names.TrapKind.TheVariants.{Depth}
use Rattle.pst_base.specs.declared.shape.TypeShape.{TypeShape}
use Rattle.pst_program.specs.declared.meaning.Value.{Value}
use Rattle.pst_program.specs.declared.program.TypedProc.{TypedProc}
use Rattle.pst_program.specs.declared.block.TypedBlock.{size-TypedBlock}
use Rattle.pst_program.specs.Syntax.{Expr, Routines}
use Rattle.pst_program.specs.Value.{Env, value, truth_of}
use Rattle.pst_program.specs.Meaning.{World, Ending, Normal, Trapped, Spent, Does, Calls, charged, with_answer, choose, then_do, turns, if_else, leave, call, run_body, exec, first_env}
use Rattle.pst_program.specs.View.{procedure_of, actions_of}
use Rattle.pst_eval.specs.declared.tally.End.{End}
use Rattle.pst_eval.specs.declared.tally.End.TheVariants.{Normal as EndNormal, Return, Trap, Spent as EndSpent}
use Rattle.pst_eval.specs.Work.{ending_of}
use Rattle.pst_eval.specs.Ends.{goes_on, deepest}

-- a loop is its condition, and then one turn and the others
turns_is_if : (n : ℕ) (shape : List TypeShape) (e : Expr) (body : Does) (line : ℕ) (env : Env) (w : World) → w.charges ≤ n
    → turns n shape e body line env w ≡ if_else shape e (λ env w. then_do (body env w) (turns (n - 1) shape e body line)) Normal line env w
turns_is_if zero shape e body line env w le =
    let none : zero ≡ w.charges = omega arith in
    subst (λ c. Spent line w ≡ charged c line w (λ x. with_answer (value shape e env x.heap) line x
    (λ v. choose (truth_of v) (then_do (body env x) (turns (zero - 1) shape e body line)) (Normal env x)))) none refl
turns_is_if (suc n) shape e body line env w le =
    let back : n ≡ suc n - 1 = omega arith in
    ap (λ m. if_else shape e (λ env w. then_do (body env w) (turns m shape e body line)) Normal line env w) back

-- what the condition came to is what the loop comes to
pub turned : (n : ℕ) (shape : List TypeShape) (e : Expr) (body : Does) (line : ℕ) (env : Env) (w w' : World) (r : Result Bool End) (all : Ending)
    → w.charges ≤ n → turns n shape e body line env w ≡ all
    → ((first other : Env → World → Ending) → if_else shape e first other line env w ≡ goes_on r first other env w')
    → goes_on r (λ env w. then_do (body env w) (turns (n - 1) shape e body line)) Normal env w' ≡ all
turned n shape e body line env w w' r all le is cond = sym (cond _ _) ∙ sym (turns_is_if n shape e body line env w le) ∙ is

pub then_other : (end : End) (env : Env) (w : World) (go : Does) → end ≢ EndNormal → then_do (ending_of end env w) go ≡ ending_of end env w
then_other EndNormal env w go ne = absurd (ne refl)
then_other (Return v) env w go ne = refl
then_other (Trap t l) env w go ne = refl
then_other (EndSpent l) env w go ne = refl

pub leave_other : (end : End) (k : Option Kind) (env : Env) (w : World) → end ≢ EndNormal → leave k (ending_of end env w) ≡ ending_of end [] w
leave_other EndNormal k env w ne = absurd (ne refl)
leave_other (Return v) k env w ne = refl
leave_other (Trap t l) k env w ne = refl
leave_other (EndSpent l) k env w ne = refl

pub call_at_most : (r : Routines) (d p : ℕ) (vs : List Value) (line : ℕ) (w : World) → d ≡ 0 → call r d p vs line w ≡ Trapped Depth line w
unfolding call
call_at_most r d p vs line w e = ap (λ d. call r d p vs line w) e

pub call_below : (r : Routines) (d p : ℕ) (vs : List Value) (line : ℕ) (w : World) → d ≢ 0 → call r d p vs line w ≡ run_body r.shape (call r (d - 1)) (slice_get r.procedures p) vs w
unfolding call
call_below r zero p vs line w ne = absurd (ne refl)
call_below r (suc d) p vs line w ne =
    let back : d ≡ suc d - 1 = omega arith in
    ap (λ m. run_body r.shape (call r m) (slice_get r.procedures p) vs w) back

pub at_most_deepest : (ps : List TypedProc) (i : ℕ) (p : TypedProc) → slice_get ps i ≡ Some p → size-TypedBlock p.body ≤ deepest ps
at_most_deepest [] i p e = cc
at_most_deepest (q ∷ ps) zero p e =
    let same : q ≡ p = cc in omega (arith, ap (λ x. size-TypedBlock x.body) same)
at_most_deepest (q ∷ ps) (suc i) p e = omega (arith, at_most_deepest ps i p e)

-- the procedure with a number, as definitions see it
pub mapped_some : (ps : List TypedProc) (i : ℕ) (p : TypedProc) → slice_get ps i ≡ Some p → slice_get (map procedure_of ps) i ≡ Some (procedure_of p)
mapped_some [] i p e = cc
mapped_some (q ∷ ps) zero p e = ap (λ (x : Option TypedProc). Rattle.std.specs.Option.option_map procedure_of x) e
mapped_some (q ∷ ps) (suc i) p e = mapped_some ps i p e

-- how a body that is run ends
pub body_left : (shape : List TypeShape) (calls : Calls) (ps : List TypedProc) (p : ℕ) (vs : List Value) (w : World) (q : TypedProc) (env : Env) (o : Ending)
    → slice_get ps p ≡ Some q → env ≡ first_env q.kinds vs → o ≡ exec shape calls (actions_of q.body) env w → leave q.result o ≡ run_body shape calls (slice_get (map procedure_of ps) p) vs w
body_left shape calls ps p vs w q env o found is_env is_o =
    ap (leave q.result) (is_o ∙ ap (λ l. exec shape calls (actions_of q.body) l w) is_env) ∙ sym (ap (λ f. run_body shape calls f vs w) (mapped_some ps p q found))

-- a turn that follows a condition which holds
turned_true : (n : ℕ) (shape : List TypeShape) (e : Expr) (body : Does) (line : ℕ) (env : Env) (w w' : World) (b : Bool) (all : Ending) → b ≡ true
    → w.charges ≤ n → turns n shape e body line env w ≡ all
    → ((first other : Env → World → Ending) → if_else shape e first other line env w ≡ goes_on (Ok b) first other env w') → then_do (body env w') (turns (n - 1) shape e body line) ≡ all
turned_true n shape e body line env w w' false all is le so cond = absurd (cc)
turned_true n shape e body line env w w' true all is le so cond = turned n shape e body line env w w' (Ok true) all le so cond

pub again : (n : ℕ) (shape : List TypeShape) (e : Expr) (body : Does) (line : ℕ) (env env' : Env) (w w' w2 : World) (b : Bool) (end : End)
    (all : Ending) → b ≡ true → w.charges ≤ n → turns n shape e body line env w ≡ all
    → ((first other : Env → World → Ending) → if_else shape e first other line env w ≡ goes_on (Ok b) first other env w')
    → ending_of end env' w2 ≡ body env w' → end ≡ EndNormal → turns (n - 1) shape e body line env' w2 ≡ all
again n shape e body line env env' w w' w2 b end all is le so cond ran normal =
    ap (λ o. then_do (ending_of o env' w2) (turns (n - 1) shape e body line)) (sym normal)
    ∙ ap (λ o. then_do o (turns (n - 1) shape e body line)) ran
    ∙ turned_true n shape e body line env w w' b all is le so cond

pub over : (n : ℕ) (shape : List TypeShape) (e : Expr) (body : Does) (line : ℕ) (env env' : Env) (w w' w2 : World) (b : Bool) (end : End)
    (all : Ending) → b ≡ true → w.charges ≤ n → turns n shape e body line env w ≡ all
    → ((first other : Env → World → Ending) → if_else shape e first other line env w ≡ goes_on (Ok b) first other env w')
    → ending_of end env' w2 ≡ body env w' → end ≢ EndNormal → ending_of end env' w2 ≡ all
over n shape e body line env env' w w' w2 b end all is le so cond ran other =
    sym (then_other end env' w2 (turns (n - 1) shape e body line) other)
    ∙ ap (λ o. then_do o (turns (n - 1) shape e body line)) ran
    ∙ turned_true n shape e body line env w w' b all is le so cond

-- what a condition came to, of the same shape and locals by other names
pub shown : (shape shape' : List TypeShape) (e : Expr) (line : ℕ) (env env' : Env) (w w' : World) (r : Result Bool End) → shape' ≡ shape → env' ≡ env
    → ((first other : Env → World → Ending) → if_else shape' e first other line env' w ≡ goes_on r first other env' w')
    → (first other : Env → World → Ending) → if_else shape e first other line env w ≡ goes_on r first other env w'
shown shape shape' e line env env' w w' r same locals cond first other =
    subst (λ s. if_else s e first other line env w ≡ goes_on r first other env w') same
    (subst (λ v. if_else shape' e first other line v w ≡ goes_on r first other v w') locals (cond first other))
