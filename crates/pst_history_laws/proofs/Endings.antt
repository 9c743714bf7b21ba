-- The meaning of statements hands lines on, and looks at none.
use Rattle.std.proofs.Common.{ℕ, zero, suc, ◌+◌, Option, Some, None, Bool, true, false, List, [], ◌∷◌, map, length, slice_get, refl, sym, subst, min}
use Rattle.std.specs.Prelude.{nat_lt, nat_le, ◌^◌}
use Rattle.std.specs.Option.{option_map, option_eq}
use Rattle.std.proofs.lemmas.Option.{slice_get-map}
use Rattle.pst_base.specs.Heap.{kind_in, type_in}
use Rattle.pst_base.specs.declared.names.Kind.{Kind}
use Rattle.pst_base.specs.declared.names.Kind.TheVariants.{Int, Pointer}
use Rattle.pst_base.specs.declared.names.Name.{Name}
use Rattle.pst_base.specs.declared.names.TrapKind.{TrapKind}
use Rattle.pst_base.specs.declared.names.TypeNo.{TypeNo}
use Rattle.pst_base.specs.declared.shape.TypeShape.{TypeShape}
use Rattle.pst_base.specs.Name.{root_name}
use Rattle.pst_program.specs.declared.meaning.Value.{Value}
use Rattle.pst_program.specs.declared.meaning.Value.TheVariants.{Number as ANumber, Truth as ATruth, Null as ANull, Record as ARecord}
use Rattle.pst_program.specs.Syntax.{Expr, Action, Set, SetRoot, Store, StoreIndexed, New, Call, Print, If, Either, While, Return, Actions, Empty, Then, Procedure, Routines}
use Rattle.pst_program.specs.Value.{Env, Answer, Gives, Traps as TrapsBy, number_of, truth_of, index_of, value}
use Rattle.pst_program.specs.Meaning.{World, Ending, Normal, Returned, Trapped, Spent, Does, Calls, charged, with_answer, then_do, choose, Answers, Gives_all}
use Rattle.pst_program.specs.Meaning.{Traps_at, values, with_answers, is_full, is_target, same_type, write_pointer, write_kind, write, with_object, with_index}
use Rattle.pst_program.specs.Meaning.{after_call, if_else, turns, exec_action, exec, leave, run_body, call}
use Rattle.pst_program.specs.Outcome.{TaskCall, outcome_of, next_call, in_order, one_call, first_world}
use Rattle.pst_history_laws.specs.Lines.{action_lineless, actions_lineless, procedure_lineless, routines_lineless}
use Rattle.pst_history_laws.specs.Alike.{BothDone, BothStopped, BothTrapped, OutcomeAlike}
use Rattle.pst_history_laws.specs.LawsLines.{OutcomeLaw}

-- ends of statements that are the same but for the line
data EndingAlike : Ending → Ending → Type 0 where
  Normals : (env : Env) (w : World) → EndingAlike (Normal env w) (Normal env w)
  Returns : (v : Option Value) (w : World) → EndingAlike (Returned v w) (Returned v w)
  Traps : (t : TrapKind) (l k : ℕ) (w : World) → EndingAlike (Trapped t l w) (Trapped t k w)
  Spents : (l k : ℕ) (w : World) → EndingAlike (Spent l w) (Spent k w)

-- ---- one after another

charged-alike : (c l k : ℕ) (w : World) (go go' : World → Ending) → ((w : World) → EndingAlike (go w) (go' w)) → EndingAlike (charged c l w go) (charged c k w go')
charged-alike zero l k w go go' s = Spents l k w
charged-alike (suc n) l k w go go' s = s record w { charges = n }

answer-alike : (a : Answer) (l k : ℕ) (w : World) (go go' : Value → Ending) → ((v : Value) → EndingAlike (go v) (go' v)) → EndingAlike (with_answer a l w go) (with_answer a k w go')
answer-alike (Gives v) l k w go go' s = s v
answer-alike (TrapsBy t) l k w go go' s = Traps t l k w

answers-alike : (a : Answers) (l k : ℕ) (w : World) (go go' : List Value → Ending) → ((vs : List Value) → EndingAlike (go vs) (go' vs)) → EndingAlike (with_answers a l w go) (with_answers a k w go')
answers-alike (Gives_all vs) l k w go go' s = s vs
answers-alike (Traps_at t) l k w go go' s = Traps t l k w

object-alike : (v : Value) (l k : ℕ) (w : World) (go go' : Name → Ending) → ((n : Name) → EndingAlike (go n) (go' n)) → EndingAlike (with_object v l w go) (with_object v k w go')
object-alike (ARecord n) l k w go go' s = s n
object-alike ANull l k w go go' s = Traps _ l k w
object-alike (ANumber x) l k w go go' s = Traps _ l k w
object-alike (ATruth b) l k w go go' s = Traps _ l k w

index-alike : (o : Option ℕ) (l k : ℕ) (w : World) (go go' : ℕ → Ending) → ((i : ℕ) → EndingAlike (go i) (go' i)) → EndingAlike (with_index o l w go) (with_index o k w go')
index-alike (Some i) l k w go go' s = s i
index-alike None l k w go go' s = Traps _ l k w

choose-alike : (b : Bool) (x x' y y' : Ending) → EndingAlike x x' → EndingAlike y y' → EndingAlike (choose b x y) (choose b x' y')
choose-alike true x x' y y' p q = p
choose-alike false x x' y y' p q = q

then-alike : (a b : Ending) → EndingAlike a b → (go go' : Does) → ((env : Env) (w : World) → EndingAlike (go env w) (go' env w)) → EndingAlike (then_do a go) (then_do b go')
then-alike a b (Normals env w) go go' s = s env w
then-alike a b (Returns v w) go go' s = Returns v w
then-alike a b (Traps t l k w) go go' s = Traps t l k w
then-alike a b (Spents l k w) go go' s = Spents l k w

-- ---- writes

pointer-alike : (shape : List TypeShape) (ty : TypeNo) (n : Name) (slot : ℕ) (v : Value) (l k : ℕ) (env : Env) (w : World)
    → EndingAlike (write_pointer shape ty n slot v l env w) (write_pointer shape ty n slot v k env w)
pointer-alike shape ty n slot ANull l k env w = Normals env _
pointer-alike shape ty n slot (ARecord y) l k env w =
    choose-alike (option_eq same_type (type_in w.heap y) (Some ty)) _ _ _ _ (choose-alike (is_full shape w.heap n slot y) _ _ _ _ (Traps _ l k w) (Normals env _)) (Traps _ l k w)
pointer-alike shape ty n slot (ANumber x) l k env w = Traps _ l k w
pointer-alike shape ty n slot (ATruth b) l k env w = Traps _ l k w

kind-alike : (shape : List TypeShape) (o : Option Kind) (n : Name) (slot : ℕ) (v : Value) (l k : ℕ) (env : Env) (w : World)
    → EndingAlike (write_kind shape o n slot v l env w) (write_kind shape o n slot v k env w)
kind-alike shape None n slot v l k env w = Traps _ l k w
kind-alike shape (Some Int) n slot v l k env w = Normals env _
kind-alike shape (Some (Pointer ty)) n slot v l k env w = pointer-alike shape ty n slot v l k env w

write-alike : (shape : List TypeShape) (n : Name) (slot : ℕ) (v : Value) (l k : ℕ) (env : Env) (w : World) → EndingAlike (write shape n slot v l env w) (write shape n slot v k env w)
write-alike shape n slot v l k env w = kind-alike shape (kind_in shape w.heap n slot) n slot v l k env w

-- ---- statements

if-alike : (shape : List TypeShape) (e : Expr) (first first' other other' : Does) (l k : ℕ) (env : Env) (w : World)
    → ((env : Env) (w : World) → EndingAlike (first env w) (first' env w)) → ((env : Env) (w : World) → EndingAlike (other env w) (other' env w))
    → EndingAlike (if_else shape e first other l env w) (if_else shape e first' other' k env w)
if-alike shape e first first' other other' l k env w p q =
    charged-alike w.charges l k w _ _ (λ w. answer-alike (value shape e env w.heap) l k w _ _ (λ v. choose-alike (truth_of v) _ _ _ _ (p env w) (q env w)))

turns-alike : (n : ℕ) (shape : List TypeShape) (e : Expr) (body body' : Does) (l k : ℕ) (env : Env) (w : World)
    → ((env : Env) (w : World) → EndingAlike (body env w) (body' env w)) → EndingAlike (turns n shape e body l env w) (turns n shape e body' k env w)
turns-alike zero shape e body body' l k env w p = Spents l k w
turns-alike (suc n) shape e body body' l k env w p =
    if-alike shape e _ _ Normal Normal l k env w (λ env w. then-alike (body env w) (body' env w) (p env w) _ _ (λ env w. turns-alike n shape e body body' l k env w p)) (λ env w. Normals env w)

call-alike : (result : Option ℕ) (env : Env) (a b : Ending) → EndingAlike a b → EndingAlike (after_call result env a) (after_call result env b)
call-alike result env a b (Normals env' w) = Normals env w
call-alike result env a b (Returns v w) = Normals _ w
call-alike result env a b (Traps t l k w) = Traps t l k w
call-alike result env a b (Spents l k w) = Spents l k w

module _ (shape : List TypeShape) (calls calls' : Calls) (same : (p : ℕ) (vs : List Value) (l k : ℕ) (w : World) → EndingAlike (calls p vs l w) (calls' p vs k w)) where
  mutual
    action-alike : (a : Action) (l k : ℕ) (env : Env) (w : World) → EndingAlike (exec_action shape calls a l env w) (exec_action shape calls' (action_lineless a) k env w)
    action-alike (Set x e) l k env w = charged-alike w.charges l k w _ _ (λ w. answer-alike (value shape e env w.heap) l k w _ _ (λ v. Normals _ w))
    action-alike (SetRoot slot e) l k env w = charged-alike w.charges l k w _ _ (λ w. answer-alike (value shape e env w.heap) l k w _ _ (λ v. write-alike shape root_name slot v l k env w))
    action-alike (Store o slot e) l k env w =
        charged-alike w.charges l k w _ _ (λ w. answer-alike (value shape o env w.heap) l k w _ _
        (λ object. object-alike object l k w _ _ (λ n. answer-alike (value shape e env w.heap) l k w _ _ (λ v. write-alike shape n slot v l k env w))))
    action-alike (StoreIndexed o slot elements i e) l k env w =
        charged-alike w.charges l k w _ _ (λ w. answer-alike (value shape o env w.heap) l k w _ _
        (λ object. object-alike object l k w _ _ (λ n. answer-alike (value shape i env w.heap) l k w _ _ (λ index.
        index-alike (index_of elements (number_of index)) l k w _ _ (λ j. answer-alike (value shape e env w.heap) l k w _ _ (λ v. write-alike shape n (slot + j) v l k env w))))))
    action-alike (New x ty) l k env w = charged-alike w.charges l k w _ _ (λ w. choose-alike (is_target shape ty) _ _ _ _ (Normals _ _) (Traps _ l k w))
    action-alike (Call result p es) l k env w =
        charged-alike w.charges l k w _ _ (λ w. answers-alike (values shape es env w.heap) l k w _ _ (λ vs. call-alike result env (calls p vs l w) (calls' p vs k w) (same p vs l k w)))
    action-alike (Print e) l k env w =
        charged-alike w.charges l k w _ _ (λ w. answer-alike (value shape e env w.heap) l k w _ _ (λ v. choose-alike (nat_lt (length w.printed) (2 ^ 16)) _ _ _ _ (Normals env _) (Traps _ l k w)))
    action-alike (If e first) l k env w = if-alike shape e _ _ Normal Normal l k env w (λ env w. exec-alike first env w) (λ env w. Normals env w)
    action-alike (Either e first other) l k env w = if-alike shape e _ _ _ _ l k env w (λ env w. exec-alike first env w) (λ env w. exec-alike other env w)
    action-alike (While e body) l k env w = turns-alike w.charges shape e _ _ l k env w (λ env w. exec-alike body env w)
    action-alike (Return None) l k env w = charged-alike w.charges l k w _ _ (λ w. Returns None w)
    action-alike (Return (Some e)) l k env w = charged-alike w.charges l k w _ _ (λ w. answer-alike (value shape e env w.heap) l k w _ _ (λ v. Returns (Some v) w))

    exec-alike : (a : Actions) (env : Env) (w : World) → EndingAlike (exec shape calls a env w) (exec shape calls' (actions_lineless a) env w)
    exec-alike Empty env w = Normals env w
    exec-alike (Then line a rest) env w = then-alike _ _ (action-alike a line 0 env w) _ _ (λ env w. exec-alike rest env w)

-- ---- calls and runs

leave-alike : (result : Option Kind) (a b : Ending) → EndingAlike a b → EndingAlike (leave result a) (leave result b)
leave-alike result a b (Normals env w) = Returns _ w
leave-alike result a b (Returns v w) = Returns v w
leave-alike result a b (Traps t l k w) = Traps t l k w
leave-alike result a b (Spents l k w) = Spents l k w

body-alike : (shape : List TypeShape) (calls calls' : Calls) →
    ((p : ℕ) (vs : List Value) (l k : ℕ) (w : World) → EndingAlike (calls p vs l w) (calls' p vs k w)) → (o : Option Procedure) (vs : List Value) (w : World)
    → EndingAlike (run_body shape calls o vs w) (run_body shape calls' (option_map procedure_lineless o) vs w)
body-alike shape calls calls' same None vs w = Returns None w
body-alike shape calls calls' same (Some p) vs w = leave-alike p.result _ _ (exec-alike shape calls calls' same p.body _ w)

module _ (r : Routines) where
  calls-alike : (d p : ℕ) (vs : List Value) (l k : ℕ) (w : World) → EndingAlike (call r d p vs l w) (call (routines_lineless r) d p vs k w)
  unfolding call
  calls-alike zero p vs l k w = Traps _ l k w
  calls-alike (suc d) p vs l k w =
      subst (λ o. EndingAlike (run_body r.shape (call r d) (slice_get r.procedures p) vs w) (run_body r.shape (call (routines_lineless r) d) o vs w))
      (sym (slice_get-map procedure_lineless r.procedures p))
      (body-alike r.shape (call r d) (call (routines_lineless r) d) (λ p vs l k w. calls-alike d p vs l k w) (slice_get r.procedures p) vs w)

  one-alike : (c : TaskCall) (w : World) → EndingAlike (one_call r c w) (one_call (routines_lineless r) c w)
  one-alike c w =
      subst (λ o. EndingAlike (one_call r c w) (run_body r.shape (call (routines_lineless r) 255) o (map ANumber c.arguments) w)) (sym (slice_get-map procedure_lineless r.procedures c.procedure))
      (body-alike r.shape (call r 255) (call (routines_lineless r) 255) (λ p vs l k w. calls-alike 255 p vs l k w) (slice_get r.procedures c.procedure) (map ANumber c.arguments) w)

  next-alike : (a b : Ending) → EndingAlike a b → (go go' : World → Ending) → ((w : World) → EndingAlike (go w) (go' w)) → EndingAlike (next_call a go) (next_call b go')
  next-alike a b (Normals env w) go go' s = s w
  next-alike a b (Returns v w) go go' s = s w
  next-alike a b (Traps t l k w) go go' s = Traps t l k w
  next-alike a b (Spents l k w) go go' s = Spents l k w

  order-alike : (cs : List TaskCall) (w : World) → EndingAlike (in_order (one_call r) cs w) (in_order (one_call (routines_lineless r)) cs w)
  order-alike [] w = Returns None w
  order-alike (c ∷ cs) w = next-alike _ _ (one-alike c w) _ _ (λ w. order-alike cs w)

  outcome-alike : (whole : Bool) (a b : Ending) → EndingAlike a b → OutcomeAlike (outcome_of whole a) (outcome_of whole b)
  outcome-alike whole a b (Normals env w) = record { end = BothDone; heap = refl; printed = refl; counts = refl }
  outcome-alike whole a b (Returns v w) = record { end = BothDone; heap = refl; printed = refl; counts = refl }
  outcome-alike whole a b (Traps t l k w) = record { end = BothTrapped t l k; heap = refl; printed = refl; counts = refl }
  outcome-alike true a b (Spents l k w) = record { end = BothTrapped _ l k; heap = refl; printed = refl; counts = refl }
  outcome-alike false a b (Spents l k w) = record { end = BothStopped; heap = refl; printed = refl; counts = refl }

pub outcome_law : OutcomeLaw
outcome_law r task granted heap = outcome-alike r (nat_le task.budget granted) _ _ (order-alike r task.calls (first_world task.run (min granted task.budget) heap))
