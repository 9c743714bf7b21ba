-- A well-typed program is what the compiler asks for.
use Rattle.std.proofs.Common.{◌≡◌, ℕ, ◌+◌, ◌≤◌, List, [], ◌∷◌, ◌++◌, map, take, length, Option, Some, None, refl, arith, slice_get}
use Rattle.std.proofs.Common.{Bool, false}
use Rattle.std.specs.Option.{option_map}
use Rattle.std.specs.List.{AllByRecursion}
use Rattle.std.proofs.lemmas.List.{length-take-le}
use Rattle.pst_base.specs.declared.names.Kind.{Kind}
use Rattle.pst_base.specs.declared.names.Kind.TheVariants.{Int, Pointer}
use Rattle.pst_base.specs.declared.names.Op.{Op}
use Rattle.pst_base.specs.declared.names.Op.TheVariants as op
use Rattle.pst_base.specs.declared.shape.TypeShape.{TypeShape}
use Rattle.pst_program.specs.Syntax as syntax
use Rattle.pst_program.specs.Syntax.{Expr, Action, Actions, Number, Null, Local, Root, Parens, Load, LoadIndexed, Negate, Not, Binary, Set, SetRoot, Store}
use Rattle.pst_program.specs.Syntax.{StoreIndexed, New, Call, Print, If, Either, While, Return, Empty, Then, Routines}
use Rattle.pst_program.specs.Typed as typed
use Rattle.pst_program.specs.Typed.{Sort, Of, Truth, root_kind, sort_of, depth, deepest, action_depth, block_depth, IsTyped, IsTypedProcedure, IsTypedAction, IsTypedBlock}
use Rattle.pst_program.proofs.Soundness.{given_some}
use Rattle.pst_program.specs.Meaning.{is_target}
use Rattle.pst_translation.specs.declared.need.Need.{Need}
use Rattle.pst_translation.specs.Needs.{need, expr_needs, test_needs, arguments_needs, return_needs, action_needs, block_needs, end_needs, table_of}
use Rattle.pst_translation.proofs.Valid.{few_registers}
use Rattle.pst_translation.proofs.ValidLists.{all_front, all_back}
use Rattle.pst_translation.proofs.ValidSorts.{of_truth, FieldOf, field_is, ArrayOf, array_is, load_kind, element_kind, negated, no_not, denied, Operands}
use Rattle.pst_translation.proofs.ValidSorts.{number_operands, and_operands, or_operands, is_logical, Compared, compared_operands}
use Rattle.pst_translation.proofs.ValidActions.{Put, put}
use Rattle.pst_translation.proofs.ValidTables.{noted_covers}
use Rattle.pst_codegen_expressions.specs.Ready.{Has, HasAll, HasNoted, HasEnd, IsOperand, IsTest, AreArguments, IsResult, IsReady, AreReady, IsReadyProcedure}

-- ---- expressions

module _ (shape : List TypeShape) (kinds : List Kind) (has : Has) where
  abbrev sort : Expr → Option Sort
  sort e = sort_of shape kinds e

  abbrev HasEach : List Need → Type 0
  HasEach needs = AllByRecursion (λ n. has n.level n.kind) needs

  front : (a b : List Need) → HasEach (a ++ b) → HasEach a
  front a b h = all_front (λ (n : Need). has n.level n.kind) a b h

  back : (a b : List Need) → HasEach (a ++ b) → HasEach b
  back a b h = all_back (λ (n : Need). has n.level n.kind) a b h

  operand : (e : Expr) (k : ℕ) (kind : Kind) → sort e ≡ Some (Of kind) → k + depth e ≤ 65535 → HasEach (expr_needs shape e k) → IsOperand shape has e k
  operand (Number n) k kind s d h = h.0
  operand (Null ty) k kind s d h = h.0
  operand (Local x) k kind s d h = tt
  operand (Root slot) k kind s d h = h.0
  operand (Parens e) k kind s d h = operand e k kind s (omega (arith, d)) h
  operand (Load e slot kind') k kind s d h =
      let f : FieldOf shape (sort e) slot kind' = (load_kind shape kinds e slot kind' kind s).0 in
      (operand e k (Pointer f.ty) f.object (omega (arith, d)) (front (expr_needs shape e k) (need k kind' ∷ []) h), (back (expr_needs shape e k) (need k kind' ∷ []) h).0)
  operand (LoadIndexed e slot elements i kind') k kind s d h =
      let held = element_kind shape kinds e slot elements i kind' kind s in
      let o : ArrayOf shape (sort e) slot elements kind' = held.0 in
      let rest : List Need = expr_needs shape i (k + 1) ++ need k kind' ∷ [] in (
        operand e k (Pointer o.ty) o.object (omega (arith, d)) (front (expr_needs shape e k) rest h),
        omega (arith, d),
        operand i (k + 1) Int held.1 (omega (arith, d)) (front (expr_needs shape i (k + 1)) (need k kind' ∷ []) (back (expr_needs shape e k) rest h)),
        (back (expr_needs shape i (k + 1)) (need k kind' ∷ []) (back (expr_needs shape e k) rest h)).0,
      )
  operand (Negate e) k kind s d h =
      (operand e k Int (negated shape kinds e kind s).0 (omega (arith, d)) (front (expr_needs shape e k) (need k Int ∷ []) h), (back (expr_needs shape e k) (need k Int ∷ []) h).0)
  operand (Not e) k kind s d h = absurd (no_not shape kinds e kind s)
  operand (Binary operator a b) k kind s d h =
      let both : Operands (Of Int) (sort a) (sort b) = (number_operands operator (sort a) (sort b) kind s).0 in
      let rest : List Need = expr_needs shape b (k + 1) ++ need k Int ∷ [] in (
        operand a k Int both.left_is (omega (arith, d)) (front (expr_needs shape a k) rest h),
        omega (arith, d),
        operand b (k + 1) Int both.right_is (omega (arith, d)) (front (expr_needs shape b (k + 1)) (need k Int ∷ []) (back (expr_needs shape a k) rest h)),
        (back (expr_needs shape b (k + 1)) (need k Int ∷ []) (back (expr_needs shape a k) rest h)).0,
      )

  comparison : (operator : Op) (a b : Expr) → is_logical operator ≡ false → sort (Binary operator a b) ≡ Some Truth → depth (Binary operator a b) ≤ 64
      → HasEach (expr_needs shape a 0 ++ expr_needs shape b 1)
      → IsOperand shape has a 0 × IsOperand shape has b 1
  comparison operator a b other s d h =
      let c : Compared operator (sort a) (sort b) = compared_operands operator (sort a) (sort b) other s in (
        operand a 0 c.kind c.operands.left_is (omega (arith, d)) (front (expr_needs shape a 0) (expr_needs shape b 1) h),
        operand b 1 c.kind c.operands.right_is (omega (arith, d)) (back (expr_needs shape a 0) (expr_needs shape b 1) h),
      )

  no_truth : (o : Option Kind) → option_map Of o ≡ Some Truth → ⊥
  no_truth None s = absurd (cc)
  no_truth (Some kind) s = absurd (cc)

  given_truth : (b : Bool) (kind : Kind) → typed.given b (Of kind) ≡ Some Truth → ⊥
  given_truth b kind s = of_truth kind (given_some b (Of kind) Truth s).1

  test : (e : Expr) → sort e ≡ Some Truth → depth e ≤ 64 → HasEach (test_needs shape e) → IsTest shape has e
  test (Number n) s d h = absurd (cc)
  test (Null ty) s d h = absurd (given_truth (is_target shape ty) (Pointer ty) s)
  test (Local x) s d h = absurd (no_truth (slice_get kinds x) s)
  test (Root slot) s d h = absurd (no_truth (root_kind shape slot) s)
  test (Parens e) s d h = test e s (omega (arith, d)) h
  test (Load e slot kind) s d h = absurd (given_truth _ kind s)
  test (LoadIndexed e slot elements i kind) s d h = absurd (given_truth _ kind s)
  test (Negate e) s d h = absurd (given_truth _ Int s)
  test (Not e) s d h = test e (denied shape kinds e s) (omega (arith, d)) h
  test (Binary op.And a b) s d h =
      let o : Operands Truth (sort a) (sort b) = and_operands (sort a) (sort b) s in
      (test a o.left_is (omega (arith, d)) (front (test_needs shape a) (test_needs shape b) h), test b o.right_is (omega (arith, d)) (back (test_needs shape a) (test_needs shape b) h))
  test (Binary op.Or a b) s d h =
      let o : Operands Truth (sort a) (sort b) = or_operands (sort a) (sort b) s in
      (test a o.left_is (omega (arith, d)) (front (test_needs shape a) (test_needs shape b) h), test b o.right_is (omega (arith, d)) (back (test_needs shape a) (test_needs shape b) h))
  test (Binary op.Add a b) s d h = comparison op.Add a b refl s d h
  test (Binary op.Sub a b) s d h = comparison op.Sub a b refl s d h
  test (Binary op.Mul a b) s d h = comparison op.Mul a b refl s d h
  test (Binary op.Div a b) s d h = comparison op.Div a b refl s d h
  test (Binary op.Rem a b) s d h = comparison op.Rem a b refl s d h
  test (Binary op.Equal a b) s d h = comparison op.Equal a b refl s d h
  test (Binary op.NotEqual a b) s d h = comparison op.NotEqual a b refl s d h
  test (Binary op.Less a b) s d h = comparison op.Less a b refl s d h
  test (Binary op.LessEqual a b) s d h = comparison op.LessEqual a b refl s d h
  test (Binary op.Greater a b) s d h = comparison op.Greater a b refl s d h
  test (Binary op.GreaterEqual a b) s d h = comparison op.GreaterEqual a b refl s d h

-- ---- statements

module _ (r : Routines) (q : syntax.Procedure) (others : (i : ℕ) (callee : syntax.Procedure) → slice_get r.procedures i ≡ Some callee → IsTypedProcedure r callee) (has : Has) where
  abbrev sort_in : Expr → Option Sort
  sort_in e = sort_of r.shape q.kinds e

  abbrev All : List Need → Type 0
  All needs = AllByRecursion (λ n. has n.level n.kind) needs

  first_of_two : (a b : List Need) → All (a ++ b) → All a
  first_of_two a b h = all_front (λ (n : Need). has n.level n.kind) a b h

  second_of_two : (a b : List Need) → All (a ++ b) → All b
  second_of_two a b h = all_back (λ (n : Need). has n.level n.kind) a b h

  one : (e : Expr) (k : ℕ) (kind : Kind) → sort_in e ≡ Some (Of kind) → k + depth e ≤ 65535 → All (expr_needs r.shape e k) → IsOperand r.shape has e k
  one e k kind s d h = operand r.shape q.kinds has e k kind s d h

  condition : (e : Expr) → sort_in e ≡ Some Truth → depth e ≤ 64 → All (test_needs r.shape e) → IsTest r.shape has e
  condition e s d h = test r.shape q.kinds has e s d h

  put_ready : (held : Option Kind) (e : Expr) → typed.Fits held (sort_in e) → depth e ≤ 64 → All (expr_needs r.shape e 0) → IsOperand r.shape has e 0
  put_ready held e t d h = let f : Put held (sort_in e) = put held (sort_in e) t in one e 0 f.kind f.is (omega (arith, d)) h

  store_ready : (o : Expr) (slot : ℕ) (e : Expr) → IsTypedAction r q (Store o slot e) → action_depth (Store o slot e) ≤ 64 → All (expr_needs r.shape o 0 ++ expr_needs r.shape e 1)
      → IsOperand r.shape has o 0 × IsOperand r.shape has e 1
  store_ready o slot e t d h =
      let f : Put (typed.field_of r.shape (sort_in o) slot) (sort_in e) = put (typed.field_of r.shape (sort_in o) slot) (sort_in e) t.1 in
      let g : FieldOf r.shape (sort_in o) slot f.kind = field_is r.shape (sort_in o) slot f.kind f.there in (
        one o 0 (Pointer g.ty) g.object (omega (arith, d)) (first_of_two (expr_needs r.shape o 0) (expr_needs r.shape e 1) h),
        one e 1 f.kind f.is (omega (arith, d)) (second_of_two (expr_needs r.shape o 0) (expr_needs r.shape e 1) h),
      )

  store_element_ready : (o : Expr) (slot elements : ℕ) (i e : Expr) → IsTypedAction r q (StoreIndexed o slot elements i e) → action_depth (StoreIndexed o slot elements i e) ≤ 64
      → All (expr_needs r.shape o 0 ++ (expr_needs r.shape i 1 ++ expr_needs r.shape e 2)) → IsOperand r.shape has o 0 × IsOperand r.shape has i 1 × IsOperand r.shape has e 2
  store_element_ready o slot elements i e t d h =
      let held : Option Kind = typed.array_of r.shape (sort_in o) slot elements in
      let f : Put held (sort_in e) = put held (sort_in e) t.2 in
      let g : ArrayOf r.shape (sort_in o) slot elements f.kind = array_is r.shape (sort_in o) slot elements f.kind f.there in
      let rest : List Need = expr_needs r.shape i 1 ++ expr_needs r.shape e 2 in
      let behind : All rest = second_of_two (expr_needs r.shape o 0) rest h in (
        one o 0 (Pointer g.ty) g.object (omega (arith, d)) (first_of_two (expr_needs r.shape o 0) rest h),
        one i 1 Int t.1 (omega (arith, d)) (first_of_two (expr_needs r.shape i 1) (expr_needs r.shape e 2) behind),
        one e 2 f.kind f.is (omega (arith, d)) (second_of_two (expr_needs r.shape i 1) (expr_needs r.shape e 2) behind),
      )

  arguments_ready : (es : List Expr) (kinds : List Kind) (k : ℕ) → map sort_in es ≡ map (λ (kind : Kind). Some (Of kind)) kinds → deepest es ≤ 64
      → k + length kinds ≤ 9 → All (arguments_needs r.shape es k) → AreArguments r.shape has es k
  arguments_ready [] kinds k t d few h = tt
  arguments_ready (e ∷ es) [] k t d few h = absurd (cc)
  arguments_ready (e ∷ es) (kind ∷ kinds) k t d few h =
      let first : sort_in e ≡ Some (Of kind) = cc in
      let rest : map sort_in es ≡ map (λ (kind : Kind). Some (Of kind)) kinds = cc in (
        one e k kind first (omega (arith, d, few)) (first_of_two (expr_needs r.shape e k) (arguments_needs r.shape es (k + 1)) h),
        omega (arith, few),
        arguments_ready es kinds (k + 1) rest (omega (arith, d)) (omega (arith, few)) (second_of_two (expr_needs r.shape e k) (arguments_needs r.shape es (k + 1)) h),
      )

  call_ready : (local : Option ℕ) (es : List Expr) (o : Option syntax.Procedure)
      → ((callee : syntax.Procedure) → o ≡ Some callee → IsTypedProcedure r callee) → typed.IsCall r.shape q local es o → deepest es ≤ 64
      → All (arguments_needs r.shape es 0) → AreArguments r.shape has es 0
  call_ready local es None known t d h = absurd t
  call_ready local es (Some callee) known t d h =
      let is : IsTypedProcedure r callee = known callee refl in
      let few : callee.arguments ≤ 8 = is.few_parameters in
      let size : length (take callee.arguments callee.kinds) ≡ callee.arguments = length-take-le callee.arguments callee.kinds is.parameters in
      arguments_ready es (typed.parameters_of callee) 0 t.arguments_fit d (omega (arith, few, size)) h

  return_ready : (e : Option Expr) → IsTypedAction r q (Return e) → action_depth (Return e) ≤ 64 → All (return_needs r.shape e) → IsResult r.shape has e
  return_ready None t d h = tt
  return_ready (Some e) t d h = put_ready q.result e t d h

  mutual
    action_ready : (action : Action) → IsTypedAction r q action → action_depth action ≤ 64 → All (action_needs r.shape action) → IsReady r.shape has action
    action_ready (Set x e) t d h = put_ready (slice_get q.kinds x) e t d h
    action_ready (SetRoot slot e) t d h = put_ready (root_kind r.shape slot) e t.1 d h
    action_ready (Store o slot e) t d h = store_ready o slot e t d h
    action_ready (StoreIndexed o slot elements i e) t d h = store_element_ready o slot elements i e t d h
    action_ready (New x ty) t d h = tt
    action_ready (Call local callee es) t d h = call_ready local es (slice_get r.procedures callee) (others callee) t d h
    action_ready (Print e) t d h = one e 0 Int t (omega (arith, d)) h
    action_ready (If e first) t d h = (
      condition e t.0 (omega (arith, d)) (first_of_two (test_needs r.shape e) (block_needs r.shape first) h),
      block_ready first t.1 (omega (arith, d)) (second_of_two (test_needs r.shape e) (block_needs r.shape first) h),
    )
    action_ready (Either e first other) t d h =
        let sides : List Need = block_needs r.shape first ++ block_needs r.shape other in (
          condition e t.0 (omega (arith, d)) (first_of_two (test_needs r.shape e) sides h),
          block_ready first t.1 (omega (arith, d)) (first_of_two (block_needs r.shape first) (block_needs r.shape other) (second_of_two (test_needs r.shape e) sides h)),
          block_ready other t.2 (omega (arith, d)) (second_of_two (block_needs r.shape first) (block_needs r.shape other) (second_of_two (test_needs r.shape e) sides h)),
        )
    action_ready (While e body) t d h = (
      condition e t.0 (omega (arith, d)) (first_of_two (test_needs r.shape e) (block_needs r.shape body) h),
      block_ready body t.1 (omega (arith, d)) (second_of_two (test_needs r.shape e) (block_needs r.shape body) h),
    )
    action_ready (Return e) t d h = return_ready e t d h

    block_ready : (actions : Actions) → IsTypedBlock r q actions → block_depth actions ≤ 64 → All (block_needs r.shape actions) → AreReady r.shape has actions
    block_ready Empty t d h = tt
    block_ready (Then line action rest) t d h = (
      action_ready action t.0 (omega (arith, d)) (first_of_two (action_needs r.shape action) (block_needs r.shape rest) h),
      block_ready rest t.1 (omega (arith, d)) (second_of_two (action_needs r.shape action) (block_needs r.shape rest) h),
    )

-- ---- procedures

all_there : (needs : List Need) → AllByRecursion (λ (n : Need). HasAll n.level n.kind) needs
all_there [] = tt
all_there (n ∷ needs) = (tt, all_there needs)

end_ready : (has : Has) (result : Option Kind) → AllByRecursion (λ (n : Need). has n.level n.kind) (end_needs result) → HasEnd has result
end_ready has None h = tt
end_ready has (Some kind) h = h.0

pub procedure_ready : (r : Routines) → IsTyped r → (i : ℕ) (p : syntax.Procedure) → slice_get r.procedures i ≡ Some p → IsReadyProcedure r.shape p
procedure_ready r t i p at =
    let is : IsTypedProcedure r p = t.procedures i p at in
    let block : List Need = block_needs r.shape p.body in
    let covered : AllByRecursion (λ (n : Need). HasNoted (table_of r.shape p) n.level n.kind) (block ++ end_needs p.result) = noted_covers (block ++ end_needs p.result) [] in
    record {
      low = block_ready r p t.procedures HasAll p.body is.body is.shallow.expressions (all_there block);
      noted = block_ready r p t.procedures (HasNoted (table_of r.shape p)) p.body is.body is.shallow.expressions
          (all_front (λ (n : Need). HasNoted (table_of r.shape p) n.level n.kind) block (end_needs p.result) covered);
      end = end_ready (HasNoted (table_of r.shape p)) p.result (all_back (λ (n : Need). HasNoted (table_of r.shape p) n.level n.kind) block (end_needs p.result) covered);
      few = (few_registers r t i p at).registers;
    }
