-- What a well-typed procedure needs: registers of low levels, for kinds that the record types have.
use Rattle.std.proofs.Common.{◌≡◌, ℕ, zero, suc, ◌+◌, ◌-◌, ◌<◌, ◌≤◌, Bool, true, false, cond, nat_lt, ◌&&◌, List, [], ◌∷◌, ◌++◌, map, take, length, Option}
use Rattle.std.proofs.Common.{Some, None, refl, sym, ap, subst, arith, slice_get}
use Rattle.std.specs.List.{AllByRecursion}
use Rattle.std.specs.Option.{option_map}
use Rattle.std.proofs.lemmas.Bool.{ltb-true}
use Rattle.std.proofs.lemmas.List.{length-take-le}
use Rattle.std.proofs.lemmas.List.Elements.{recursion_from_All}
use Rattle.pst_base.specs.declared.names.Kind.{Kind}
use Rattle.pst_base.specs.declared.names.Kind.TheVariants.{Int, Pointer}
use Rattle.pst_base.specs.declared.names.Op.{Op}
use Rattle.pst_base.specs.declared.names.Op.TheVariants as op
use Rattle.pst_base.specs.declared.names.TypeNo.{TypeNo}
use Rattle.pst_base.specs.declared.shape.TypeShape.{TypeShape}
use Rattle.pst_base.specs.Shape.{IsValid, IsTarget, type_at, root_type, field_kind}
use Rattle.pst_program.specs.Syntax as syntax
use Rattle.pst_program.specs.Syntax.{Expr, Action, Actions, Number, Null, Local, Root, Parens, Load, LoadIndexed, Negate, Not, Binary, Set, SetRoot, Store}
use Rattle.pst_program.specs.Syntax.{StoreIndexed, New, Call, Print, If, Either, While, Return, Empty, Then, Routines}
use Rattle.pst_program.specs.Meaning.{is_target}
use Rattle.pst_program.specs.Typed as typed
use Rattle.pst_program.specs.Typed.{Sort, Of, Truth, root_kind, sort_of, given, depth, deepest, action_depth, block_depth, IsKind, IsResult, IsTypedProcedure, IsTypedAction, IsTypedBlock}
use Rattle.pst_program.proofs.Soundness.{given_some}
use Rattle.pst_translation.specs.declared.need.Need.{Need}
use Rattle.pst_translation.specs.Code.{kind_or}
use Rattle.pst_translation.specs.Needs.{need, expr_needs, test_needs, arguments_needs, return_needs, action_needs, block_needs, end_needs}
use Rattle.pst_translation.proofs.ValidLists.{all_join, all_at}
use Rattle.pst_translation.proofs.ValidSorts.{kind_held, of_same, FieldOf, field_is, load_kind, ArrayOf, array_is, element_kind, negated, no_not, denied}
use Rattle.pst_translation.proofs.ValidSorts.{Operands, number_operands, and_operands, or_operands, is_logical, Compared, compared_operands}
use Rattle.pst_translation.proofs.ValidTables.{IsFair}
use Rattle.pst_translation.proofs.ValidActions.{Put, put}

-- ---- kinds

target_kind : (targets : List TypeNo) (shape : List TypeShape) (i : ℕ) (kind : Kind) → AllByRecursion (IsTarget shape) targets
    → option_map Pointer (slice_get targets i) ≡ Some kind → IsKind shape kind
target_kind [] shape i kind all e = absurd (cc)
target_kind (ty ∷ targets) shape zero kind all e = let same : Pointer ty ≡ kind = cc in subst (IsKind shape) same all.0
target_kind (ty ∷ targets) shape (suc i) kind all e = target_kind targets shape i kind all.1 e

slot_kind_from : (b : Bool) (o : Option Kind) (shape : List TypeShape) (kind : Kind) → (o ≡ Some kind → IsKind shape kind) → cond b (Some Int) o ≡ Some kind → IsKind shape kind
slot_kind_from true o shape kind f e = let same : Int ≡ kind = cc in subst (IsKind shape) same tt
slot_kind_from false o shape kind f e = f e

both_true : (a b : Bool) → (a && b) ≡ true → (a ≡ true) × (b ≡ true)
both_true true b e = (refl, e)
both_true false b e = absurd (cc)

module _ (shape : List TypeShape) (valid : IsValid shape) (kinds : List Kind) (known : AllByRecursion (IsKind shape) kinds) where
  abbrev sort : Expr → Option Sort
  sort e = sort_of shape kinds e

  abbrev Fair : List Need → Type 0
  Fair needs = AllByRecursion (IsFair shape) needs

  join : (a b : List Need) → Fair a → Fair b → Fair (a ++ b)
  join a b f g = all_join (IsFair shape) a b f g

  -- what a field of a type holds is a kind of the shape
  field_known : (ty : TypeNo) (slot : ℕ) (kind : Kind) → ty.0 < length shape → field_kind (type_at shape ty) slot ≡ Some kind → IsKind shape kind
  field_known ty slot kind lt e =
      slot_kind_from (nat_lt slot (type_at shape ty).values) (option_map Pointer (slice_get (type_at shape ty).targets (slot - (type_at shape ty).values))) shape kind
      (target_kind (type_at shape ty).targets shape (slot - (type_at shape ty).values) kind (recursion_from_All (IsTarget shape) (type_at shape ty).targets (valid.targets ty lt))) e

  target_known : (ty : TypeNo) (kind : Kind) → sort (Null ty) ≡ Some (Of kind) → IsKind shape kind
  target_known ty kind s =
      let g = given_some (is_target shape ty) (Of (Pointer ty)) (Of kind) s in
      let b = both_true (nat_lt 0 ty.0) (nat_lt ty.0 (length shape)) g.0 in
      subst (IsKind shape) (of_same (Pointer ty) kind g.1) (ltb-true 0 ty.0 b.0, ltb-true ty.0 (length shape) b.1)

  -- the kind of an expression is a kind of the shape
  sort_known : (e : Expr) (kind : Kind) → sort e ≡ Some (Of kind) → IsKind shape kind
  sort_known (Number n) kind s = let same : Int ≡ kind = cc in subst (IsKind shape) same tt
  sort_known (Null ty) kind s = target_known ty kind s
  sort_known (Local x) kind s = all_at (IsKind shape) kinds x kind known (kind_held (slice_get kinds x) kind s)
  sort_known (Root slot) kind s = field_known root_type slot kind valid.some (kind_held (root_kind shape slot) kind s)
  sort_known (Parens e) kind s = sort_known e kind s
  sort_known (Load e slot kind') kind s =
      let l = load_kind shape kinds e slot kind' kind s in
      let f : FieldOf shape (sort e) slot kind' = l.0 in
      let target : IsTarget shape f.ty = sort_known e (Pointer f.ty) f.object in
      subst (IsKind shape) l.1 (field_known f.ty slot kind' target.1 f.field)
  sort_known (LoadIndexed e slot elements i kind') kind s =
      let l = element_kind shape kinds e slot elements i kind' kind s in
      let f : ArrayOf shape (sort e) slot elements kind' = l.0 in
      let target : IsTarget shape f.ty = sort_known e (Pointer f.ty) f.object in
      subst (IsKind shape) l.2 (field_known f.ty slot kind' target.1 f.has.first)
  sort_known (Negate e) kind s = subst (IsKind shape) (negated shape kinds e kind s).1 tt
  sort_known (Not e) kind s = absurd (no_not shape kinds e kind s)
  sort_known (Binary operator a b) kind s = subst (IsKind shape) (number_operands operator (sort a) (sort b) kind s).1 tt

  -- ---- expressions

  -- an expression at a level needs levels below that one and its depth
  expr_fair : (e : Expr) (k : ℕ) (kind : Kind) → sort e ≡ Some (Of kind) → k + depth e ≤ 73 → Fair (expr_needs shape e k)
  expr_fair (Number n) k kind s d = ((omega arith, tt), tt)
  expr_fair (Null ty) k kind s d =
      let same : Pointer ty ≡ kind = of_same (Pointer ty) kind (given_some (is_target shape ty) (Of (Pointer ty)) (Of kind) s).1 in
      ((omega arith, subst (IsKind shape) (sym same) (target_known ty kind s)), tt)
  expr_fair (Local x) k kind s d = tt
  expr_fair (Root slot) k kind s d =
      let held : root_kind shape slot ≡ Some kind = kind_held (root_kind shape slot) kind s in
      ((omega arith, subst (IsKind shape) (sym (ap kind_or held)) (field_known root_type slot kind valid.some held)), tt)
  expr_fair (Parens e) k kind s d = expr_fair e k kind s (omega arith)
  expr_fair (Load e slot kind') k kind s d =
      let l = load_kind shape kinds e slot kind' kind s in
      let f : FieldOf shape (sort e) slot kind' = l.0 in
      join (expr_needs shape e k) (need k kind' ∷ []) (expr_fair e k (Pointer f.ty) f.object (omega arith)) ((omega arith, subst (IsKind shape) (sym l.1) (sort_known (Load e slot kind') kind s)), tt)
  expr_fair (LoadIndexed e slot elements i kind') k kind s d =
      let l = element_kind shape kinds e slot elements i kind' kind s in
      let f : ArrayOf shape (sort e) slot elements kind' = l.0 in
      join (expr_needs shape e k) _ (expr_fair e k (Pointer f.ty) f.object (omega arith))
      (join (expr_needs shape i (k + 1)) (need k kind' ∷ []) (expr_fair i (k + 1) Int l.1 (omega arith))
      ((omega arith, subst (IsKind shape) (sym l.2) (sort_known (LoadIndexed e slot elements i kind') kind s)), tt))
  expr_fair (Negate e) k kind s d = join (expr_needs shape e k) (need k Int ∷ []) (expr_fair e k Int (negated shape kinds e kind s).0 (omega arith)) ((omega arith, tt), tt)
  expr_fair (Not e) k kind s d = tt
  expr_fair (Binary operator a b) k kind s d =
      let both : Operands (Of Int) (sort a) (sort b) = (number_operands operator (sort a) (sort b) kind s).0 in
      join (expr_needs shape a k) _ (expr_fair a k Int both.left_is (omega arith))
      (join (expr_needs shape b (k + 1)) (need k Int ∷ []) (expr_fair b (k + 1) Int both.right_is (omega arith)) ((omega arith, tt), tt))

  comparison_fair : (operator : Op) (a b : Expr) → is_logical operator ≡ false → sort (Binary operator a b) ≡ Some Truth
      → depth (Binary operator a b) ≤ 64 → Fair (expr_needs shape a 0 ++ expr_needs shape b 1)
  comparison_fair operator a b other s d =
      let c : Compared operator (sort a) (sort b) = compared_operands operator (sort a) (sort b) other s in
      join (expr_needs shape a 0) (expr_needs shape b 1) (expr_fair a 0 c.kind c.operands.left_is (omega arith)) (expr_fair b 1 c.kind c.operands.right_is (omega arith))

  test_fair : (e : Expr) → sort e ≡ Some Truth → depth e ≤ 64 → Fair (test_needs shape e)
  test_fair (Number n) s d = tt
  test_fair (Null ty) s d = tt
  test_fair (Local x) s d = tt
  test_fair (Root slot) s d = tt
  test_fair (Parens e) s d = test_fair e s (omega arith)
  test_fair (Load e slot kind) s d = tt
  test_fair (LoadIndexed e slot elements i kind) s d = tt
  test_fair (Negate e) s d = tt
  test_fair (Not e) s d = test_fair e (denied shape kinds e s) (omega arith)
  test_fair (Binary op.And a b) s d =
      let o : Operands Truth (sort a) (sort b) = and_operands (sort a) (sort b) s in
      join (test_needs shape a) (test_needs shape b) (test_fair a o.left_is (omega arith)) (test_fair b o.right_is (omega arith))
  test_fair (Binary op.Or a b) s d =
      let o : Operands Truth (sort a) (sort b) = or_operands (sort a) (sort b) s in
      join (test_needs shape a) (test_needs shape b) (test_fair a o.left_is (omega arith)) (test_fair b o.right_is (omega arith))
  test_fair (Binary op.Add a b) s d = comparison_fair op.Add a b refl s d
  test_fair (Binary op.Sub a b) s d = comparison_fair op.Sub a b refl s d
  test_fair (Binary op.Mul a b) s d = comparison_fair op.Mul a b refl s d
  test_fair (Binary op.Div a b) s d = comparison_fair op.Div a b refl s d
  test_fair (Binary op.Rem a b) s d = comparison_fair op.Rem a b refl s d
  test_fair (Binary op.Equal a b) s d = comparison_fair op.Equal a b refl s d
  test_fair (Binary op.NotEqual a b) s d = comparison_fair op.NotEqual a b refl s d
  test_fair (Binary op.Less a b) s d = comparison_fair op.Less a b refl s d
  test_fair (Binary op.LessEqual a b) s d = comparison_fair op.LessEqual a b refl s d
  test_fair (Binary op.Greater a b) s d = comparison_fair op.Greater a b refl s d
  test_fair (Binary op.GreaterEqual a b) s d = comparison_fair op.GreaterEqual a b refl s d

-- ---- statements

module _ (r : Routines) (valid : IsValid r.shape) (q : syntax.Procedure) (known : AllByRecursion (IsKind r.shape) q.kinds)
    (others : (i : ℕ) (callee : syntax.Procedure) → slice_get r.procedures i ≡ Some callee → IsTypedProcedure r callee) where
  abbrev sort_in : Expr → Option Sort
  sort_in e = sort_of r.shape q.kinds e

  abbrev AllFair : List Need → Type 0
  AllFair needs = AllByRecursion (IsFair r.shape) needs

  joins : (a b : List Need) → AllFair a → AllFair b → AllFair (a ++ b)
  joins a b f g = all_join (IsFair r.shape) a b f g

  one : (e : Expr) (k : ℕ) (kind : Kind) → sort_in e ≡ Some (Of kind) → k + depth e ≤ 73 → AllFair (expr_needs r.shape e k)
  one e k kind s d = expr_fair r.shape valid q.kinds known e k kind s d

  put_fair : (held : Option Kind) (e : Expr) (k : ℕ) → typed.Fits held (sort_in e) → k + depth e ≤ 73 → AllFair (expr_needs r.shape e k)
  put_fair held e k t d = let f : Put held (sort_in e) = put held (sort_in e) t in one e k f.kind f.is d

  store_fair : (o : Expr) (slot : ℕ) (e : Expr) → IsTypedAction r q (Store o slot e) → action_depth (Store o slot e) ≤ 64 → AllFair (expr_needs r.shape o 0 ++ expr_needs r.shape e 1)
  store_fair o slot e t d =
      let f = put (typed.field_of r.shape (sort_in o) slot) (sort_in e) t.1 in
      let g : FieldOf r.shape (sort_in o) slot f.kind = field_is r.shape (sort_in o) slot f.kind f.there in
      joins (expr_needs r.shape o 0) (expr_needs r.shape e 1) (one o 0 (Pointer g.ty) g.object (omega arith)) (one e 1 f.kind f.is (omega arith))

  store_element_fair : (o : Expr) (slot elements : ℕ) (i e : Expr) → IsTypedAction r q (StoreIndexed o slot elements i e)
      → action_depth (StoreIndexed o slot elements i e) ≤ 64 → AllFair (expr_needs r.shape o 0 ++ (expr_needs r.shape i 1 ++ expr_needs r.shape e 2))
  store_element_fair o slot elements i e t d =
      let f = put (typed.array_of r.shape (sort_in o) slot elements) (sort_in e) t.2 in
      let g : ArrayOf r.shape (sort_in o) slot elements f.kind = array_is r.shape (sort_in o) slot elements f.kind f.there in
      joins (expr_needs r.shape o 0) (expr_needs r.shape i 1 ++ expr_needs r.shape e 2) (one o 0 (Pointer g.ty) g.object (omega arith))
      (joins (expr_needs r.shape i 1) (expr_needs r.shape e 2) (one i 1 Int t.1 (omega arith)) (one e 2 f.kind f.is (omega arith)))

  arguments_fair : (es : List Expr) (kinds : List Kind) (k : ℕ) → map sort_in es ≡ map (λ (kind : Kind). Some (Of kind)) kinds → deepest es ≤ 64
      → k + length kinds ≤ 9 → AllFair (arguments_needs r.shape es k)
  arguments_fair [] kinds k t d few = tt
  arguments_fair (e ∷ es) [] k t d few = absurd (cc)
  arguments_fair (e ∷ es) (kind ∷ kinds) k t d few =
      let first : sort_in e ≡ Some (Of kind) = cc in
      let rest : map sort_in es ≡ map (λ (kind : Kind). Some (Of kind)) kinds = cc in
      joins (expr_needs r.shape e k) (arguments_needs r.shape es (k + 1)) (one e k kind first (omega arith)) (arguments_fair es kinds (k + 1) rest (omega arith) (omega arith))

  call_fair : (local : Option ℕ) (es : List Expr) (o : Option syntax.Procedure)
      → ((callee : syntax.Procedure) → o ≡ Some callee → IsTypedProcedure r callee) → typed.IsCall r.shape q local es o → deepest es ≤ 64
      → AllFair (arguments_needs r.shape es 0)
  call_fair local es None known t d = absurd t
  call_fair local es (Some callee) known t d =
      let is : IsTypedProcedure r callee = known callee refl in
      let few : callee.arguments ≤ 8 = is.few_parameters in
      let size : length (take callee.arguments callee.kinds) ≡ callee.arguments = length-take-le callee.arguments callee.kinds is.parameters in
      arguments_fair es (typed.parameters_of callee) 0 t.arguments_fit d (omega arith)

  return_fair : (e : Option Expr) → IsTypedAction r q (Return e) → action_depth (Return e) ≤ 64 → AllFair (return_needs r.shape e)
  return_fair None t d = tt
  return_fair (Some e) t d = put_fair q.result e 0 t (omega arith)

  mutual
    action_fair : (action : Action) → IsTypedAction r q action → action_depth action ≤ 64 → AllFair (action_needs r.shape action)
    action_fair (Set x e) t d = put_fair (slice_get q.kinds x) e 0 t (omega arith)
    action_fair (SetRoot slot e) t d = put_fair (root_kind r.shape slot) e 0 t.1 (omega arith)
    action_fair (Store o slot e) t d = store_fair o slot e t d
    action_fair (StoreIndexed o slot elements i e) t d = store_element_fair o slot elements i e t d
    action_fair (New x ty) t d = tt
    action_fair (Call local callee es) t d = call_fair local es (slice_get r.procedures callee) (others callee) t d
    action_fair (Print e) t d = one e 0 Int t (omega arith)
    action_fair (If e first) t d = joins (test_needs r.shape e) (block_needs r.shape first) (test_fair r.shape valid q.kinds known e t.0 (omega arith)) (block_fair first t.1 (omega arith))
    action_fair (Either e first other) t d =
        joins (test_needs r.shape e) (block_needs r.shape first ++ block_needs r.shape other) (test_fair r.shape valid q.kinds known e t.0 (omega arith))
        (joins (block_needs r.shape first) (block_needs r.shape other) (block_fair first t.1 (omega arith)) (block_fair other t.2 (omega arith)))
    action_fair (While e body) t d = joins (test_needs r.shape e) (block_needs r.shape body) (test_fair r.shape valid q.kinds known e t.0 (omega arith)) (block_fair body t.1 (omega arith))
    action_fair (Return e) t d = return_fair e t d

    pub block_fair : (actions : Actions) → IsTypedBlock r q actions → block_depth actions ≤ 64 → AllFair (block_needs r.shape actions)
    block_fair Empty t d = tt
    block_fair (Then line action rest) t d = joins (action_needs r.shape action) (block_needs r.shape rest) (action_fair action t.0 (omega arith)) (block_fair rest t.1 (omega arith))

pub end_fair : (shape : List TypeShape) (result : Option Kind) → IsResult shape result → AllByRecursion (IsFair shape) (end_needs result)
end_fair shape None is = tt
end_fair shape (Some kind) is = ((omega arith, is), tt)
