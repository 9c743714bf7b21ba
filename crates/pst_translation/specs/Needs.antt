-- Which temporary registers a procedure needs, in the order in which its code first needs them.
use Rattle.std.specs.Prelude.{ℕ, suc, ◌+◌, Bool, true, false, ◌&&◌, nat_eq, List, [], ◌∷◌, ◌++◌, Option, Some, None, if◌then◌else◌}
use Rattle.pst_base.specs.declared.names.Kind.{Kind}
use Rattle.pst_base.specs.declared.names.Kind.TheVariants.{Int, Pointer}
use Rattle.pst_base.specs.declared.names.Op.TheVariants as op
use Rattle.pst_base.specs.declared.shape.TypeShape.{TypeShape}
use Rattle.pst_program.specs.Syntax as syntax
use Rattle.pst_program.specs.Syntax.{Expr, Action, Actions, Number, Null, Local, Root, Parens, Load, LoadIndexed, Negate, Not, Binary, Set, SetRoot, Store, StoreIndexed, New, Call, Print, If, Either, While, Return, Empty, Then}
use Rattle.pst_program.specs.Typed.{root_kind, same_kind}
use Rattle.pst_translation.specs.declared.need.Need.{Need}
use Rattle.pst_translation.specs.Code.{Temp, reg, kind_or}

abbrev pub need : (level : ℕ) → Kind → Need
need level kind = record { level = level; kind = kind }

abbrev pub expr_needs : List TypeShape → Expr → (level : ℕ) → List Need
expr_needs shape (Number n) k = need k Int ∷ []
expr_needs shape (Null ty) k = need k (Pointer ty) ∷ []
expr_needs shape (Local x) k = []
expr_needs shape (Root slot) k = need k (kind_or (root_kind shape slot)) ∷ []
expr_needs shape (Parens e) k = expr_needs shape e k
expr_needs shape (Load e slot kind) k = expr_needs shape e k ++ need k kind ∷ []
expr_needs shape (LoadIndexed e slot elements i kind) k = expr_needs shape e k ++ (expr_needs shape i (k + 1) ++ need k kind ∷ [])
expr_needs shape (Negate e) k = expr_needs shape e k ++ need k Int ∷ []
expr_needs shape (Not e) k = []
expr_needs shape (Binary operator a b) k = expr_needs shape a k ++ (expr_needs shape b (k + 1) ++ need k Int ∷ [])

abbrev pub test_needs : List TypeShape → Expr → List Need
test_needs shape (Parens e) = test_needs shape e
test_needs shape (Not e) = test_needs shape e
test_needs shape (Binary op.And a b) = test_needs shape a ++ test_needs shape b
test_needs shape (Binary op.Or a b) = test_needs shape a ++ test_needs shape b
test_needs shape (Binary operator a b) = expr_needs shape a 0 ++ expr_needs shape b 1
test_needs shape (Number n) = []
test_needs shape (Null ty) = []
test_needs shape (Local x) = []
test_needs shape (Root slot) = []
test_needs shape (Load o slot kind) = []
test_needs shape (LoadIndexed o slot elements i kind) = []
test_needs shape (Negate a) = []

abbrev pub arguments_needs : List TypeShape → List Expr → (level : ℕ) → List Need
arguments_needs shape [] k = []
arguments_needs shape (e ∷ es) k = expr_needs shape e k ++ arguments_needs shape es (k + 1)

abbrev pub return_needs : List TypeShape → Option Expr → List Need
return_needs shape None = []
return_needs shape (Some e) = expr_needs shape e 0

abbrev mutual
  pub action_needs : List TypeShape → Action → List Need
  action_needs shape (Set x e) = expr_needs shape e 0
  action_needs shape (SetRoot slot e) = expr_needs shape e 0
  action_needs shape (Store o slot e) = expr_needs shape o 0 ++ expr_needs shape e 1
  action_needs shape (StoreIndexed o slot elements i e) = expr_needs shape o 0 ++ (expr_needs shape i 1 ++ expr_needs shape e 2)
  action_needs shape (New x ty) = []
  action_needs shape (Call result p es) = arguments_needs shape es 0
  action_needs shape (Print e) = expr_needs shape e 0
  action_needs shape (If e first) = test_needs shape e ++ block_needs shape first
  action_needs shape (Either e first other) = test_needs shape e ++ (block_needs shape first ++ block_needs shape other)
  action_needs shape (While e body) = test_needs shape e ++ block_needs shape body
  action_needs shape (Return e) = return_needs shape e

  pub block_needs : List TypeShape → Actions → List Need
  block_needs shape Empty = []
  block_needs shape (Then line action rest) = action_needs shape action ++ block_needs shape rest

abbrev pub end_needs : Option Kind → List Need
end_needs None = []
end_needs (Some kind) = need 0 kind ∷ []

-- ---- the table of temporary registers

abbrev pub same_need : Need → Need → Bool
same_need a b = nat_eq a.level b.level && same_kind a.kind b.kind

abbrev pub is_noted : List Need → Need → Bool
is_noted [] n = false
is_noted (m ∷ table) n = if same_need m n then true else is_noted table n

-- a table with one more at its end, if it is new
abbrev pub noted_one : List Need → Need → List Need
noted_one table n = if is_noted table n then table else table ++ n ∷ []

abbrev pub noted : (table needs : List Need) → List Need
noted table [] = table
noted table (n ∷ needs) = noted (noted_one table n) needs

-- the temporary registers of a procedure, each once
abbrev pub table_of : List TypeShape → syntax.Procedure → List Need
table_of shape p = noted [] (block_needs shape p.body ++ end_needs p.result)

-- where a level and a kind stand in the table; one that is not noted has an index past the end, apart for each level
abbrev pub index_in : List Need → (level : ℕ) → Kind → ℕ
index_in [] level kind = level
index_in (n ∷ table) level kind = if same_need n (need level kind) then 0 else suc (index_in table level kind)

-- the parameters and locals are the first registers, and the temporary ones follow
abbrev pub temp_of : (locals : ℕ) → List Need → Temp
temp_of locals table level kind = reg (locals + index_in table level kind)
