-- What the compiler asks of a program, and a typed program has: numbers and pointers as operands, levels that fit 16 bits,
-- and registers that are there.
use Rattle.std.specs.Prelude.{ℕ, ◌+◌, ◌<◌, ◌≤◌, List, [], ◌∷◌, length, Option, Some, None}
use Rattle.pst_base.specs.declared.names.Kind.{Kind}
use Rattle.pst_base.specs.declared.names.Kind.TheVariants.{Int, Pointer}
use Rattle.pst_base.specs.declared.names.Op.TheVariants as op
use Rattle.pst_base.specs.declared.shape.TypeShape.{TypeShape}
use Rattle.pst_program.specs.Syntax.{Expr, Action, Actions, Number, Null, Local, Root, Parens, Load, LoadIndexed, Negate, Not, Binary, Set, SetRoot, Store, StoreIndexed, New, Call, Print, If, Either, While, Return, Empty, Then, Procedure}
use Rattle.pst_program.specs.Typed.{root_kind}
use Rattle.pst_code.specs.declared.procedure.TheConstants.{MOST_REGISTERS}
use Rattle.pst_translation.specs.declared.need.Need.{Need}
use Rattle.pst_translation.specs.Code.{kind_or}
use Rattle.pst_translation.specs.Needs.{index_in, table_of}

-- which temporary registers there are
abbrev pub Has : Type 1
Has = (level : ℕ) → Kind → Type 0

-- all of them
abbrev pub HasAll : Has
HasAll level kind = Unit {0}

-- those of a table
abbrev pub HasNoted : List Need → Has
HasNoted table level kind = index_in table level kind < length table

-- a level above this one fits 16 bits
abbrev pub IsLow : (level : ℕ) → Type 0
IsLow level = level < 65535

-- an operand of a level: its code names registers that are there
abbrev pub IsOperand : List TypeShape → Has → Expr → (level : ℕ) → Type 0
IsOperand shape has (Number n) k = has k Int
IsOperand shape has (Null ty) k = has k (Pointer ty)
IsOperand shape has (Local x) k = Unit {0}
IsOperand shape has (Root slot) k = has k (kind_or (root_kind shape slot))
IsOperand shape has (Parens e) k = IsOperand shape has e k
IsOperand shape has (Load e slot kind) k = IsOperand shape has e k × has k kind
IsOperand shape has (LoadIndexed e slot elements i kind) k = IsOperand shape has e k × IsLow k × IsOperand shape has i (k + 1) × has k kind
IsOperand shape has (Negate e) k = IsOperand shape has e k × has k Int
IsOperand shape has (Not e) k = ⊥
IsOperand shape has (Binary operator a b) k = IsOperand shape has a k × IsLow k × IsOperand shape has b (k + 1) × has k Int

-- a condition of such operands
abbrev pub IsTest : List TypeShape → Has → Expr → Type 0
IsTest shape has (Parens e) = IsTest shape has e
IsTest shape has (Not e) = IsTest shape has e
IsTest shape has (Binary op.And a b) = IsTest shape has a × IsTest shape has b
IsTest shape has (Binary op.Or a b) = IsTest shape has a × IsTest shape has b
IsTest shape has (Binary operator a b) = IsOperand shape has a 0 × IsOperand shape has b 1
IsTest shape has (Number n) = ⊥
IsTest shape has (Null ty) = ⊥
IsTest shape has (Local x) = ⊥
IsTest shape has (Root slot) = ⊥
IsTest shape has (Load e slot kind) = ⊥
IsTest shape has (LoadIndexed e slot elements i kind) = ⊥
IsTest shape has (Negate e) = ⊥

-- arguments, at levels one above another
abbrev pub AreArguments : List TypeShape → Has → List Expr → (level : ℕ) → Type 0
AreArguments shape has [] k = Unit {0}
AreArguments shape has (e ∷ es) k = IsOperand shape has e k × IsLow k × AreArguments shape has es (k + 1)

-- a value that a procedure returns
abbrev pub IsResult : List TypeShape → Has → Option Expr → Type 0
IsResult shape has None = Unit {0}
IsResult shape has (Some e) = IsOperand shape has e 0

abbrev mutual
  -- a statement of such expressions
  pub IsReady : List TypeShape → Has → Action → Type 0
  IsReady shape has (Set x e) = IsOperand shape has e 0
  IsReady shape has (SetRoot slot e) = IsOperand shape has e 0
  IsReady shape has (Store o slot e) = IsOperand shape has o 0 × IsOperand shape has e 1
  IsReady shape has (StoreIndexed o slot elements i e) = IsOperand shape has o 0 × IsOperand shape has i 1 × IsOperand shape has e 2
  IsReady shape has (New x ty) = Unit {0}
  IsReady shape has (Call result p es) = AreArguments shape has es 0
  IsReady shape has (Print e) = IsOperand shape has e 0
  IsReady shape has (If e first) = IsTest shape has e × AreReady shape has first
  IsReady shape has (Either e first other) = IsTest shape has e × AreReady shape has first × AreReady shape has other
  IsReady shape has (While e body) = IsTest shape has e × AreReady shape has body
  IsReady shape has (Return e) = IsResult shape has e

  -- statements of such expressions
  pub AreReady : List TypeShape → Has → Actions → Type 0
  AreReady shape has Empty = Unit {0}
  AreReady shape has (Then line action rest) = IsReady shape has action × AreReady shape has rest

-- the register for what a procedure without return gives
abbrev pub HasEnd : Has → Option Kind → Type 0
HasEnd has None = Unit {0}
HasEnd has (Some kind) = has 0 kind

-- a procedure whose code can be made, with the table of its registers
pub record IsReadyProcedure (shape : List TypeShape) (p : Procedure) : Type 0 where
  pub low : AreReady shape HasAll p.body
  pub noted : AreReady shape (HasNoted (table_of shape p)) p.body
  pub end : HasEnd (HasNoted (table_of shape p)) p.result
  pub few : length p.kinds + length (table_of shape p) ≤ MOST_REGISTERS
