-- A program's text as a tree, for definitions: names are lists of bytes, and there are no boxes.
use Rattle.std.specs.Prelude.{ℕ, ℤ, Bool, List, Option}
use Rattle.pst_base.specs.declared.names.Op.{Op}

-- an expression, as it was written
pub data Expr : Type 0 where
  Number : ℤ → Expr
  Null : Expr
  Name : List ℕ → Expr
  Parens : Expr → Expr
  Field : Expr → List ℕ → Expr
  Indexed : (object : Expr) (name : List ℕ) (index : Expr) → Expr
  Negate : Expr → Expr
  Not : Expr → Expr
  Binary : Op → Expr → Expr → Expr

mutual
  -- what a statement says
  pub data Phrase : Type 0 where
    New : (name ty : List ℕ) → Phrase
    Call : (result : Option (List ℕ)) (procedure : List ℕ) → List Expr → Phrase
    Write : (place value : Expr) → Phrase
    Print : Expr → Phrase
    If : Expr → Phrases → Phrase
    Either : Expr → (yes no : Phrases) → Phrase
    While : Expr → Phrases → Phrase
    Return : Option Expr → Phrase

  -- statements one after another, each with its line
  pub data Phrases : Type 0 where
    Empty : Phrases
    Then : (line : ℕ) → Phrase → Phrases → Phrases

-- `int`, or the name of a record type
pub data TypeWord : Type 0 where
  Int : TypeWord
  Named : List ℕ → TypeWord

-- a field, with its line: a number, or a pointer to records of a type; an array has a number of elements
pub data FieldText : Type 0 where
  Val : (line : ℕ) (name : List ℕ) (elements : Option ℤ) → FieldText
  Ptr : (line : ℕ) (name target : List ℕ) (elements : Option ℤ) → FieldText

-- a parameter or a local
pub record LocalText : Type 0 where
  pub line : ℕ
  pub name : List ℕ
  pub kind : TypeWord

-- a procedure or a query
pub record ProcedureText : Type 0 where
  pub line : ℕ
  pub query : Bool
  pub name : List ℕ
  pub parameters : List LocalText
  pub result : Option TypeWord
  pub locals : List LocalText
  pub body : Phrases

-- a declaration, with its line
pub data Item : Type 0 where
  Record : (line : ℕ) (name : List ℕ) (limit : ℤ) → List FieldText → Item
  Root : (line : ℕ) (name : List ℕ) → TypeWord → Item
  Procedure : ProcedureText → Item

-- a program's text: its language, 1 or 2, and its declarations
pub record ProgramText : Type 0 where
  pub language : ℕ
  pub items : List Item
