-- Which trees are of the grammar, within limits of depth.
use Rattle.std.specs.Prelude.{◌≡◌, ℕ, ℤ, ◌≤◌, ◌<◌, ◌⊎◌, List, [], ◌∷◌, Option, Some, None}
use Rattle.pst_base.specs.declared.names.Op.{Op}
use Rattle.pst_base.specs.declared.names.Op.TheVariants.{Add, Sub, Mul, Div, Rem, Equal, NotEqual, Less, LessEqual, Greater, GreaterEqual, And, Or}
use Rattle.pst_grammar.specs.Depth.{greatest, item_height, item_nesting}
use Rattle.pst_grammar.specs.Syntax.{Expr, Number, Null, Name, Parens, Field, Indexed, Negate, Not, Binary, Phrase, New, Call, Write, Print, If, Either, While, Return, Phrases, Empty, Then, FieldText, Val, Ptr, Item, Record, Root, Procedure, ProgramText}

-- how tightly an operator binds: or, and, comparisons, sums, terms
abbrev pub level : Op → ℕ
level Or = 0
level And = 1
level Equal = 3
level NotEqual = 3
level Less = 3
level LessEqual = 3
level Greater = 3
level GreaterEqual = 3
level Add = 4
level Sub = 4
level Mul = 5
level Div = 5
level Rem = 5

-- the loosest form that may stand at an operator's left: chains group to the left, and comparisons form no chain
abbrev pub loosest_left : Op → ℕ
loosest_left Or = 0
loosest_left And = 1
loosest_left Equal = 4
loosest_left NotEqual = 4
loosest_left Less = 4
loosest_left LessEqual = 4
loosest_left Greater = 4
loosest_left GreaterEqual = 4
loosest_left Add = 4
loosest_left Sub = 4
loosest_left Mul = 5
loosest_left Div = 5
loosest_left Rem = 5

-- how tightly a form binds: `not` is 2, `-` is 6, `.` is 7, and what stands alone is 8
abbrev pub rank : Expr → ℕ
rank (Number n) = 8
rank Null = 8
rank (Name x) = 8
rank (Parens e) = 8
rank (Field e x) = 7
rank (Indexed e x i) = 7
rank (Negate e) = 6
rank (Not e) = 2
rank (Binary op l r) = level op

-- each operand's form fits its place, and an index stands in language 2 alone
abbrev pub IsFormed : (l : ℕ) → Expr → Type 0
IsFormed l (Number n) = Unit {0}
IsFormed l Null = Unit {0}
IsFormed l (Name x) = Unit {0}
IsFormed l (Parens e) = IsFormed l e
IsFormed l (Field e x) = (7 ≤ rank e) × IsFormed l e
IsFormed l (Indexed e x i) = (l ≡ 2) × (7 ≤ rank e) × IsFormed l e × IsFormed l i
IsFormed l (Negate e) = (6 ≤ rank e) × IsFormed l e
IsFormed l (Not e) = (2 ≤ rank e) × IsFormed l e
IsFormed l (Binary op x y) = (loosest_left op ≤ rank x) × (level op < rank y) × IsFormed l x × IsFormed l y

-- a name, or a field or an element of a place
abbrev pub IsPlace : (l : ℕ) → Expr → Type 0
IsPlace l (Name x) = Unit {0}
IsPlace l (Field e x) = IsPlace l e
IsPlace l (Indexed e x i) = (l ≡ 2) × IsPlace l e × IsFormed l i
IsPlace l e = ⊥

-- each of a list is so
abbrev pub Each : {A : Type 0} → (A → Type 0) → List A → Type 0
Each P [] = Unit {0}
Each P (a ∷ l) = P a × Each P l

abbrev mutual
  pub IsFormedPhrase : (l : ℕ) → Phrase → Type 0
  IsFormedPhrase l (New x ty) = Unit {0}
  IsFormedPhrase l (Call x p es) = Each (IsFormed l) es
  IsFormedPhrase l (Write place e) = IsPlace l place × IsFormed l e
  IsFormedPhrase l (Print e) = IsFormed l e
  IsFormedPhrase l (If e b) = IsFormed l e × AreFormed l b
  IsFormedPhrase l (Either e b c) = IsFormed l e × AreFormed l b × AreFormed l c
  IsFormedPhrase l (While e b) = IsFormed l e × AreFormed l b
  IsFormedPhrase l (Return None) = Unit {0}
  IsFormedPhrase l (Return (Some e)) = IsFormed l e

  pub AreFormed : (l : ℕ) → Phrases → Type 0
  AreFormed l Empty = Unit {0}
  AreFormed l (Then line s b) = IsFormedPhrase l s × AreFormed l b

-- a number of elements stands in language 2 alone
abbrev pub IsCount : (l : ℕ) → Option ℤ → Type 0
IsCount l None = Unit {0}
IsCount l (Some n) = l ≡ 2

abbrev pub IsFormedField : (l : ℕ) → FieldText → Type 0
IsFormedField l (Val line x elements) = IsCount l elements
IsFormedField l (Ptr line x target elements) = IsCount l elements

abbrev pub IsFormedItem : (l : ℕ) → Item → Type 0
IsFormedItem l (Record line x limit fields) = Each (IsFormedField l) fields
IsFormedItem l (Root line x kind) = Unit {0}
IsFormedItem l (Procedure p) = AreFormed l p.body

-- there are two languages
abbrev pub IsLanguage : ℕ → Type 0
IsLanguage l = (l ≡ 1) ⊎ (l ≡ 2)

-- a program of the grammar of its language, the limits of depth set aside
abbrev pub IsProgram : ProgramText → Type 0
IsProgram p = IsLanguage p.language × Each (IsFormedItem p.language) p.items

-- A program that keeps the limits: no expression or place is higher than h, and no more than d blocks stand in one another below a procedure's body.
pub record IsShallow (h d : ℕ) (p : ProgramText) : Type 0 where
  pub formed : IsProgram p
  pub height : greatest item_height p.items ≤ h
  pub nesting : greatest item_nesting p.items ≤ d
