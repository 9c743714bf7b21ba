-- The types of expressions.
use Rattle.std.specs.Prelude.{ℕ, Bool, true, false, not, ◌&&◌, is_some, List, Result, Ok, Err, bytes_eq}
use Rattle.pst_base.specs.declared.names.Op.{Op}
use Rattle.pst_base.specs.declared.names.Op.TheVariants.{Add, Sub, Mul, Div, Rem, Equal, NotEqual, Less, LessEqual, Greater, GreaterEqual, And, Or}
use Rattle.pst_base.specs.declared.names.TypeNo.{TypeNo}
use Rattle.pst_grammar.specs.Syntax as tree
use Rattle.pst_program.specs.Syntax as program
use Rattle.pst_typing.specs.declared.fault.TypeFault.{TypeFault}
use Rattle.pst_typing.specs.declared.fault.TypeFault.TheVariants.{Unknown, Mismatch}
use Rattle.pst_typing.specs.Answers.{and_then, check, found}
use Rattle.pst_typing.specs.Names.{Setting, Slot, Variable, IsLocal, IsRoot, number_of, kind_of, field_named, variable}

-- what an expression gives: a number, a truth, or a pointer to records of the type with a name
pub data Sort : Type 0 where
  Int : Sort
  Truth : Sort
  Pointer : List ℕ → Sort

abbrev pub same_sort : Sort → Sort → Bool
same_sort Int Int = true
same_sort Int Truth = false
same_sort Int (Pointer t) = false
same_sort Truth Int = false
same_sort Truth Truth = true
same_sort Truth (Pointer t) = false
same_sort (Pointer s) Int = false
same_sort (Pointer s) Truth = false
same_sort (Pointer s) (Pointer t) = bytes_eq s t

abbrev pub sort_of : tree.TypeWord → Sort
sort_of tree.Int = Int
sort_of (tree.Named t) = Pointer t

-- an expression judged: a null that waits for its type, or a typed expression
pub data Judged : Type 0 where
  Bare : Judged
  Known : program.Expr → Sort → Judged

-- parentheses round an expression; a bare null in them stays one
abbrev pub in_parens : Judged → Judged
in_parens Bare = Bare
in_parens (Known e sort) = Known (program.Parens e) sort

-- a null with its type, in its parentheses
abbrev pub null_of : TypeNo → tree.Expr → program.Expr
null_of ty (tree.Parens e) = program.Parens (null_of ty e)
null_of ty (tree.Number n) = program.Null ty
null_of ty tree.Null = program.Null ty
null_of ty (tree.Name x) = program.Null ty
null_of ty (tree.Field e f) = program.Null ty
null_of ty (tree.Indexed e f i) = program.Null ty
null_of ty (tree.Negate e) = program.Null ty
null_of ty (tree.Not e) = program.Null ty
null_of ty (tree.Binary op a b) = program.Null ty

-- an operand that has to be of a sort
abbrev pub operand : (line : ℕ) → Sort → Judged → Result program.Expr TypeFault
operand line sort Bare = Err (Mismatch line)
operand line sort (Known e other) = check (same_sort other sort) (Mismatch line) (Ok e)

-- an object: a pointer, and the name of the type of its records
pub record Object : Type 0 where
  pub pointer : program.Expr
  pub type : List ℕ

abbrev pub object : (line : ℕ) → Judged → Result Object TypeFault
object line Bare = Err (Mismatch line)
object line (Known e Int) = Err (Mismatch line)
object line (Known e Truth) = Err (Mismatch line)
object line (Known e (Pointer t)) = Ok (record { pointer = e; type = t })

abbrev pub named_value : Variable → Judged
named_value (IsLocal l) = Known (program.Local l.number) (sort_of l.kind)
named_value (IsRoot r) = Known (program.Root r.slot) (sort_of r.kind)

-- a field of the records of a type that is no array, by its name
abbrev pub plain_field : Setting → (line : ℕ) → (type name : List ℕ) → Result Slot TypeFault
plain_field setting line t name = found (field_named setting.scope t name) (Unknown line) (λ field. check (not (is_some field.elements)) (Mismatch line) (Ok field))

-- an array: the slot of its first element, how many elements it has, and their type
pub record Array : Type 0 where
  pub slot : ℕ
  pub elements : ℕ
  pub kind : tree.TypeWord

-- a field of the records of a type that is an array, by its name
abbrev pub array_field : Setting → (line : ℕ) → (type name : List ℕ) → Result Array TypeFault
array_field setting line t name =
    found (field_named setting.scope t name) (Unknown line) (λ field. found field.elements (Mismatch line) (λ n.
    Ok (record { slot = field.slot; elements = n; kind = field.kind })))

-- a field that is no array, of an object
abbrev pub loaded : Setting → Object → Slot → Judged
loaded setting o f = Known (program.Load o.pointer f.slot (kind_of setting.scope f.kind)) (sort_of f.kind)

-- a field of an object, by its name: not of an array
abbrev pub field_loaded : Setting → (line : ℕ) → Object → (name : List ℕ) → Result Judged TypeFault
field_loaded setting line o name = and_then (plain_field setting line o.type name) (λ field. Ok (loaded setting o field))

-- the element of an array of an object at an index
abbrev pub at_index : Setting → Object → Array → (index : program.Expr) → Judged
at_index setting o a i = Known (program.LoadIndexed o.pointer a.slot a.elements i (kind_of setting.scope a.kind)) (sort_of a.kind)

-- an element of an array of an object: the index has to be a number
abbrev pub element_loaded : Setting → (line : ℕ) → Object → Array → (index : Judged) → Result Judged TypeFault
element_loaded setting line o a index = and_then (operand line Int index) (λ i. Ok (at_index setting o a i))

-- an operator whose operands are of one sort
abbrev pub operation : (line : ℕ) → Op → (operands result : Sort) → (left right : Judged) → Result Judged TypeFault
operation line op sort gives left right =
    and_then (operand line sort left) (λ a. and_then (operand line sort right) (λ b. Ok (Known (program.Binary op a b) gives)))

-- a bare null beside an operand of a sort is one of the type that the operand points to
abbrev pub null_beside : Setting → (line : ℕ) → tree.Expr → Sort → Result program.Expr TypeFault
null_beside setting line e Int = Err (Mismatch line)
null_beside setting line e Truth = Err (Mismatch line)
null_beside setting line e (Pointer t) = Ok (null_of (number_of setting.scope t) e)

-- two numbers, or two pointers to records of one type
abbrev pub can_equal : Sort → Sort → Bool
can_equal left right = not (same_sort left Truth) && same_sort left right

-- an equality: of two numbers, of two pointers to one type, or of a pointer and a bare null
abbrev pub equality : Setting → (line : ℕ) → Op → (a b : tree.Expr) → (left right : Judged) → Result Judged TypeFault
equality setting line op a b Bare Bare = Err (Mismatch line)
equality setting line op a b Bare (Known r sort) = and_then (null_beside setting line a sort) (λ l. Ok (Known (program.Binary op l r) Truth))
equality setting line op a b (Known l sort) Bare = and_then (null_beside setting line b sort) (λ r. Ok (Known (program.Binary op l r) Truth))
equality setting line op a b (Known l sort) (Known r other) = check (can_equal sort other) (Mismatch line) (Ok (Known (program.Binary op l r) Truth))

-- an operator, whose operands stand in the text as a and b and were judged
abbrev pub combined : Setting → (line : ℕ) → Op → (a b : tree.Expr) → (left right : Judged) → Result Judged TypeFault
combined setting line Add a b left right = operation line Add Int Int left right
combined setting line Sub a b left right = operation line Sub Int Int left right
combined setting line Mul a b left right = operation line Mul Int Int left right
combined setting line Div a b left right = operation line Div Int Int left right
combined setting line Rem a b left right = operation line Rem Int Int left right
combined setting line Equal a b left right = equality setting line Equal a b left right
combined setting line NotEqual a b left right = equality setting line NotEqual a b left right
combined setting line Less a b left right = operation line Less Int Truth left right
combined setting line LessEqual a b left right = operation line LessEqual Int Truth left right
combined setting line Greater a b left right = operation line Greater Int Truth left right
combined setting line GreaterEqual a b left right = operation line GreaterEqual Int Truth left right
combined setting line And a b left right = operation line And Truth Truth left right
combined setting line Or a b left right = operation line Or Truth Truth left right

-- an expression of a statement that begins on a line: the operands from left to right, then the form itself
abbrev pub judged : Setting → (line : ℕ) → tree.Expr → Result Judged TypeFault
judged setting line (tree.Number n) = Ok (Known (program.Number n) Int)
judged setting line tree.Null = Ok Bare
judged setting line (tree.Name x) = found (variable setting x) (Unknown line) (λ v. Ok (named_value v))
judged setting line (tree.Parens e) = and_then (judged setting line e) (λ j. Ok (in_parens j))
judged setting line (tree.Field e f) =
    and_then (judged setting line e) (λ j. and_then (object line j) (λ o. field_loaded setting line o f))
judged setting line (tree.Indexed e f i) =
    and_then (judged setting line e) (λ j. and_then (object line j) (λ o. and_then (array_field setting line o.type f) (λ array.
    and_then (judged setting line i) (λ index. element_loaded setting line o array index))))
judged setting line (tree.Negate e) = and_then (judged setting line e) (λ j. and_then (operand line Int j) (λ v. Ok (Known (program.Negate v) Int)))
judged setting line (tree.Not e) = and_then (judged setting line e) (λ j. and_then (operand line Truth j) (λ v. Ok (Known (program.Not v) Truth)))
judged setting line (tree.Binary op a b) =
    and_then (judged setting line a) (λ left. and_then (judged setting line b) (λ right. combined setting line op a b left right))

-- a judged expression fits a type that is declared; a bare null fits each pointer type
abbrev pub fits : Setting → (line : ℕ) → tree.TypeWord → tree.Expr → Judged → Result program.Expr TypeFault
fits setting line tree.Int e Bare = Err (Mismatch line)
fits setting line (tree.Named t) e Bare = Ok (null_of (number_of setting.scope t) e)
fits setting line kind e (Known v sort) = check (same_sort sort (sort_of kind)) (Mismatch line) (Ok v)

-- an expression that has to fit a type
abbrev pub fitted : Setting → (line : ℕ) → tree.TypeWord → tree.Expr → Result program.Expr TypeFault
fitted setting line kind e = and_then (judged setting line e) (fits setting line kind e)

-- an expression that has to be a number, or a truth
abbrev pub of_sort : Setting → (line : ℕ) → Sort → tree.Expr → Result program.Expr TypeFault
of_sort setting line sort e = and_then (judged setting line e) (operand line sort)
