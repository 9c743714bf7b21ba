-- The canonical text of expressions, lists and statements: one way to write each.
use Rattle.std.specs.Prelude.{ℕ, ◌+◌, List, [], ◌∷◌, ◌++◌, replicate, codes, Option, Some, None}
use Rattle.std.specs.List.{flat_map}
use Rattle.std.specs.Fmt.{signed_decimal}
use Rattle.pst_base.specs.declared.names.Op.{Op}
use Rattle.pst_base.specs.declared.names.Op.TheVariants.{Add, Sub, Mul, Div, Rem, Equal, NotEqual, Less, LessEqual, Greater, GreaterEqual, And, Or}
use Rattle.pst_grammar.specs.Syntax.{Expr, Number, Null, Name, Parens, Field, Indexed, Negate, Not, Binary, Phrase, New, Call, Write, Print, If, Either, While, Return, Phrases, Empty, Then}

-- ---- expressions

abbrev pub op_text : Op → List ℕ
op_text Add = codes "+"
op_text Sub = codes "-"
op_text Mul = codes "*"
op_text Div = codes "/"
op_text Rem = codes "%"
op_text Equal = codes "=="
op_text NotEqual = codes "!="
op_text Less = codes "<"
op_text LessEqual = codes "<="
op_text Greater = codes ">"
op_text GreaterEqual = codes ">="
op_text And = codes "and"
op_text Or = codes "or"

-- one space round an operator with two operands and behind `not`, and none elsewhere
abbrev pub expr_text : Expr → List ℕ
expr_text (Number n) = signed_decimal n
expr_text Null = codes "null"
expr_text (Name x) = x
expr_text (Parens e) = codes "(" ++ expr_text e ++ codes ")"
expr_text (Field e x) = expr_text e ++ codes "." ++ x
expr_text (Indexed e x i) = expr_text e ++ codes "." ++ x ++ codes "(" ++ expr_text i ++ codes ")"
expr_text (Negate e) = codes "-" ++ expr_text e
expr_text (Not e) = codes "not " ++ expr_text e
expr_text (Binary op l r) = expr_text l ++ codes " " ++ op_text op ++ codes " " ++ expr_text r

-- ---- lists

-- the same behind a comma and a space
abbrev pub behind_comma : {A : Type 0} → (A → List ℕ) → A → List ℕ
behind_comma text a = codes ", " ++ text a

-- with commas between them
abbrev pub listed : {A : Type 0} → (A → List ℕ) → List A → List ℕ
listed text [] = []
listed text (a ∷ rest) = text a ++ flat_map (behind_comma text) rest

-- ---- statements

-- a line, so many spaces from the left
abbrev pub line : (indent : ℕ) → List ℕ → List ℕ
line indent text = replicate indent 32 ++ text ++ codes "\n"

abbrev pub call_text : (procedure : List ℕ) → List Expr → List ℕ
call_text p es = codes "call " ++ p ++ codes "(" ++ listed expr_text es ++ codes ");"

-- the local that takes the result of a call, if one does
abbrev pub result_text : Option (List ℕ) → List ℕ
result_text None = []
result_text (Some x) = x ++ codes " = "

abbrev pub return_text : Option Expr → List ℕ
return_text None = codes "return;"
return_text (Some e) = codes "return " ++ expr_text e ++ codes ";"

abbrev mutual
  -- a statement on lines of its own; blocks in it are two spaces further from the left
  pub phrase_text : (indent : ℕ) → Phrase → List ℕ
  phrase_text d (New x ty) = line d (x ++ codes " = new " ++ ty ++ codes ";")
  phrase_text d (Call x p es) = line d (result_text x ++ call_text p es)
  phrase_text d (Write place e) = line d (expr_text place ++ codes " = " ++ expr_text e ++ codes ";")
  phrase_text d (Print e) = line d (codes "print " ++ expr_text e ++ codes ";")
  phrase_text d (If e b) = line d (codes "if " ++ expr_text e ++ codes " {") ++ phrases_text (d + 2) b ++ line d (codes "}")
  phrase_text d (Either e b c) =
      line d (codes "if " ++ expr_text e ++ codes " {") ++ phrases_text (d + 2) b ++ line d (codes "} else {") ++ phrases_text (d + 2) c ++ line d (codes "}")
  phrase_text d (While e b) = line d (codes "while " ++ expr_text e ++ codes " {") ++ phrases_text (d + 2) b ++ line d (codes "}")
  phrase_text d (Return e) = line d (return_text e)

  pub phrases_text : (indent : ℕ) → Phrases → List ℕ
  phrases_text d Empty = []
  phrases_text d (Then _ phrase rest) = phrase_text d phrase ++ phrases_text d rest

-- a word with a condition, and the block that it guards, up to the closing brace
abbrev pub guarded_text : (indent : ℕ) → (word : List ℕ) → Expr → Phrases → List ℕ
guarded_text d word e b = line d (word ++ expr_text e ++ codes " {") ++ phrases_text (d + 2) b
