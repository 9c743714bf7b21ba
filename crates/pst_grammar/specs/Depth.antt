-- How deep a program is: the limits that a tree of the parser keeps.
use Rattle.std.specs.Prelude.{ℕ, ◌≤◌, max, List, [], ◌∷◌, Some, None}
use Rattle.std.proofs.Common.{suc}
use Rattle.pst_grammar.specs.Syntax.{Expr, Number, Null, Name, Parens, Field, Indexed, Negate, Not, Binary, Phrase, New, Call, Write, Print, If, Either, While, Return, Phrases, Empty, Then, Item, Record, Root, Procedure}

-- how many forms stand above the deepest one: the depth is one more
abbrev pub height : Expr → ℕ
height (Number n) = 0
height Null = 0
height (Name x) = 0
height (Parens e) = suc (height e)
height (Field e x) = suc (height e)
height (Indexed e x i) = suc (max (height e) (height i))
height (Negate e) = suc (height e)
height (Not e) = suc (height e)
height (Binary op l r) = suc (max (height l) (height r))

-- the greatest number that a list gives
abbrev pub greatest : {A : Type 0} → (A → ℕ) → List A → ℕ
greatest f [] = 0
greatest f (a ∷ l) = max (f a) (greatest f l)

-- the height of the highest expression or place
abbrev mutual
  pub phrase_height : Phrase → ℕ
  phrase_height (New x ty) = 0
  phrase_height (Call x p es) = greatest height es
  phrase_height (Write place e) = max (height place) (height e)
  phrase_height (Print e) = height e
  phrase_height (If e b) = max (height e) (phrases_height b)
  phrase_height (Either e b c) = max (height e) (max (phrases_height b) (phrases_height c))
  phrase_height (While e b) = max (height e) (phrases_height b)
  phrase_height (Return None) = 0
  phrase_height (Return (Some e)) = height e

  pub phrases_height : Phrases → ℕ
  phrases_height Empty = 0
  phrases_height (Then line s b) = max (phrase_height s) (phrases_height b)

-- how many blocks stand in one another
abbrev mutual
  pub phrase_nesting : Phrase → ℕ
  phrase_nesting (New x ty) = 0
  phrase_nesting (Call x p es) = 0
  phrase_nesting (Write place e) = 0
  phrase_nesting (Print e) = 0
  phrase_nesting (If e b) = suc (phrases_nesting b)
  phrase_nesting (Either e b c) = suc (max (phrases_nesting b) (phrases_nesting c))
  phrase_nesting (While e b) = suc (phrases_nesting b)
  phrase_nesting (Return e) = 0

  pub phrases_nesting : Phrases → ℕ
  phrases_nesting Empty = 0
  phrases_nesting (Then line s b) = max (phrase_nesting s) (phrases_nesting b)

abbrev pub item_height : Item → ℕ
item_height (Record line x limit fields) = 0
item_height (Root line x kind) = 0
item_height (Procedure p) = phrases_height p.body

abbrev pub item_nesting : Item → ℕ
item_nesting (Record line x limit fields) = 0
item_nesting (Root line x kind) = 0
item_nesting (Procedure p) = phrases_nesting p.body

-- no expression or place is deeper than 64, and no more than 16 blocks stand in one another, a procedure's body counted
pub record IsShallow (items : List Item) : Type 0 where
  pub height : greatest item_height items ≤ 63
  pub nesting : greatest item_nesting items ≤ 15
