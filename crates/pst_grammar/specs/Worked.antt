-- A statement worked by hand, and trees that are just as deep as may be.
use Rattle.std.specs.Prelude.{◌≡◌, ℕ, false, List, [], ◌∷◌, None, codes, pos}
use Rattle.std.proofs.Common.{zero, suc}
use Rattle.pst_base.specs.declared.names.Op.TheVariants as op
use Rattle.pst_grammar.specs.Syntax.{Expr, Number, Name, Parens, Field, Indexed, Binary, Phrase, Print, Either, While, Return, Phrases, Empty, Then, Item, Procedure}
use Rattle.pst_grammar.specs.Depth.{height, phrase_height, phrase_nesting, IsShallow}

-- `x.f[i + 1]`
abbrev pub element : Expr
element = Indexed (Name (codes "x")) (codes "f") (Binary op.Add (Name (codes "i")) (Number (pos 1)))

-- `x.n < y`
abbrev pub compared : Expr
compared = Binary op.Less (Field (Name (codes "x")) (codes "n")) (Name (codes "y"))

-- `while x.n < y { print (1); }`
abbrev pub loop : Phrase
loop = While compared (Then 2 (Print (Parens (Number (pos 1)))) Empty)

-- `if x.f[i + 1] < y { return; } else { while x.n < y { print (1); } }`
abbrev pub choice : Phrase
choice = Either (Binary op.Less element (Name (codes "y"))) (Then 1 (Return None) Empty) (Then 2 loop Empty)

-- The higher part of an expression counts, and the more nested side of a choice; a statement is as high as its highest
-- expression, wherever it stands.
pub record WorkedDepths : Type 0 where
  pub of_element : height element ≡ 2
  pub of_comparison : height compared ≡ 2
  pub of_choice : phrase_height choice ≡ 3
  pub loop_nests : phrase_nesting loop ≡ 1
  pub choice_nests : phrase_nesting choice ≡ 2

-- a number in so many parentheses
abbrev pub in_parens : ℕ → Expr
in_parens zero = Number (pos 7)
in_parens (suc n) = Parens (in_parens n)

-- so many loops in one another
abbrev pub loops : ℕ → Phrases
loops zero = Empty
loops (suc n) = Then 1 (While (Number (pos 1)) (loops n)) Empty

-- a procedure with this body, and nothing else
abbrev pub procedure_of : Phrases → List Item
procedure_of body = Procedure (record { line = 1; query = false; name = codes "p"; parameters = []; result = None; locals = []; body = body }) ∷ []

-- An expression may be 64 deep, and no deeper; 15 blocks may stand in one another in a procedure's body, and no more.
pub record WorkedLimits : Type 0 where
  pub deepest : IsShallow (procedure_of (Then 1 (Print (in_parens 63)) Empty))
  pub too_deep : ¬ (IsShallow (procedure_of (Then 1 (Print (in_parens 64)) Empty)))
  pub most_nested : IsShallow (procedure_of (loops 15))
  pub too_nested : ¬ (IsShallow (procedure_of (loops 16)))
