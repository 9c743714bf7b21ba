-- Equations of reading an expression, in the language j, as the code takes its steps.
use Rattle.std.specs.Prelude.{◌≡◌, ℕ, ℤ, ◌≤◌, ◌<◌, ◌+◌, ◌-◌, true, false, cond, nat_le, nat_eq, List, [], ◌∷◌}
use Rattle.std.proofs.Common.{suc, zero, refl, ap, ◌∙◌, arith}
use Rattle.pst_base.specs.declared.names.Op.{Op}
use Rattle.pst_base.specs.declared.names.Op.TheVariants as op
use Rattle.pst_grammar.specs.Syntax as tree
use Rattle.pst_grammar.specs.Syntax.{Expr}
use Rattle.pst_grammar.specs.declared.lexeme.Label.{Label}
use Rattle.pst_grammar.specs.declared.lexeme.Sign.{Sign}
use Rattle.pst_grammar.specs.declared.lexeme.Sign.TheVariants as sign
use Rattle.pst_grammar.specs.declared.lexeme.Lead.{Lead}
use Rattle.pst_grammar.specs.Lexemes.{Lexeme, Name, Number, Operator, Plain, Leading}
use Rattle.pst_parse_expressions.specs.declared.lexeme.Lexeme as code
use Rattle.pst_parse_expressions.specs.declared.lexeme.Lexeme.TheVariants as seen
use Rattle.pst_grammar.specs.Depth.{height}
use Rattle.pst_grammar.specs.Forms.{level, rank}
use Rattle.pst_grammar.specs.Reader.{Read, Got, Bad, Unexpected, TooDeep, and_then, expect, after, label, within}
use Rattle.pst_grammar.specs.Reading.{goes_on, selected, more, operand, read, deeper, going}
use Rattle.pst_parse_expressions.specs.View.{as_read, Lacks}
use Rattle.std.proofs.lemmas.Bool.Decides.{nat_tests}
use Rattle.pst_grammar.proofs.Again.{test_true, test_false, selected_index}
use Rattle.pst_grammar.proofs.Many.{and_then-same}

selected_same : (j : ℕ) (next : ℕ → List Lexeme → Read Expr) (e : Expr) (x : List ℕ) (on on' : Expr → List Lexeme → Read Expr) (ts : List Lexeme) →
    ((us : List Lexeme) → on (tree.Field e x) us ≡ on' (tree.Field e x) us) → ((i : Expr) (us : List Lexeme) → on (tree.Indexed e x i) us ≡ on' (tree.Indexed e x i) us) →
    selected j next e x on ts ≡ selected j next e x on' ts
selected_same j next e x on on' [] h h' = h []
selected_same j next e x on on' (Plain sign.OpenParen ∷ ts) h h' =
    ap (λ r. cond (nat_eq j 2) r (on (tree.Field e x) (Plain sign.OpenParen ∷ ts)))
    (and_then-same (next 0 ts) _ _ (λ i rest q. and_then-same (expect sign.CloseParen rest) _ _ (λ _ rest' q'. h' i rest')))
    ∙ ap (λ r. cond (nat_eq j 2) (and_then (next 0 ts) (λ i. after sign.CloseParen (on' (tree.Indexed e x i)))) r) (h (Plain sign.OpenParen ∷ ts))
selected_same j next e x on on' (t ∷ ts) h h' = h (t ∷ ts)

not_second : (j : ℕ) → (j ≡ 2 → ⊥) → nat_eq j 2 ≡ false
not_second j never = grind (arith, nat_tests)

-- the steps do not matter, where there are enough
more-same : (j : ℕ) (next : ℕ → List Lexeme → Read Expr) (f g b n : ℕ) (e : Expr) (ts : List Lexeme) → b ≤ f + height e → b ≤ g + height e → more j next f b n e ts ≡ more j next g b n e ts
unfolding more
more-same j next zero zero b n e ts le le' = refl
more-same j next zero (suc g) b n e [] le le' = refl
more-same j next zero (suc g) b n e (Operator op ∷ ts) le le' = rw (test_false (suc (height e)) b (omega arith)) refl
more-same j next zero (suc g) b n e (Plain sign.Dot ∷ ts) le le' = rw (test_false (suc (height e)) b (omega arith)) refl
more-same j next zero (suc g) b n e (t ∷ ts) le le' = refl
more-same j next (suc f) zero b n e [] le le' = refl
more-same j next (suc f) zero b n e (Operator op ∷ ts) le le' = rw (test_false (suc (height e)) b (omega arith)) refl
more-same j next (suc f) zero b n e (Plain sign.Dot ∷ ts) le le' = rw (test_false (suc (height e)) b (omega arith)) refl
more-same j next (suc f) zero b n e (t ∷ ts) le le' = refl
more-same j next (suc f) (suc g) b n e [] le le' = refl
more-same j next (suc f) (suc g) b n e (Operator op ∷ ts) le le' =
    ap (λ x. cond (goes_on n e op) (within (height e) b (Operator op ∷ ts) x) (Got e (Operator op ∷ ts)))
    (and_then-same (next (suc (level op)) ts) _ _ (λ r rest q. more-same j next f g b n (tree.Binary op e r) rest (omega arith) (omega arith)))
more-same j next (suc f) (suc g) b n e (Plain sign.Dot ∷ ts) le le' =
    ap (λ x. cond (nat_le 7 (rank e)) (within (height e) b (Plain sign.Dot ∷ ts) x) (Got e (Plain sign.Dot ∷ ts)))
    (and_then-same (label ts) _ _ (λ x rest q. selected_same j next e x.name (λ a. more j next f b n a) (λ a. more j next g b n a) rest
    (λ us. more-same j next f g b n (tree.Field e x.name) us (omega arith) (omega arith))
    (λ i us. more-same j next f g b n (tree.Indexed e x.name i) us (omega arith) (omega arith))))
more-same j next (suc f) (suc g) b n e (t ∷ ts) le le' = refl

within_in : {A : Type 0} (h b : ℕ) (place : List Lexeme) (r : Read A) → h < b → within h b place r ≡ r
within_in h b place r lt = rw (test_true (suc h) b lt) refl

within_deep : {A : Type 0} (h b : ℕ) (place : List Lexeme) (r : Read A) → b ≤ h → within h b place r ≡ Bad TooDeep place
within_deep h b place r le = rw (test_false (suc h) b (omega arith)) refl

deeper_is : (j b m : ℕ) (us : List Lexeme) → 0 < b → deeper j b m us ≡ read j (b - 1) m us
deeper_is j zero m us pos = absurd (omega arith)
deeper_is j (suc c) m us pos = let e : suc c - 1 ≡ c = omega arith in rw e refl

-- reading by its first token
read_is : (j b n : ℕ) (ts : List Lexeme) → read j b n ts ≡ operand j (deeper j b) b n ts
unfolding read
read_is j zero n ts = refl
read_is j (suc c) n ts = refl

pub read-none : (j b n : ℕ) (ts : List Lexeme) → ts ≡ [] → read j b n ts ≡ Bad Unexpected ts
read-none j b n ts e = rw e (read_is j b n [])

pub read-number : (j b n : ℕ) (v : ℤ) (ts : List Lexeme) → read j b n (Number v ∷ ts) ≡ going j b n (tree.Number v) ts
unfolding going
read-number j b n v ts = read_is j b n (Number v ∷ ts)

pub read-name : (j b n : ℕ) (x : Label) (ts : List Lexeme) → read j b n (Name x ∷ ts) ≡ going j b n (tree.Name x.name) ts
unfolding going
read-name j b n x ts = read_is j b n (Name x ∷ ts)

pub read-null : (j b n : ℕ) (ts : List Lexeme) → read j b n (Plain sign.Null ∷ ts) ≡ going j b n tree.Null ts
unfolding going
read-null j b n ts = read_is j b n (Plain sign.Null ∷ ts)

pub read-open : (j b n : ℕ) (ts : List Lexeme) → 0 < b →
    read j b n (Plain sign.OpenParen ∷ ts) ≡ and_then (read j (b - 1) 0 ts) (λ e. after sign.CloseParen (going j b n (tree.Parens e)))
unfolding going
read-open j b n ts pos =
    read_is j b n (Plain sign.OpenParen ∷ ts) ∙ within_in 0 b _ _ pos ∙ ap (λ r. and_then r (λ e. after sign.CloseParen (more j (deeper j b) b b n (tree.Parens e)))) (deeper_is j b 0 ts pos)

pub read-open_deep : (j b n : ℕ) (ts : List Lexeme) → b ≡ 0 → read j b n (Plain sign.OpenParen ∷ ts) ≡ Bad TooDeep (Plain sign.OpenParen ∷ ts)
read-open_deep j b n ts e = read_is j b n (Plain sign.OpenParen ∷ ts) ∙ within_deep 0 b _ _ (omega arith)

pub read-minus : (j b n : ℕ) (ts : List Lexeme) → 0 < b →
    read j b n (Operator op.Sub ∷ ts) ≡ and_then (read j (b - 1) 6 ts) (λ e. going j b n (tree.Negate e))
unfolding going
read-minus j b n ts pos =
    read_is j b n (Operator op.Sub ∷ ts) ∙ within_in 0 b _ _ pos ∙ ap (λ r. and_then r (λ e. more j (deeper j b) b b n (tree.Negate e))) (deeper_is j b 6 ts pos)

pub read-minus_deep : (j b n : ℕ) (ts : List Lexeme) → b ≡ 0 → read j b n (Operator op.Sub ∷ ts) ≡ Bad TooDeep (Operator op.Sub ∷ ts)
read-minus_deep j b n ts e = read_is j b n (Operator op.Sub ∷ ts) ∙ within_deep 0 b _ _ (omega arith)

pub read-not : (j b n : ℕ) (ts : List Lexeme) → n ≤ 2 → 0 < b →
    read j b n (Plain sign.Not ∷ ts) ≡ and_then (read j (b - 1) 2 ts) (λ e. going j b n (tree.Not e))
unfolding going
read-not j b n ts wide pos =
    read_is j b n (Plain sign.Not ∷ ts) ∙ rw (test_true n 2 wide) (within_in 0 b _ _ pos ∙ ap (λ r. and_then r (λ e. more j (deeper j b) b b n (tree.Not e))) (deeper_is j b 2 ts pos))

pub read-not_deep : (j b n : ℕ) (ts : List Lexeme) → n ≤ 2 → b ≡ 0 → read j b n (Plain sign.Not ∷ ts) ≡ Bad TooDeep (Plain sign.Not ∷ ts)
read-not_deep j b n ts wide e = read_is j b n (Plain sign.Not ∷ ts) ∙ rw (test_true n 2 wide) (within_deep 0 b _ _ (omega arith))

pub read-not_wrong : (j b n : ℕ) (ts : List Lexeme) → 2 < n → read j b n (Plain sign.Not ∷ ts) ≡ Bad Unexpected (Plain sign.Not ∷ ts)
read-not_wrong j b n ts tight = read_is j b n (Plain sign.Not ∷ ts) ∙ rw (test_false n 2 tight) refl

pub read-other_operator : (j b n : ℕ) (o : Op) (ts : List Lexeme) → (o ≡ op.Sub → ⊥) → read j b n (Operator o ∷ ts) ≡ Bad Unexpected (Operator o ∷ ts)
read-other_operator j b n op.Sub ts never = absurd (never refl)
read-other_operator j b n o ts never = read_is j b n (Operator o ∷ ts)

pub read-other_sign : (j b n : ℕ) (s : Sign) (ts : List Lexeme) → (s ≡ sign.Null → ⊥) → (s ≡ sign.OpenParen → ⊥) → (s ≡ sign.Not → ⊥) → read j b n (Plain s ∷ ts) ≡ Bad Unexpected (Plain s ∷ ts)
read-other_sign j b n sign.Null ts never nor nor' = absurd (never refl)
read-other_sign j b n sign.OpenParen ts never nor nor' = absurd (nor refl)
read-other_sign j b n sign.Not ts never nor nor' = absurd (nor' refl)
read-other_sign j b n s ts never nor nor' = read_is j b n (Plain s ∷ ts)

pub read-leading : (j b n : ℕ) (l : Lead) (line : ℕ) (ts : List Lexeme) → read j b n (Leading l line ∷ ts) ≡ Bad Unexpected (Leading l line ∷ ts)
read-leading j b n l line ts = read_is j b n (Leading l line ∷ ts)

-- what goes on, by the next token
going-none : (j b n : ℕ) (e : Expr) → going j b n e [] ≡ Got e []
unfolding going more
going-none j zero n e = refl
going-none j (suc c) n e = refl

pub going-end : (j b n : ℕ) (e : Expr) (ts : List Lexeme) → ts ≡ [] → going j b n e ts ≡ Got e ts
going-end j b n e ts is = rw is (going-none j b n e)

pub going-operator : (j b n : ℕ) (e : Expr) (op : Op) (ts : List Lexeme) → goes_on n e op ≡ true → height e < b →
    going j b n e (Operator op ∷ ts) ≡ and_then (read j (b - 1) (level op + 1) ts) (λ r. going j b n (tree.Binary op e r))
unfolding going more
going-operator j zero n e op ts goes lt = absurd (omega arith)
going-operator j (suc c) n e op ts goes lt =
    let next : suc (level op) ≡ level op + 1 = omega arith in
    let down : suc c - 1 ≡ c = omega arith in
    rw (goes, down)
    (within_in (height e) (suc c) _ _ lt
    ∙ and_then-same (read j c (suc (level op)) ts) _ _ (λ r rest q. more-same j (read j c) c (suc c) (suc c) n (tree.Binary op e r) rest (omega arith) (omega arith))
    ∙ ap (λ m. and_then (read j c m ts) (λ r. more j (read j c) (suc c) (suc c) n (tree.Binary op e r))) next)

pub going-operator_deep : (j b n : ℕ) (e : Expr) (op : Op) (ts : List Lexeme) → goes_on n e op ≡ true → b ≤ height e → going j b n e (Operator op ∷ ts) ≡ Bad TooDeep (Operator op ∷ ts)
unfolding going more
going-operator_deep j zero n e op ts goes le = rw goes refl
going-operator_deep j (suc c) n e op ts goes le = rw goes (within_deep (height e) (suc c) _ _ le)

pub going-operator_ends : (j b n : ℕ) (e : Expr) (op : Op) (ts : List Lexeme) → goes_on n e op ≡ false → going j b n e (Operator op ∷ ts) ≡ Got e (Operator op ∷ ts)
unfolding going more
going-operator_ends j zero n e op ts goes = rw goes refl
going-operator_ends j (suc c) n e op ts goes = rw goes refl

pub going-dot : (j b n : ℕ) (e : Expr) (ts : List Lexeme) → 7 ≤ rank e → height e < b →
    going j b n e (Plain sign.Dot ∷ ts) ≡ and_then (label ts) (λ x. selected j (deeper j b) e x.name (λ a. going j b n a))
unfolding going more
going-dot j zero n e ts tight lt = absurd (omega arith)
going-dot j (suc c) n e ts tight lt =
    rw (test_true 7 (rank e) tight)
    (within_in (height e) (suc c) _ _ lt
    ∙ and_then-same (label ts) _ _ (λ x rest q. selected_same j (read j c) e x.name (λ a. more j (read j c) c (suc c) n a) (λ a. more j (read j c) (suc c) (suc c) n a) rest
    (λ us. more-same j (read j c) c (suc c) (suc c) n (tree.Field e x.name) us (omega arith) (omega arith))
    (λ i us. more-same j (read j c) c (suc c) (suc c) n (tree.Indexed e x.name i) us (omega arith) (omega arith))))

-- behind a dot and a name
pub selected-first : (j : ℕ) (next : ℕ → List Lexeme → Read Expr) (e : Expr) (x : List ℕ) (on : Expr → List Lexeme → Read Expr) (ts : List Lexeme) → (j ≡ 2 → ⊥) →
    selected j next e x on ts ≡ on (tree.Field e x) ts
selected-first j next e x on [] never = refl
selected-first j next e x on (Plain sign.OpenParen ∷ ts) never = rw (not_second j never) refl
selected-first j next e x on (t ∷ ts) never = refl

pub selected-field : (j : ℕ) (next : ℕ → List Lexeme → Read Expr) (e : Expr) (x : List ℕ) (on : Expr → List Lexeme → Read Expr) (ts : List Lexeme) → Lacks sign.OpenParen ts →
    selected j next e x on ts ≡ on (tree.Field e x) ts
selected-field j next e x on [] none = refl
selected-field j next e x on (Plain sign.OpenParen ∷ ts) none = cc
selected-field j next e x on (t ∷ ts) none = refl

pub selected-index : (j b : ℕ) (e : Expr) (x : List ℕ) (on : Expr → List Lexeme → Read Expr) (ts rest : List Lexeme) → j ≡ 2 → 0 < b → ts ≡ Plain sign.OpenParen ∷ rest →
    selected j (deeper j b) e x on ts ≡ and_then (read j (b - 1) 0 rest) (λ i. after sign.CloseParen (on (tree.Indexed e x i)))
selected-index j b e x on ts rest two pos at =
    rw at (selected_index j (deeper j b) e x on rest two ∙ ap (λ r. and_then r (λ i. after sign.CloseParen (on (tree.Indexed e x i)))) (deeper_is j b 0 rest pos))

pub going-dot_deep : (j b n : ℕ) (e : Expr) (ts : List Lexeme) → 7 ≤ rank e → b ≤ height e → going j b n e (Plain sign.Dot ∷ ts) ≡ Bad TooDeep (Plain sign.Dot ∷ ts)
unfolding going more
going-dot_deep j zero n e ts tight le = rw (test_true 7 (rank e) tight) refl
going-dot_deep j (suc c) n e ts tight le = rw (test_true 7 (rank e) tight) (within_deep (height e) (suc c) _ _ le)

pub going-dot_ends : (j b n : ℕ) (e : Expr) (ts : List Lexeme) → rank e < 7 → going j b n e (Plain sign.Dot ∷ ts) ≡ Got e (Plain sign.Dot ∷ ts)
unfolding going more
going-dot_ends j zero n e ts loose = rw (test_false 7 (rank e) loose) refl
going-dot_ends j (suc c) n e ts loose = rw (test_false 7 (rank e) loose) refl

pub going-other_sign : (j b n : ℕ) (e : Expr) (s : Sign) (ts : List Lexeme) → (s ≡ sign.Dot → ⊥) → going j b n e (Plain s ∷ ts) ≡ Got e (Plain s ∷ ts)
unfolding going more
going-other_sign j b n e sign.Dot ts never = absurd (never refl)
going-other_sign j zero n e s ts never = refl
going-other_sign j (suc c) n e s ts never = refl

pub going-other : (j b n : ℕ) (e : Expr) (l : code.Lexeme) (ts : List Lexeme) → ((o : Op) → l ≡ seen.Operator o → ⊥) → ((s : Sign) → l ≡ seen.Plain s → ⊥) →
    going j b n e (as_read l ∷ ts) ≡ Got e (as_read l ∷ ts)
unfolding going more
going-other j b n e (seen.Operator o) ts never nor = absurd (never o refl)
going-other j b n e (seen.Plain s) ts never nor = absurd (nor s refl)
going-other j zero n e l ts never nor = refl
going-other j (suc c) n e l ts never nor = refl

pub ruleset equations = (
  read-none,
  read-number,
  read-name,
  read-null,
  read-open,
  read-open_deep,
  read-minus,
  read-minus_deep,
  read-not,
  read-not_deep,
  read-not_wrong,
  read-leading,
  going-end,
  going-operator,
  going-operator_deep,
  going-operator_ends,
  going-dot,
  going-dot_deep,
  going-dot_ends,
  selected-first,
  selected-field,
  selected-index,
)
