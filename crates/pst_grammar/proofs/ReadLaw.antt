-- The law of reading an expression, in the language j.
use Rattle.std.specs.Prelude.{◌≡◌, ℕ, ◌≤◌, ◌<◌, ◌-◌, Bool, true, false, ◌&&◌, nat_le, nat_eq, List, [], ◌∷◌}
use Rattle.std.proofs.Common.{suc, zero, refl, sym, subst, arith}
use Rattle.std.proofs.lemmas.Bool.Decides.{nat_tests}
use Rattle.pst_base.specs.declared.names.Op.{Op}
use Rattle.pst_base.specs.declared.names.Op.TheVariants as op
use Rattle.pst_grammar.specs.Syntax as tree
use Rattle.pst_grammar.specs.declared.lexeme.Label.{Label}
use Rattle.pst_grammar.specs.declared.lexeme.Sign.TheVariants as sign
use Rattle.pst_grammar.specs.Lexemes as token
use Rattle.pst_grammar.specs.Lexemes.{Lexeme, Operator, Plain, Leading}
use Rattle.pst_grammar.specs.Depth.{height}
use Rattle.pst_grammar.specs.Forms.{level, loosest_left, rank, IsFormed, IsPlace}
use Rattle.pst_grammar.specs.Spelling.{Expr, Number, Null, Name, Parens, Field, Indexed, Negate, Not, Binary, expr, spelled, place_line}
use Rattle.pst_grammar.specs.Reader.{Read, and_then, after, label}
use Rattle.pst_grammar.specs.Reading.{goes_on, selected, more, operand, nothing, read, deeper}
use Rattle.pst_grammar.proofs.ReaderLaws.{Construct, Begins, Lawful, Good, cond_law, step_law, wrong_law, end_law, stop_law, done_law, after_good, label_good}
use Rattle.pst_grammar.proofs.ReaderLaws.{within_law, bind_law, rerun_law, rerun_end, some_label}

-- a formed tree for an operand of rank n, and one of height at most b
abbrev pub Fit : (j : ℕ) → ℕ → Expr → Type 0
Fit j n e = (n ≤ rank (expr e)) × IsFormed j (expr e)

abbrev pub Fits : (j : ℕ) → ℕ → ℕ → Expr → Type 0
Fits j n b e = (n ≤ rank (expr e)) × IsFormed j (expr e) × (height (expr e) ≤ b)

abbrev pub expression : (j n b : ℕ) → Construct tree.Expr
expression j n b = record { Lined = Expr; plain = expr; spell = spelled; Fit = Fit j n; In = Fits j n b }

pub level_small : (op : Op) → level op ≤ 5
level_small op.Or = omega arith
level_small op.And = omega arith
level_small op.Equal = omega arith
level_small op.NotEqual = omega arith
level_small op.Less = omega arith
level_small op.LessEqual = omega arith
level_small op.Greater = omega arith
level_small op.GreaterEqual = omega arith
level_small op.Add = omega arith
level_small op.Sub = omega arith
level_small op.Mul = omega arith
level_small op.Div = omega arith
level_small op.Rem = omega arith

pub and_true : (a b : Bool) → (a && b) ≡ true → (a ≡ true) × (b ≡ true)
and_true true b e = (refl, e)
and_true false b e = cc

pub le_from_test : (m n : ℕ) → nat_le m n ≡ true → m ≤ n
le_from_test m n e = grind (arith, nat_tests)

-- where an operand is wanted, one can come
pub some_operand : (j n b : ℕ) → n ≤ 8 → Begins spelled (Fits j n b) (λ x. x) []
some_operand j n b small = (Null, (omega arith, tt, omega arith), Plain sign.Null ∷ [], λ x. refl)

-- reading one level deeper keeps the law
abbrev pub NextLaw : (j : ℕ) → (ℕ → List Lexeme → Read tree.Expr) → ℕ → Type 0
NextLaw j next b = (m : ℕ) → m ≤ 6 → 0 < b → (us : List Lexeme) → Lawful (expression j m (b - 1)) (λ x. x) (next m) us (next m us)

pub is_second : (j : ℕ) → nat_eq j 2 ≡ true → j ≡ 2
is_second j e = grind (arith, nat_tests)

-- expressions, of which some fit and some keep the limits
abbrev expressions : (Fit In : Expr → Type 0) → Construct tree.Expr
expressions Fit In = record { Lined = Expr; plain = expr; spell = spelled; Fit = Fit; In = In }

-- behind a dot and a name, where what goes on after the field and after its elements keeps the law
selected_good : (j : ℕ) (next : ℕ → List Lexeme → Read tree.Expr) (b : ℕ) (Fit' In' : Expr → Type 0) (on : tree.Expr → List Lexeme → Read tree.Expr) (e : Expr) (v : Label) → 0 < b → NextLaw j next b →
    In' (Field e v) → ((i : Expr) → j ≡ 2 → Fits j 0 (b - 1) i → In' (Indexed e v i)) → ((i : Expr) → j ≡ 2 → Fit j 0 i → Fit' (Indexed e v i)) →
    ((a : Expr) (rest : List Lexeme) → In' a → Lawful (expressions Fit' In') (spelled a) (on (expr a)) rest (on (expr a) rest)) →
    Good (expressions Fit' In') (λ x. spelled e (Plain sign.Dot ∷ token.Name v ∷ x)) (selected j next (expr e) v.name on)
selected_good j next b Fit' In' on e v pos law one two two' goes = record { close = (Field e v, one, [], λ x. refl); law = go }
  where
    go : (ts : List Lexeme) → Lawful (expressions Fit' In') (λ x. spelled e (Plain sign.Dot ∷ token.Name v ∷ x)) (selected j next (expr e) v.name on) ts (selected j next (expr e) v.name on ts)
    go [] =
        rerun_end (expressions Fit' In') (λ x. spelled e (Plain sign.Dot ∷ token.Name v ∷ x)) (selected j next (expr e) v.name on)
        (on (tree.Field (expr e) v.name)) (on (tree.Field (expr e) v.name) []) refl
        (goes (Field e v) [] one)
    go (Plain sign.OpenParen ∷ ts) =
        cond_law (λ r. Lawful (expressions Fit' In') (λ x. spelled e (Plain sign.Dot ∷ token.Name v ∷ x)) (selected j next (expr e) v.name on) (Plain sign.OpenParen ∷ ts) r) (nat_eq j 2) _ _
        (λ q. let second : j ≡ 2 = is_second j q in
        step_law (expressions Fit' In') (λ x. spelled e (Plain sign.Dot ∷ token.Name v ∷ x)) (selected j next (expr e) v.name on)
        (λ x. and_then (next 0 x) (λ i. after sign.CloseParen (on (tree.Indexed (expr e) v.name i)))) (Plain sign.OpenParen) ts _ (λ x. rw q refl)
        (bind_law (expression j 0 (b - 1)) (expressions Fit' In') (λ x. x) (λ x. spelled e (Plain sign.Dot ∷ token.Name v ∷ Plain sign.OpenParen ∷ x)) (next 0)
        (λ i. after sign.CloseParen (on (tree.Indexed (expr e) v.name i))) ts (next 0 ts)
        (law 0 (omega arith) pos ts)
        (λ i rest is fits. (after_good (expressions Fit' In') (λ x. spelled e (Plain sign.Dot ∷ token.Name v ∷ Plain sign.OpenParen ∷ spelled i x))
        sign.CloseParen (on (tree.Indexed (expr e) v.name (expr i)))
        (record { close = (Indexed e v i, two i second fits, [], λ x. refl); law = λ rest. goes (Indexed e v i) rest (two i second fits) })).law rest)
        (λ i fits. (Indexed e v i, two i second fits, Plain sign.CloseParen ∷ [], λ x. refl))
        (λ i fits. (Indexed e v i, two' i second fits, Plain sign.CloseParen ∷ [], λ x. refl))))
        (λ q. rerun_law (expressions Fit' In') (λ x. spelled e (Plain sign.Dot ∷ token.Name v ∷ x)) (selected j next (expr e) v.name on)
        (on (tree.Field (expr e) v.name)) (Plain sign.OpenParen) ts _ (λ x. rw q refl)
        (goes (Field e v) (Plain sign.OpenParen ∷ ts) one))
    go (t ∷ ts) =
        rerun_law (expressions Fit' In') (λ x. spelled e (Plain sign.Dot ∷ token.Name v ∷ x)) (selected j next (expr e) v.name on)
        (on (tree.Field (expr e) v.name)) t ts (on (tree.Field (expr e) v.name) (t ∷ ts)) (λ x. refl)
        (goes (Field e v) (t ∷ ts) one)

pub more_law : (j : ℕ) (next : ℕ → List Lexeme → Read tree.Expr) (f b n : ℕ) (e : Expr) (ts : List Lexeme) → n ≤ 7 → NextLaw j next b → Fits j n b e →
    Lawful (expression j n b) (spelled e) (more j next f b n (expr e)) ts (more j next f b n (expr e) ts)
unfolding more
more_law j next zero b n e (Operator op ∷ ts) small law (r, formed, h) =
    cond_law (λ r. Lawful (expression j n b) (spelled e) (more j next zero b n (expr e)) (Operator op ∷ ts) r) (goes_on n (expr e) op) _ _
    (λ q. let (q1, q2) = and_true _ _ q in
    let low : level op ≤ 5 = level_small op in
    let wide : n ≤ level op = le_from_test n (level op) q1 in
    let left : loosest_left op ≤ rank (expr e) = le_from_test (loosest_left op) (rank (expr e)) q2 in (
      [],
      Operator op,
      ts,
      refl,
      refl,
      (e, (r, formed, h), [], λ x. refl),
      (Binary op e Null, (wide, (left, omega arith, formed, tt)), Plain sign.Null ∷ [], λ x. refl),
      λ s (v, same). rw (same, q) refl,
    ))
    (λ q. stop_law (expression j n b) (spelled e) (more j next zero b n (expr e)) e (expr e) (Operator op) ts refl (r, formed, h) (λ x. refl) (λ v. rw q refl))
more_law j next zero b n e (Plain sign.Dot ∷ ts) small law (r, formed, h) =
    cond_law (λ r. Lawful (expression j n b) (spelled e) (more j next zero b n (expr e)) (Plain sign.Dot ∷ ts) r) (nat_le 7 (rank (expr e))) _ _
    (λ q. let tight : 7 ≤ rank (expr e) = le_from_test 7 (rank (expr e)) q in (
      [],
      Plain sign.Dot,
      ts,
      refl,
      refl,
      (e, (r, formed, h), [], λ x. refl),
      (Field e some_label, (omega arith, (tight, formed)), token.Name some_label ∷ [], λ x. refl),
      λ s (v, same). rw (same, q) refl,
    ))
    (λ q. stop_law (expression j n b) (spelled e) (more j next zero b n (expr e)) e (expr e) (Plain sign.Dot) ts refl (r, formed, h) (λ x. refl) (λ v. rw q refl))
more_law j next (suc f) b n e (Operator op ∷ ts) small law (r, formed, h) =
    cond_law (λ r. Lawful (expression j n b) (spelled e) (more j next (suc f) b n (expr e)) (Operator op ∷ ts) r) (goes_on n (expr e) op) _ _
    (λ q. let (q1, q2) = and_true _ _ q in
    let low : level op ≤ 5 = level_small op in
    let wide : n ≤ level op = le_from_test n (level op) q1 in
    let left : loosest_left op ≤ rank (expr e) = le_from_test (loosest_left op) (rank (expr e)) q2 in
    within_law (expression j n b) (spelled e) (more j next (suc f) b n (expr e)) (Operator op) ts b (height (expr e))
    (λ x. and_then (next (suc (level op)) x) (λ r. more j next f b n (tree.Binary op (expr e) r))) (λ x. rw q refl)
    (e, (r, formed, h), [], λ x. refl)
    (Binary op e Null, (wide, (left, omega arith, formed, tt)), Plain sign.Null ∷ [], λ x. refl)
    (λ lt. bind_law (expression j (suc (level op)) (b - 1)) (expression j n b) (λ x. x) (λ x. spelled e (Operator op ∷ x)) (next (suc (level op)))
    (λ r. more j next f b n (tree.Binary op (expr e) r)) ts (next (suc (level op)) ts)
    (law (suc (level op)) (omega arith) (omega arith) ts)
    (λ x rest is (rx, formed', hx). more_law j next f b n (Binary op e x) rest small law (wide, (left, omega arith, formed, formed'), omega arith))
    (λ x (rx, formed', hx). (Binary op e x, (wide, (left, omega arith, formed, formed'), omega arith), [], λ y. refl))
    (λ x (rx, formed'). (Binary op e x, (wide, (left, omega arith, formed, formed')), [], λ y. refl))))
    (λ q. stop_law (expression j n b) (spelled e) (more j next (suc f) b n (expr e)) e (expr e) (Operator op) ts refl (r, formed, h) (λ x. refl) (λ v. rw q refl))
more_law j next (suc f) b n e (Plain sign.Dot ∷ ts) small law (r, formed, h) =
    cond_law (λ r. Lawful (expression j n b) (spelled e) (more j next (suc f) b n (expr e)) (Plain sign.Dot ∷ ts) r) (nat_le 7 (rank (expr e))) _ _
    (λ q. let tight : 7 ≤ rank (expr e) = le_from_test 7 (rank (expr e)) q in
    within_law (expression j n b) (spelled e) (more j next (suc f) b n (expr e)) (Plain sign.Dot) ts b (height (expr e))
    (λ x. and_then (label x) (λ v. selected j next (expr e) v.name (λ a. more j next f b n a))) (λ x. rw q refl)
    (e, (r, formed, h), [], λ x. refl)
    (Field e some_label, (omega arith, (tight, formed)), token.Name some_label ∷ [], λ x. refl)
    (λ lt. (label_good (expression j n b) (λ x. spelled e (Plain sign.Dot ∷ x)) (λ v. selected j next (expr e) v.name (λ a. more j next f b n a))
    (λ v. selected_good j next b (Fit j n) (Fits j n b) (λ a. more j next f b n a) e v (omega arith) law (omega arith, (tight, formed), omega arith)
    (λ i two (ri, formed', hi). (omega arith, (two, tight, formed, formed'), omega arith))
    (λ i two (ri, formed'). (omega arith, (two, tight, formed, formed')))
    (λ a rest fits. more_law j next f b n a rest small law fits))).law ts))
    (λ q. stop_law (expression j n b) (spelled e) (more j next (suc f) b n (expr e)) e (expr e) (Plain sign.Dot) ts refl (r, formed, h) (λ x. refl) (λ v. rw q refl))
more_law j next zero b n e [] small law fits = done_law (expression j n b) (spelled e) (more j next zero b n (expr e)) e (expr e) refl fits (λ x. refl) refl
more_law j next (suc f) b n e [] small law fits = done_law (expression j n b) (spelled e) (more j next (suc f) b n (expr e)) e (expr e) refl fits (λ x. refl) refl
more_law j next f b n e (t ∷ ts) small law fits =
    stop_law (expression j n b) (spelled e) (more j next f b n (expr e)) e (expr e) t ts refl fits (λ x. refl) (λ v. refl)

-- the same wherever it runs
more_good : (j : ℕ) (next : ℕ → List Lexeme → Read tree.Expr) (f b n : ℕ) (e : Expr) → n ≤ 7 → NextLaw j next b → Fits j n b e →
    Good (expression j n b) (spelled e) (more j next f b n (expr e))
more_good j next f b n e small law fits = record { close = (e, fits, [], λ x. refl); law = λ ts. more_law j next f b n e ts small law fits }

operand_law : (j : ℕ) (next : ℕ → List Lexeme → Read tree.Expr) (b n : ℕ) (ts : List Lexeme) → n ≤ 6 → NextLaw j next b →
    Lawful (expression j n b) (λ x. x) (operand j next b n) ts (operand j next b n ts)
operand_law j next b n [] small law = end_law (expression j n b) (λ x. x) (operand j next b n) (some_operand j n b (omega arith)) refl
operand_law j next b n (token.Number v ∷ ts) small law =
    step_law (expression j n b) (λ x. x) (operand j next b n) (more j next b b n (tree.Number v)) (token.Number v) ts _ (λ x. refl)
    (more_law j next b b n (Number v) ts (omega arith) law (omega arith, tt, omega arith))
operand_law j next b n (token.Name v ∷ ts) small law =
    step_law (expression j n b) (λ x. x) (operand j next b n) (more j next b b n (tree.Name v.name)) (token.Name v) ts _ (λ x. refl)
    (more_law j next b b n (Name v) ts (omega arith) law (omega arith, tt, omega arith))
operand_law j next b n (Plain sign.Null ∷ ts) small law =
    step_law (expression j n b) (λ x. x) (operand j next b n) (more j next b b n tree.Null) (Plain sign.Null) ts _ (λ x. refl)
    (more_law j next b b n Null ts (omega arith) law (omega arith, tt, omega arith))
operand_law j next b n (Plain sign.OpenParen ∷ ts) small law =
    within_law (expression j n b) (λ x. x) (operand j next b n) (Plain sign.OpenParen) ts b 0
    (λ x. and_then (next 0 x) (λ e. after sign.CloseParen (more j next b b n (tree.Parens e)))) (λ x. refl)
    (some_operand j n b (omega arith))
    (Parens Null, (omega arith, tt), Plain sign.Null ∷ Plain sign.CloseParen ∷ [], λ x. refl)
    (λ lt. bind_law (expression j 0 (b - 1)) (expression j n b) (λ x. x) (λ x. Plain sign.OpenParen ∷ x) (next 0)
    (λ e. after sign.CloseParen (more j next b b n (tree.Parens e))) ts (next 0 ts)
    (law 0 (omega arith) lt ts)
    (λ e rest is (r, formed, h). (after_good (expression j n b) (λ x. Plain sign.OpenParen ∷ spelled e x) sign.CloseParen (more j next b b n (tree.Parens (expr e)))
    (more_good j next b b n (Parens e) (omega arith) law (omega arith, formed, omega arith))).law rest)
    (λ e (r, formed, h). (Parens e, (omega arith, formed, omega arith), Plain sign.CloseParen ∷ [], λ x. refl))
    (λ e (r, formed). (Parens e, (omega arith, formed), Plain sign.CloseParen ∷ [], λ x. refl)))
operand_law j next b n (Operator op.Sub ∷ ts) small law =
    within_law (expression j n b) (λ x. x) (operand j next b n) (Operator op.Sub) ts b 0
    (λ x. and_then (next 6 x) (λ e. more j next b b n (tree.Negate e))) (λ x. refl)
    (some_operand j n b (omega arith))
    (Negate Null, (omega arith, (omega arith, tt)), Plain sign.Null ∷ [], λ x. refl)
    (λ lt. bind_law (expression j 6 (b - 1)) (expression j n b) (λ x. x) (λ x. Operator op.Sub ∷ x) (next 6)
    (λ e. more j next b b n (tree.Negate e)) ts (next 6 ts)
    (law 6 (omega arith) lt ts)
    (λ e rest is (r, formed, h). more_law j next b b n (Negate e) rest (omega arith) law (omega arith, (r, formed), omega arith))
    (λ e (r, formed, h). (Negate e, (omega arith, (r, formed), omega arith), [], λ x. refl))
    (λ e (r, formed). (Negate e, (omega arith, (r, formed)), [], λ x. refl)))
operand_law j next b n (Plain sign.Not ∷ ts) small law =
    cond_law (λ r. Lawful (expression j n b) (λ x. x) (operand j next b n) (Plain sign.Not ∷ ts) r) (nat_le n 2) _ _
    (λ q. let wide : n ≤ 2 = le_from_test n 2 q in
    within_law (expression j n b) (λ x. x) (operand j next b n) (Plain sign.Not) ts b 0
    (λ x. and_then (next 2 x) (λ e. more j next b b n (tree.Not e))) (λ x. rw q refl)
    (some_operand j n b (omega arith))
    (Not Null, (wide, (omega arith, tt)), Plain sign.Null ∷ [], λ x. refl)
    (λ lt. bind_law (expression j 2 (b - 1)) (expression j n b) (λ x. x) (λ x. Plain sign.Not ∷ x) (next 2)
    (λ e. more j next b b n (tree.Not e)) ts (next 2 ts)
    (law 2 (omega arith) lt ts)
    (λ e rest is (r, formed, h). more_law j next b b n (Not e) rest (omega arith) law (wide, (r, formed), omega arith))
    (λ e (r, formed, h). (Not e, (wide, (r, formed), omega arith), [], λ x. refl))
    (λ e (r, formed). (Not e, (wide, (r, formed)), [], λ x. refl))))
    (λ q. wrong_law (expression j n b) (λ x. x) (operand j next b n) (Plain sign.Not) ts (some_operand j n b (omega arith)) (λ v. rw q refl))
operand_law j next b n (t ∷ ts) small law = wrong_law (expression j n b) (λ x. x) (operand j next b n) t ts (some_operand j n b (omega arith)) (λ v. refl)

pub read_law : (j b n : ℕ) (ts : List Lexeme) → n ≤ 6 → Lawful (expression j n b) (λ x. x) (read j b n) ts (read j b n ts)
unfolding read
read_law j zero n ts small = operand_law j (λ m. nothing) 0 n ts small (λ m le pos us. absurd (omega arith))
read_law j (suc c) n ts small = operand_law j (read j c) (suc c) n ts small
    (λ m le pos us. let e : suc c - 1 ≡ c = omega arith in subst (λ k. Lawful (expression j m k) (λ x. x) (read j c m) us (read j c m us)) (sym e) (read_law j c m us le))

pub deeper_law : (j b : ℕ) → NextLaw j (deeper j b) b
deeper_law j zero m le pos us = absurd (omega arith)
deeper_law j (suc c) m le pos us = let e : suc c - 1 ≡ c = omega arith in subst (λ k. Lawful (expression j m k) (λ x. x) (read j c m) us (read j c m us)) (sym e) (read_law j c m us le)

-- an expression can come, and its reading keeps the law
pub read_good : (j b : ℕ) → Good (expression j 0 b) (λ x. x) (read j b 0)
read_good j b = record { close = some_operand j 0 b (omega arith); law = λ ts. read_law j b 0 ts (omega arith) }

-- a place, from its first name on, which stands on line l
abbrev pub place : (j : ℕ) → ℕ → ℕ → Construct tree.Expr
place j l b = record {
  Lined = Expr;
  plain = expr;
  spell = spelled;
  Fit = λ e. (place_line e ≡ l) × IsPlace j (expr e);
  In = λ e. (place_line e ≡ l) × IsPlace j (expr e) × (height (expr e) ≤ b);
}

-- a place binds more tightly than any operator, and may be followed by a dot
place_rank : (j : ℕ) (e : tree.Expr) → IsPlace j e → nat_le 7 (rank e) ≡ true
place_rank j (tree.Name x) p = refl
place_rank j (tree.Field e x) p = refl
place_rank j (tree.Indexed e x i) p = refl
place_rank j e p = absurd p

not_seven : (op : Op) → nat_le 7 (level op) ≡ false
not_seven op.Or = refl
not_seven op.And = refl
not_seven op.Equal = refl
not_seven op.NotEqual = refl
not_seven op.Less = refl
not_seven op.LessEqual = refl
not_seven op.Greater = refl
not_seven op.GreaterEqual = refl
not_seven op.Add = refl
not_seven op.Sub = refl
not_seven op.Mul = refl
not_seven op.Div = refl
not_seven op.Rem = refl

pub place_law : (j : ℕ) (next : ℕ → List Lexeme → Read tree.Expr) (f b l : ℕ) (e : Expr) (ts : List Lexeme) → NextLaw j next b → place_line e ≡ l → IsPlace j (expr e) → height (expr e) ≤ b →
    Lawful (place j l b) (spelled e) (more j next f b 7 (expr e)) ts (more j next f b 7 (expr e) ts)
unfolding more
place_law j next zero b l e (Operator op ∷ ts) law on is low =
    rw (not_seven op) (stop_law (place j l b) (spelled e) (more j next zero b 7 (expr e)) e (expr e) (Operator op) ts refl (on, is, low) (λ x. refl) (λ v. rw (not_seven op) refl))
place_law j next zero b l e (Plain sign.Dot ∷ ts) law on is low =
    rw (place_rank j (expr e) is) (
      [],
      Plain sign.Dot,
      ts,
      refl,
      refl,
      (e, (on, is, low), [], λ x. refl),
      (Field e some_label, (on, is), token.Name some_label ∷ [], λ x. refl),
      λ s (v, same). rw (same, place_rank j (expr e) is) refl,
    )
place_law j next (suc f) b l e (Operator op ∷ ts) law on is low =
    rw (not_seven op) (stop_law (place j l b) (spelled e) (more j next (suc f) b 7 (expr e)) e (expr e) (Operator op) ts refl (on, is, low) (λ x. refl) (λ v. rw (not_seven op) refl))
place_law j next (suc f) b l e (Plain sign.Dot ∷ ts) law on is low =
    rw (place_rank j (expr e) is)
    (within_law (place j l b) (spelled e) (more j next (suc f) b 7 (expr e)) (Plain sign.Dot) ts b (height (expr e))
    (λ x. and_then (label x) (λ v. selected j next (expr e) v.name (λ a. more j next f b 7 a))) (λ x. rw (place_rank j (expr e) is) refl)
    (e, (on, is, low), [], λ x. refl)
    (Field e some_label, (on, is), token.Name some_label ∷ [], λ x. refl)
    (λ lt. (label_good (place j l b) (λ x. spelled e (Plain sign.Dot ∷ x)) (λ v. selected j next (expr e) v.name (λ a. more j next f b 7 a))
    (λ v. selected_good j next b (λ a. (place_line a ≡ l) × IsPlace j (expr a)) (λ a. (place_line a ≡ l) × IsPlace j (expr a) × (height (expr a) ≤ b))
    (λ a. more j next f b 7 a) e v (omega arith) law (on, is, omega arith)
    (λ i two (ri, formed, hi). (on, (two, is, formed), omega arith))
    (λ i two (ri, formed). (on, (two, is, formed)))
    (λ a rest (on', is', low'). place_law j next f b l a rest law on' is' low'))).law ts))
place_law j next zero b l e [] law on is low = done_law (place j l b) (spelled e) (more j next zero b 7 (expr e)) e (expr e) refl (on, is, low) (λ x. refl) refl
place_law j next (suc f) b l e [] law on is low = done_law (place j l b) (spelled e) (more j next (suc f) b 7 (expr e)) e (expr e) refl (on, is, low) (λ x. refl) refl
place_law j next f b l e (t ∷ ts) law on is low =
    stop_law (place j l b) (spelled e) (more j next f b 7 (expr e)) e (expr e) t ts refl (on, is, low) (λ x. refl) (λ v. refl)
