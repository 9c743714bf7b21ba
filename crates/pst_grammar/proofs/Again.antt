-- The spelling of a formed expression of the language j is read as that expression.
use Rattle.std.specs.Prelude.{◌≡◌, ℕ, ◌≤◌, ◌<◌, ◌+◌, ◌-◌, true, false, nat_le, List, [], ◌∷◌}
use Rattle.std.proofs.Common.{suc, zero, refl, ◌∙◌, subst, arith}
use Rattle.std.proofs.lemmas.Bool.Decides.{nat_tests}
use Rattle.pst_base.specs.declared.names.Op.{Op}
use Rattle.pst_base.specs.declared.names.Op.TheVariants as op
use Rattle.pst_grammar.specs.Syntax as tree
use Rattle.pst_grammar.specs.declared.lexeme.Label.{Label}
use Rattle.pst_grammar.specs.declared.lexeme.Sign.TheVariants as sign
use Rattle.pst_grammar.specs.Lexemes as token
use Rattle.pst_grammar.specs.Lexemes.{Lexeme, Operator, Plain, Leading}
use Rattle.pst_grammar.specs.Depth.{height}
use Rattle.pst_grammar.specs.Forms.{level, loosest_left, rank, IsFormed, IsPlace}
use Rattle.pst_grammar.specs.Spelling.{Expr, Number, Null, Name, Parens, Field, Indexed, Negate, Not, Binary, expr, spelled}
use Rattle.pst_grammar.specs.Reader.{Read, Got, and_then, after, within}
use Rattle.pst_grammar.specs.Reading.{selected, more, operand, nothing, read, deeper, going}
use Rattle.pst_grammar.proofs.ReadLaw.{level_small}

-- how tightly the first token takes what stands on its left: the `(` of an index belongs to the field before it
abbrev pub binds : List Lexeme → ℕ
binds (Operator op ∷ ts) = level op
binds (Plain sign.Dot ∷ ts) = 7
binds (Plain sign.OpenParen ∷ ts) = 8
binds _ = 0

-- no operator, no dot and no `(` stands there
abbrev pub Ends : List Lexeme → Type 0
Ends (Operator op ∷ ts) = ⊥
Ends (Plain sign.Dot ∷ ts) = ⊥
Ends (Plain sign.OpenParen ∷ ts) = ⊥
Ends ts = Unit {0}

pub test_true : (m n : ℕ) → m ≤ n → nat_le m n ≡ true
test_true m n h = grind (arith, nat_tests)

pub test_false : (m n : ℕ) → n < m → nat_le m n ≡ false
test_false m n h = grind (arith, nat_tests)

level_left : (op : Op) → level op ≤ loosest_left op
level_left op.Or = omega arith
level_left op.And = omega arith
level_left op.Equal = omega arith
level_left op.NotEqual = omega arith
level_left op.Less = omega arith
level_left op.LessEqual = omega arith
level_left op.Greater = omega arith
level_left op.GreaterEqual = omega arith
level_left op.Add = omega arith
level_left op.Sub = omega arith
level_left op.Mul = omega arith
level_left op.Div = omega arith
level_left op.Rem = omega arith

-- where the first token does not bind tightly enough, or binds not at all, nothing goes on
pub stops : (j : ℕ) (next : ℕ → List Lexeme → Read tree.Expr) (f b n : ℕ) (e : tree.Expr) (rest : List Lexeme) → binds rest < n → n ≤ 7 → more j next f b n e rest ≡ Got e rest
unfolding more
stops j next zero b n e [] below small = refl
stops j next zero b n e (Operator op ∷ ts) below small = rw (test_false n (level op) below) refl
stops j next zero b n e (Plain sign.Dot ∷ ts) below small = absurd (omega arith)
stops j next zero b n e (t ∷ ts) below small = refl
stops j next (suc f) b n e [] below small = refl
stops j next (suc f) b n e (Operator op ∷ ts) below small = rw (test_false n (level op) below) refl
stops j next (suc f) b n e (Plain sign.Dot ∷ ts) below small = absurd (omega arith)
stops j next (suc f) b n e (t ∷ ts) below small = refl

pub ends : (j : ℕ) (next : ℕ → List Lexeme → Read tree.Expr) (f b n : ℕ) (e : tree.Expr) (rest : List Lexeme) → Ends rest → more j next f b n e rest ≡ Got e rest
unfolding more
ends j next zero b n e [] end = refl
ends j next zero b n e (Operator op ∷ ts) end = absurd end
ends j next zero b n e (Plain sign.Dot ∷ ts) end = absurd end
ends j next zero b n e (t ∷ ts) end = refl
ends j next (suc f) b n e [] end = refl
ends j next (suc f) b n e (Operator op ∷ ts) end = absurd end
ends j next (suc f) b n e (Plain sign.Dot ∷ ts) end = absurd end
ends j next (suc f) b n e (t ∷ ts) end = refl

pub ends_binds : (rest : List Lexeme) → Ends rest → binds rest ≡ 0
ends_binds [] end = refl
ends_binds (Operator op ∷ ts) end = absurd end
ends_binds (Plain sign.Dot ∷ ts) end = absurd end
ends_binds (Plain sign.OpenParen ∷ ts) end = absurd end
ends_binds (t ∷ ts) end = refl

-- no token binds at 2 or at 6
gap : (rest : List Lexeme) → ((binds rest ≤ 6) → binds rest < 6) × ((binds rest ≤ 2) → binds rest < 2)
gap [] = (λ h. omega arith, λ h. omega arith)
gap (Operator op.Or ∷ ts) = (λ h. omega arith, λ h. omega arith)
gap (Operator op.And ∷ ts) = (λ h. omega arith, λ h. omega arith)
gap (Operator op.Equal ∷ ts) = (λ h. omega arith, λ h. omega arith)
gap (Operator op.NotEqual ∷ ts) = (λ h. omega arith, λ h. omega arith)
gap (Operator op.Less ∷ ts) = (λ h. omega arith, λ h. omega arith)
gap (Operator op.LessEqual ∷ ts) = (λ h. omega arith, λ h. omega arith)
gap (Operator op.Greater ∷ ts) = (λ h. omega arith, λ h. omega arith)
gap (Operator op.GreaterEqual ∷ ts) = (λ h. omega arith, λ h. omega arith)
gap (Operator op.Add ∷ ts) = (λ h. omega arith, λ h. omega arith)
gap (Operator op.Sub ∷ ts) = (λ h. omega arith, λ h. omega arith)
gap (Operator op.Mul ∷ ts) = (λ h. omega arith, λ h. omega arith)
gap (Operator op.Div ∷ ts) = (λ h. omega arith, λ h. omega arith)
gap (Operator op.Rem ∷ ts) = (λ h. omega arith, λ h. omega arith)
gap (Plain sign.Dot ∷ ts) = (λ h. omega arith, λ h. omega arith)
gap (Plain sign.OpenParen ∷ ts) = (λ h. omega arith, λ h. omega arith)
gap (t ∷ ts) = (λ h. omega arith, λ h. omega arith)

-- with steps enough, what goes on after e at rest gives r
abbrev pub Goes : (j : ℕ) → (ℕ → List Lexeme → Read tree.Expr) → ℕ → ℕ → tree.Expr → List Lexeme → Read tree.Expr → Type 0
Goes j next b n e rest r = (f : ℕ) → b ≤ f + height e → more j next f b n e rest ≡ r

within_is : {A : Type 0} (b h : ℕ) (place : List Lexeme) (r : Read A) → h < b → within h b place r ≡ r
within_is b h place r lt = rw (test_true (suc h) b lt) refl

-- behind a dot and a name: a field alone where no `(` stands there, and an index in language 2
selected_field : (j : ℕ) (next : ℕ → List Lexeme → Read tree.Expr) (e : tree.Expr) (x : List ℕ) (on : tree.Expr → List Lexeme → Read tree.Expr) (rest : List Lexeme) → binds rest ≤ 7 →
    selected j next e x on rest ≡ on (tree.Field e x) rest
selected_field j next e x on [] free = refl
selected_field j next e x on (Plain sign.OpenParen ∷ ts) free = absurd (omega arith)
selected_field j next e x on (t ∷ ts) free = refl

pub selected_index : (j : ℕ) (next : ℕ → List Lexeme → Read tree.Expr) (e : tree.Expr) (x : List ℕ) (on : tree.Expr → List Lexeme → Read tree.Expr) (ts : List Lexeme) → j ≡ 2 →
    selected j next e x on (Plain sign.OpenParen ∷ ts) ≡ and_then (next 0 ts) (λ i. after sign.CloseParen (on (tree.Indexed e x i)))
selected_index j next e x on ts two = rw two refl

-- an operand one level deeper is read again
abbrev NextAgain : (j : ℕ) → (ℕ → List Lexeme → Read tree.Expr) → ℕ → Type 0
NextAgain j next b = (e : Expr) (m : ℕ) (rest : List Lexeme) → 0 < b → m ≤ 6 → m ≤ rank (expr e) → IsFormed j (expr e) → height (expr e) ≤ b - 1 → binds rest ≤ rank (expr e) →
    ((next' : ℕ → List Lexeme → Read tree.Expr) (f : ℕ) → more j next' f (b - 1) m (expr e) rest ≡ Got (expr e) rest) → next m (spelled e rest) ≡ Got (expr e) rest

-- an expression is read from its first token up to what goes on after it
operand_again : (j : ℕ) (next : ℕ → List Lexeme → Read tree.Expr) (e : Expr) (b n : ℕ) (rest : List Lexeme) (r : Read tree.Expr) → NextAgain j next b →
    n ≤ rank (expr e) → IsFormed j (expr e) → height (expr e) ≤ b → binds rest ≤ rank (expr e) → Goes j next b n (expr e) rest r →
    operand j next b n (spelled e rest) ≡ r
unfolding more
operand_again j next (Number v) b n rest r law wide formed low free goes = goes b (omega arith)
operand_again j next (Name v) b n rest r law wide formed low free goes = goes b (omega arith)
operand_again j next Null b n rest r law wide formed low free goes = goes b (omega arith)
operand_again j next (Parens e) b n rest r law wide formed low free goes =
    within_is b 0 _ _ (omega arith)
    ∙ rw (law e 0 (Plain sign.CloseParen ∷ rest) (omega arith) (omega arith) (omega arith) formed (omega arith) (omega arith)
    (λ next' f. ends j next' f (b - 1) 0 (expr e) (Plain sign.CloseParen ∷ rest) tt))
    (goes b (omega arith))
operand_again j next (Field e v) b n rest r law wide (tight, formed) low free goes =
    operand_again j next e b n (Plain sign.Dot ∷ token.Name v ∷ rest) r law (omega arith) formed (omega arith) (omega arith) go
  where
    go : Goes j next b n (expr e) (Plain sign.Dot ∷ token.Name v ∷ rest) r
    go zero le = absurd (omega arith)
    go (suc f) le =
        rw (test_true 7 (rank (expr e)) tight)
        (within_is b (height (expr e)) _ _ (omega arith) ∙ selected_field j next (expr e) v.name (λ a. more j next f b n a) rest (omega arith) ∙ goes f (omega arith))
operand_again j next (Indexed e v i) b n rest r law wide (two, tight, formed, formed') low free goes =
    operand_again j next e b n (Plain sign.Dot ∷ token.Name v ∷ Plain sign.OpenParen ∷ spelled i (Plain sign.CloseParen ∷ rest)) r law (omega arith) formed (omega arith) (omega arith) go
  where
    go : Goes j next b n (expr e) (Plain sign.Dot ∷ token.Name v ∷ Plain sign.OpenParen ∷ spelled i (Plain sign.CloseParen ∷ rest)) r
    go zero le = absurd (omega arith)
    go (suc f) le =
        rw (test_true 7 (rank (expr e)) tight)
        (within_is b (height (expr e)) _ _ (omega arith)
        ∙ selected_index j next (expr e) v.name (λ a. more j next f b n a) (spelled i (Plain sign.CloseParen ∷ rest)) two
        ∙ rw (law i 0 (Plain sign.CloseParen ∷ rest) (omega arith) (omega arith) (omega arith) formed' (omega arith) (omega arith)
        (λ next' f. ends j next' f (b - 1) 0 (expr i) (Plain sign.CloseParen ∷ rest) tt))
        (goes f (omega arith)))
operand_again j next (Negate e) b n rest r law wide (tight, formed) low free goes =
    within_is b 0 _ _ (omega arith)
    ∙ rw (law e 6 rest (omega arith) (omega arith) tight formed (omega arith) (omega arith) (λ next' f. stops j next' f (b - 1) 6 (expr e) rest ((gap rest).0 free) (omega arith)))
    (goes b (omega arith))
operand_again j next (Not e) b n rest r law wide (tight, formed) low free goes =
    rw (test_true n 2 wide)
    (within_is b 0 _ _ (omega arith)
    ∙ rw (law e 2 rest (omega arith) (omega arith) tight formed (omega arith) (omega arith) (λ next' f. stops j next' f (b - 1) 2 (expr e) rest ((gap rest).1 free) (omega arith)))
    (goes b (omega arith)))
operand_again j next (Binary op x y) b n rest r law wide (left, right, formed, formed') low free goes =
    let left_op : level op ≤ loosest_left op = level_left op in
    operand_again j next x b n (Operator op ∷ spelled y rest) r law (omega arith) formed (omega arith) (omega arith) go
  where
    go : Goes j next b n (expr x) (Operator op ∷ spelled y rest) r
    go zero le = absurd (omega arith)
    go (suc f) le =
        let low_op : level op ≤ 5 = level_small op in
        rw (test_true n (level op) wide, test_true (loosest_left op) (rank (expr x)) left)
        (within_is b (height (expr x)) _ _ (omega arith)
        ∙ rw (law y (suc (level op)) rest (omega arith) (omega arith) (omega arith) formed' (omega arith) (omega arith)
        (λ next' f. stops j next' f (b - 1) (suc (level op)) (expr y) rest (omega arith) (omega arith)))
        (goes f (omega arith)))

never_again : (j : ℕ) (next : ℕ → List Lexeme → Read tree.Expr) → NextAgain j next 0
never_again j next e m rest some small wide formed low free end = absurd (omega arith)

pub read_again : (j b : ℕ) (e : Expr) (n : ℕ) (rest : List Lexeme) (r : Read tree.Expr) → n ≤ rank (expr e) → IsFormed j (expr e) → height (expr e) ≤ b → binds rest ≤ rank (expr e) →
    Goes j (deeper j b) b n (expr e) rest r → read j b n (spelled e rest) ≡ r
unfolding read
read_again j zero e n rest r wide formed low free goes = operand_again j (λ m. nothing) e 0 n rest r (never_again j (λ m. nothing)) wide formed low free goes
read_again j (suc c) e n rest r wide formed low free goes =
    operand_again j (read j c) e (suc c) n rest r
    (λ e m rest some small wide formed low free end.
    let is : suc c - 1 ≡ c = omega arith in
    read_again j c e m rest (Got (expr e) rest) wide formed (omega arith) free (λ f le. subst (λ k. more j (deeper j c) f k m (expr e) rest ≡ Got (expr e) rest) is (end (deeper j c) f)))
    wide formed low free goes

deeper_again : (j b : ℕ) → NextAgain j (deeper j b) b
deeper_again j zero e m rest some small wide formed low free end = absurd (omega arith)
deeper_again j (suc c) e m rest some small wide formed low free end =
    let is : suc c - 1 ≡ c = omega arith in
    read_again j c e m rest (Got (expr e) rest) wide formed (omega arith) free (λ f le. subst (λ k. more j (deeper j c) f k m (expr e) rest ≡ Got (expr e) rest) is (end (deeper j c) f))

-- an expression is read again where no operator, no dot and no `(` stands behind it
pub again : (j b : ℕ) (e : Expr) (rest : List Lexeme) → IsFormed j (expr e) → height (expr e) ≤ b → Ends rest → read j b 0 (spelled e rest) ≡ Got (expr e) rest
again j b e rest formed low end =
    let none : binds rest ≡ 0 = ends_binds rest end in
    read_again j b e 0 rest (Got (expr e) rest) (omega arith) formed low (omega arith) (λ f le. ends j (deeper j b) f b 0 (expr e) rest end)

abbrev pub first_name : Expr → Label
first_name (Name x) = x
first_name (Field e x) = first_name e
first_name (Indexed e x i) = first_name e
first_name e = record { line = 0; name = [] }

-- the tokens of a place behind its first name
abbrev pub dots : Expr → List Lexeme → List Lexeme
dots (Field e x) rest = dots e (Plain sign.Dot ∷ token.Name x ∷ rest)
dots (Indexed e x i) rest = dots e (Plain sign.Dot ∷ token.Name x ∷ Plain sign.OpenParen ∷ spelled i (Plain sign.CloseParen ∷ rest))
dots e rest = rest

pub place_spelled : (j : ℕ) (e : Expr) (rest : List Lexeme) → IsPlace j (expr e) → spelled e rest ≡ token.Name (first_name e) ∷ dots e rest
place_spelled j (Name x) rest p = refl
place_spelled j (Field e x) rest p = place_spelled j e (Plain sign.Dot ∷ token.Name x ∷ rest) p
place_spelled j (Indexed e x i) rest (two, p, q) = place_spelled j e (Plain sign.Dot ∷ token.Name x ∷ Plain sign.OpenParen ∷ spelled i (Plain sign.CloseParen ∷ rest)) p
place_spelled j e rest p = absurd p

place_rank : (j : ℕ) (e : tree.Expr) → IsPlace j e → nat_le 7 (rank e) ≡ true
place_rank j (tree.Name x) p = refl
place_rank j (tree.Field e x) p = refl
place_rank j (tree.Indexed e x i) p = refl
place_rank j e p = absurd p

dots_again : (j : ℕ) (next : ℕ → List Lexeme → Read tree.Expr) (e : Expr) (b : ℕ) (rest : List Lexeme) (r : Read tree.Expr) → NextAgain j next b
    → IsPlace j (expr e) → height (expr e) ≤ b → binds rest ≤ 7 →
    Goes j next b 7 (expr e) rest r → more j next b b 7 (tree.Name (first_name e).name) (dots e rest) ≡ r
unfolding more
dots_again j next (Name x) b rest r law p low free goes = goes b (omega arith)
dots_again j next (Field e x) b rest r law p low free goes = dots_again j next e b (Plain sign.Dot ∷ token.Name x ∷ rest) r law p (omega arith) (omega arith) go
  where
    go : Goes j next b 7 (expr e) (Plain sign.Dot ∷ token.Name x ∷ rest) r
    go zero le = absurd (omega arith)
    go (suc f) le =
        rw (place_rank j (expr e) p)
        (within_is b (height (expr e)) _ _ (omega arith) ∙ selected_field j next (expr e) x.name (λ a. more j next f b 7 a) rest free ∙ goes f (omega arith))
dots_again j next (Indexed e x i) b rest r law (two, p, formed) low free goes =
    dots_again j next e b (Plain sign.Dot ∷ token.Name x ∷ Plain sign.OpenParen ∷ spelled i (Plain sign.CloseParen ∷ rest)) r law p (omega arith) (omega arith) go
  where
    go : Goes j next b 7 (expr e) (Plain sign.Dot ∷ token.Name x ∷ Plain sign.OpenParen ∷ spelled i (Plain sign.CloseParen ∷ rest)) r
    go zero le = absurd (omega arith)
    go (suc f) le =
        rw (place_rank j (expr e) p)
        (within_is b (height (expr e)) _ _ (omega arith)
        ∙ selected_index j next (expr e) x.name (λ a. more j next f b 7 a) (spelled i (Plain sign.CloseParen ∷ rest)) two
        ∙ rw (law i 0 (Plain sign.CloseParen ∷ rest) (omega arith) (omega arith) (omega arith) formed (omega arith) (omega arith)
        (λ next' f. ends j next' f (b - 1) 0 (expr i) (Plain sign.CloseParen ∷ rest) tt))
        (goes f (omega arith)))
dots_again j next e b rest r law p low free goes = absurd p

pub place_again : (j b : ℕ) (e : Expr) (rest : List Lexeme) → IsPlace j (expr e) → height (expr e) ≤ b → Ends rest → going j b 7 (tree.Name (first_name e).name) (dots e rest) ≡ Got (expr e) rest
unfolding going
place_again j b e rest p low end =
    let none : binds rest ≡ 0 = ends_binds rest end in
    dots_again j (deeper j b) e b rest (Got (expr e) rest) (deeper_again j b) p low (omega arith) (λ f le. ends j (deeper j b) f b 7 (expr e) rest end)
