-- Reading an expression, by precedence climbing, in the language l, which is 1 or 2.
use Rattle.std.specs.Prelude.{ℕ, Bool, cond, ◌&&◌, nat_le, nat_eq, List, ◌∷◌}
use Rattle.std.proofs.Common.{suc, zero}
use Rattle.pst_base.specs.declared.names.Op.{Op}
use Rattle.pst_base.specs.declared.names.Op.TheVariants as op
use Rattle.pst_grammar.specs.Syntax as tree
use Rattle.pst_grammar.specs.Syntax.{Expr}
use Rattle.pst_grammar.specs.declared.lexeme.Sign.TheVariants as sign
use Rattle.pst_grammar.specs.Lexemes.{Lexeme, Name, Number, Operator, Plain}
use Rattle.pst_grammar.specs.Depth.{height}
use Rattle.pst_grammar.specs.Forms.{level, loosest_left, rank}
use Rattle.pst_grammar.specs.Reader.{Read, Got, Bad, Unexpected, TooDeep, and_then, after, label, within}

-- whether an operator goes on with the form on its left, where an operand of rank n is wanted
abbrev pub goes_on : ℕ → Expr → Op → Bool
goes_on n e op = nat_le n (level op) && nat_le (loosest_left op) (rank e)

-- What goes on behind a dot and a name: in language 2 an index may stand there, which `next` reads.
abbrev pub selected : (l : ℕ) → (ℕ → List Lexeme → Read Expr) → Expr → (x : List ℕ) → (Expr → List Lexeme → Read Expr) → List Lexeme → Read Expr
selected l next e x on (Plain sign.OpenParen ∷ ts) =
    cond (nat_eq l 2) (and_then (next 0 ts) (λ i. after sign.CloseParen (on (tree.Indexed e x i)))) (on (tree.Field e x) (Plain sign.OpenParen ∷ ts))
selected l next e x on ts = on (tree.Field e x) ts

-- What goes on after a form, of height at most b; `next` reads an operand one level deeper. A form gets higher by each step, so b steps are enough.
unfoldable pub more : (l : ℕ) → (ℕ → List Lexeme → Read Expr) → (steps b n : ℕ) → Expr → List Lexeme → Read Expr
more l next zero b n e (Operator op ∷ ts) = cond (goes_on n e op) (Bad TooDeep (Operator op ∷ ts)) (Got e (Operator op ∷ ts))
more l next zero b n e (Plain sign.Dot ∷ ts) = cond (nat_le 7 (rank e)) (Bad TooDeep (Plain sign.Dot ∷ ts)) (Got e (Plain sign.Dot ∷ ts))
more l next (suc f) b n e (Operator op ∷ ts) =
    cond (goes_on n e op)
    (within (height e) b (Operator op ∷ ts) (and_then (next (suc (level op)) ts) (λ r. more l next f b n (tree.Binary op e r))))
    (Got e (Operator op ∷ ts))
more l next (suc f) b n e (Plain sign.Dot ∷ ts) =
    cond (nat_le 7 (rank e))
    (within (height e) b (Plain sign.Dot ∷ ts) (and_then (label ts) (λ x. selected l next e x.name (λ a. more l next f b n a))))
    (Got e (Plain sign.Dot ∷ ts))
more l next f b n e ts = Got e ts

-- an operand of rank n, of height at most b
abbrev pub operand : (l : ℕ) → (ℕ → List Lexeme → Read Expr) → (b n : ℕ) → List Lexeme → Read Expr
operand l next b n (Number v ∷ ts) = more l next b b n (tree.Number v) ts
operand l next b n (Name x ∷ ts) = more l next b b n (tree.Name x.name) ts
operand l next b n (Plain sign.Null ∷ ts) = more l next b b n tree.Null ts
operand l next b n (Plain sign.OpenParen ∷ ts) =
    within 0 b (Plain sign.OpenParen ∷ ts) (and_then (next 0 ts) (λ e. after sign.CloseParen (more l next b b n (tree.Parens e))))
operand l next b n (Operator op.Sub ∷ ts) =
    within 0 b (Operator op.Sub ∷ ts) (and_then (next 6 ts) (λ e. more l next b b n (tree.Negate e)))
operand l next b n (Plain sign.Not ∷ ts) =
    cond (nat_le n 2)
    (within 0 b (Plain sign.Not ∷ ts) (and_then (next 2 ts) (λ e. more l next b b n (tree.Not e))))
    (Bad Unexpected (Plain sign.Not ∷ ts))
operand l next b n ts = Bad Unexpected ts

-- nothing may stand deeper
abbrev pub nothing : {A : Type 0} → List Lexeme → Read A
nothing ts = Bad TooDeep ts

-- an operand of rank n, of height at most b, whatever stands in it
unfoldable pub read : (l b n : ℕ) → List Lexeme → Read Expr
read l zero n ts = operand l (λ m. nothing) 0 n ts
read l (suc c) n ts = operand l (read l c) (suc c) n ts

-- what reads one level deeper
abbrev pub deeper : (l : ℕ) → ℕ → ℕ → List Lexeme → Read Expr
deeper l zero = λ m. nothing
deeper l (suc c) = read l c

-- what goes on after a form
unfoldable pub going : (l b n : ℕ) → Expr → List Lexeme → Read Expr
going l b n e ts = more l (deeper l b) b b n e ts
