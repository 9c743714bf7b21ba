-- The spelling of a formed statement or block of the language j is read again.
use Rattle.std.specs.Prelude.{◌≡◌, ℕ, ◌≤◌, ◌<◌, ◌-◌, Bool, true, false, List, [], ◌∷◌, map, Option, Some, None}
use Rattle.std.proofs.Common.{suc, zero, refl, sym, ap, ◌∙◌, arith}
use Rattle.pst_base.specs.declared.names.Op.TheVariants as op
use Rattle.pst_grammar.specs.Syntax as tree
use Rattle.pst_grammar.specs.Syntax.{Phrase, Phrases}
use Rattle.pst_grammar.specs.declared.lexeme.Label.{Label}
use Rattle.pst_grammar.specs.declared.lexeme.Sign.TheVariants as sign
use Rattle.pst_grammar.specs.declared.lexeme.Lead.TheVariants as lead
use Rattle.pst_grammar.specs.Lexemes as token
use Rattle.pst_grammar.specs.Lexemes.{Lexeme, Plain, Leading, Operator}
use Rattle.pst_grammar.specs.Depth.{height, greatest}
use Rattle.pst_grammar.specs.Forms.{IsFormed, IsPlace, Each}
use Rattle.pst_grammar.specs.Spelling.{Expr, Number, Null, Name, Parens, Field, Indexed, Negate, Not, Binary, expr, spelled, each, Statement, New, Call, Result}
use Rattle.pst_grammar.specs.Spelling.{Write, Print, If, Either, While, Return, Block, Empty, Then, place_line, line_of, phrase, phrases, spelled_call}
use Rattle.pst_grammar.specs.Spelling.{spelled_statement, spelled_block}
use Rattle.pst_grammar.specs.Spelling as spelling
use Rattle.pst_grammar.specs.Reader.{Read, Got, and_then, is, after, within}
use Rattle.pst_grammar.specs.Reading.{read, nothing}
use Rattle.pst_grammar.specs.Statements.{ended, arguments, call, written, set, valued, assigned, returned, braced, choice, on_line, statement, starts, block_of}
use Rattle.pst_grammar.specs.Statements.{block, reading_statement, reading_block}
use Rattle.pst_grammar.proofs.ReaderLaws.{is_true}
use Rattle.pst_grammar.proofs.ReadLaw.{Fits, expression, read_good}
use Rattle.pst_grammar.proofs.Many.{Shortens, shortens, comma, comma_good, comma_front, many_again, listed_again, NoStart}
use Rattle.pst_grammar.proofs.Again.{again, place_again, place_spelled, first_name, dots, test_true}
use Rattle.pst_grammar.proofs.StatementLaw.{FitsStatement, FitsBlock, stated, reading_statement_law, statement_front}

-- whether an expression begins with the token
abbrev starts_expression : Lexeme → Bool
starts_expression (token.Number v) = true
starts_expression (token.Name x) = true
starts_expression (Operator op.Sub) = true
starts_expression (Plain sign.Null) = true
starts_expression (Plain sign.OpenParen) = true
starts_expression (Plain sign.Not) = true
starts_expression t = false

expression_front : (e : Expr) (x : List Lexeme) → (t : Lexeme) × (v : List Lexeme) × (spelled e x ≡ t ∷ v) × (starts_expression t ≡ true)
expression_front (Number v) x = (token.Number v, x, refl, refl)
expression_front Null x = (Plain sign.Null, x, refl, refl)
expression_front (Name y) x = (token.Name y, x, refl, refl)
expression_front (Parens e) x = (Plain sign.OpenParen, _, refl, refl)
expression_front (Field e y) x = expression_front e (Plain sign.Dot ∷ token.Name y ∷ x)
expression_front (Indexed e y i) x = expression_front e (Plain sign.Dot ∷ token.Name y ∷ Plain sign.OpenParen ∷ spelled i (Plain sign.CloseParen ∷ x))
expression_front (Negate e) x = (Operator op.Sub, _, refl, refl)
expression_front (Not e) x = (Plain sign.Not, _, refl, refl)
expression_front (Binary o l r) x = expression_front l (Operator o ∷ spelled r x)

no_close : (t : Lexeme) → starts_expression t ≡ true → is sign.CloseParen t ≡ false
no_close (Plain sign.CloseParen) e = cc
no_close t e = refl

set_other : (j h : ℕ) (x : List ℕ) (t : Lexeme) (ts : List Lexeme) → starts_expression t ≡ true → set j h x (t ∷ ts) ≡ written j h (tree.Name x) (t ∷ ts)
set_other j h x (Plain sign.New) ts e = cc
set_other j h x (Leading lead.Call line) ts e = cc
set_other j h x t ts e = refl

returned_other : (j h : ℕ) (t : Lexeme) (ts : List Lexeme) → starts_expression t ≡ true → returned j h (t ∷ ts) ≡ and_then (ended j h (t ∷ ts)) (λ e. Got (tree.Return (Some e)))
returned_other j h (Plain sign.Semicolon) ts e = cc
returned_other j h t ts e = refl

ended_again : (j h : ℕ) (e : Expr) (rest : List Lexeme) → IsFormed j (expr e) → height (expr e) ≤ h → ended j h (spelling.ended e rest) ≡ Got (expr e) rest
ended_again j h e rest formed low = rw (again j h e (Plain sign.Semicolon ∷ rest) formed low tt) refl

written_again : (j h : ℕ) (a : tree.Expr) (e : Expr) (rest : List Lexeme) → IsFormed j (expr e) → height (expr e) ≤ h → written j h a (spelling.ended e rest) ≡ Got (tree.Write a (expr e)) rest
written_again j h a e rest formed low = ap (λ r. and_then r (λ e. Got (tree.Write a e))) (ended_again j h e rest formed low)

set_again : (j h : ℕ) (x : List ℕ) (e : Expr) (rest : List Lexeme) → IsFormed j (expr e) → height (expr e) ≤ h → set j h x (spelling.ended e rest) ≡ Got (tree.Write (tree.Name x) (expr e)) rest
set_again j h x e rest formed low =
    let (t, v, is', st) = expression_front e (Plain sign.Semicolon ∷ rest) in
    ap (set j h x) is' ∙ set_other j h x t v st ∙ ap (written j h (tree.Name x)) (sym is') ∙ written_again j h (tree.Name x) e rest formed low

valued_again : (j h : ℕ) (a e : Expr) (rest : List Lexeme) → IsPlace j (expr a) → IsFormed j (expr e) → height (expr e) ≤ h
    → valued j h (expr a) (spelling.ended e rest) ≡ Got (tree.Write (expr a) (expr e)) rest
valued_again j h (Name x) e rest is formed low = set_again j h x.name e rest formed low
valued_again j h (Field a x) e rest is formed low = written_again j h (expr (Field a x)) e rest formed low
valued_again j h (Indexed a x i) e rest is formed low = written_again j h (expr (Indexed a x i)) e rest formed low
valued_again j h a e rest is formed low = absurd is

returned_again : (j h : ℕ) (e : Expr) (rest : List Lexeme) → IsFormed j (expr e) → height (expr e) ≤ h → returned j h (spelling.ended e rest) ≡ Got (tree.Return (Some (expr e))) rest
returned_again j h e rest formed low =
    let (t, v, is', st) = expression_front e (Plain sign.Semicolon ∷ rest) in
    ap (returned j h) is' ∙ returned_other j h t v st ∙ ap (λ z. and_then (ended j h z) (λ e. Got (tree.Return (Some e)))) (sym is')
    ∙ ap (λ r. and_then r (λ e. Got (tree.Return (Some e)))) (ended_again j h e rest formed low)

-- ---- calls

pub argument_short : (j h : ℕ) → Shortens (after sign.Comma (read j h 0))
argument_short j h = shortens (comma (expression j 0 h)) (is sign.Comma) (after sign.Comma (read j h 0)) (comma_front spelled (Fits j 0 h))
    (comma_good (expression j 0 h) (read j h 0) (read_good j h)).law

each_fits_back : (j h : ℕ) (l : List Expr) → Each (IsFormed j) (map expr l) → greatest height (map expr l) ≤ h → Each (Fits j 0 h) l
each_fits_back j h [] q low = tt
each_fits_back j h (e ∷ l) (q, q') low = ((omega arith, q, omega arith), each_fits_back j h l q' (omega arith))

argument_again : (j h : ℕ) (e : Expr) (t : Lexeme) (y : List Lexeme) → Fits j 0 h e → is sign.Comma t ≡ true → read j h 0 (spelled e (t ∷ y)) ≡ Got (expr e) (t ∷ y)
argument_again j h e t y (r, formed, low) comma =
    rw (is_true sign.Comma t comma) (again j h e (Plain sign.Comma ∷ y) formed low tt)

arguments_again : (j h : ℕ) (es : List Expr) (rest : List Lexeme) → Each (IsFormed j) (map expr es) → greatest height (map expr es) ≤ h →
    arguments j h (spelling.listed spelled es rest) ≡ Got (map expr es) rest
arguments_again j h es rest formed low =
    listed_again (expression j 0 h) (read j h 0) (Fits j 0 h) (argument_short j h)
    (λ e x q. let (t, v, is', st) = expression_front e x in (t, v, is', no_close t st))
    (λ e t y q comma. argument_again j h e t y q comma)
    (λ e y (r, formed, low). again j h e (Plain sign.CloseParen ∷ y) formed low tt)
    es rest (each_fits_back j h es formed low)

call_again : (j h : ℕ) (r : Option (List ℕ)) (p : Label) (es : List Expr) (rest : List Lexeme) → Each (IsFormed j) (map expr es) → greatest height (map expr es) ≤ h →
    call j h r (spelled_call p es rest) ≡ Got (tree.Call r p.name (map expr es)) rest
call_again j h r p es rest formed low = rw (arguments_again j h es (Plain sign.Semicolon ∷ rest) formed low) refl

-- ---- statements

-- no `else` stands there
abbrev pub NoElse : List Lexeme → Type 0
NoElse (Plain sign.Else ∷ ts) = ⊥
NoElse ts = Unit {0}

choice_none : (inner : List Lexeme → Read Phrases) (e : tree.Expr) (b : Phrases) (rest : List Lexeme) → NoElse rest → choice inner e b rest ≡ Got (tree.If e b) rest
choice_none inner e b [] none = refl
choice_none inner e b (Plain sign.Else ∷ ts) none = absurd none
choice_none inner e b (t ∷ ts) none = refl

within_is : {A : Type 0} (b h : ℕ) (place : List Lexeme) (r : Read A) → h < b → within h b place r ≡ r
within_is b h place r lt = rw (test_true (suc h) b lt) refl

-- blocks one level deeper are read again in front of a `}`
abbrev InnerAgain : (j : ℕ) → (List Lexeme → Read Phrases) → (h d : ℕ) → Type 0
InnerAgain j inner h d = 0 < d → (b : Block) (rest : List Lexeme) → FitsBlock j h (d - 1) b → inner (spelled_block b (Plain sign.CloseBrace ∷ rest)) ≡ Got (phrases b) (Plain sign.CloseBrace ∷ rest)

braced_again : (j : ℕ) (inner : List Lexeme → Read Phrases) (h d : ℕ) (b : Block) (rest : List Lexeme) → InnerAgain j inner h d → 0 < d → FitsBlock j h (d - 1) b →
    braced inner (Plain sign.OpenBrace ∷ spelled_block b (Plain sign.CloseBrace ∷ rest)) ≡ Got (phrases b) rest
braced_again j inner h d b rest law pos fits = rw (law pos b rest fits) refl

first_line : (j : ℕ) (a : Expr) → IsPlace j (expr a) → place_line a ≡ (first_name a).line
first_line j (Name x) is = refl
first_line j (Field a x) is = first_line j a is
first_line j (Indexed a x i) (two, is, q) = first_line j a is
first_line j a is = absurd is

assigned_again : (j h : ℕ) (a e : Expr) (rest : List Lexeme) → IsPlace j (expr a) → height (expr a) ≤ h → IsFormed j (expr e) → height (expr e) ≤ h →
    assigned j h (first_name a).name (dots a (Plain sign.Assign ∷ spelling.ended e rest)) ≡ Got (tree.Write (expr a) (expr e)) rest
assigned_again j h a e rest is low formed low' =
    ap (λ r. and_then r (λ place. after sign.Assign (valued j h place))) (place_again j h a (Plain sign.Assign ∷ spelling.ended e rest) is low tt)
    ∙ valued_again j h a e rest is formed low'

pub statement_again : (j : ℕ) (inner : List Lexeme → Read Phrases) (h d : ℕ) (s : Statement) (rest : List Lexeme) → InnerAgain j inner h d → FitsStatement j h d s → NoElse rest →
    statement j inner h d (spelled_statement s rest) ≡ Got (line_of s, phrase s) rest
statement_again j inner h d (New x ty) rest law (formed, low, shallow) none =
    rw (place_again j h (Name x) (Plain sign.Assign ∷ Plain sign.New ∷ token.Name ty ∷ Plain sign.Semicolon ∷ rest) tt (omega arith) tt) refl
statement_again j inner h d (Call line p es) rest law (formed, low, shallow) none = ap (on_line line) (call_again j h None p es rest formed low)
statement_again j inner h d (Result x line p es) rest law (formed, low, shallow) none =
    rw (place_again j h (Name x) (Plain sign.Assign ∷ Leading lead.Call line ∷ spelled_call p es rest) tt (omega arith) tt)
    (ap (on_line x.line) (call_again j h (Some x.name) p es rest formed low))
statement_again j inner h d (Write a e) rest law ((is, formed), low, shallow) none =
    ap (statement j inner h d) (place_spelled j a (Plain sign.Assign ∷ spelling.ended e rest) is)
    ∙ ap (on_line (first_name a).line) (assigned_again j h a e rest is (omega arith) formed (omega arith))
    ∙ ap (λ line. Got (line, tree.Write (expr a) (expr e)) rest) (sym (first_line j a is))
statement_again j inner h d (Print line e) rest law (formed, low, shallow) none = rw (ended_again j h e rest formed low) refl
statement_again j inner h d (If line e b) rest law ((formed, formed'), low, shallow) none =
    ap (on_line line) {y = Got (tree.If (expr e) (phrases b)) rest}
    (within_is d 0 _ _ (omega arith)
    ∙ rw (
      again j h e (Plain sign.OpenBrace ∷ spelled_block b (Plain sign.CloseBrace ∷ rest)) formed (omega arith) tt,
      braced_again j inner h d b rest law (omega arith) (formed', omega arith, omega arith),
    )
    (choice_none inner (expr e) (phrases b) rest none))
statement_again j inner h d (Either line e b c) rest law ((formed, formed', formed''), low, shallow) none =
    ap (on_line line) {y = Got (tree.Either (expr e) (phrases b) (phrases c)) rest}
    (within_is d 0 _ _ (omega arith)
    ∙ rw (
      again j h e (Plain sign.OpenBrace ∷ spelled_block b (Plain sign.CloseBrace ∷ Plain sign.Else ∷ Plain sign.OpenBrace ∷ spelled_block c (Plain sign.CloseBrace ∷ rest))) formed (omega arith) tt,
      braced_again j inner h d b (Plain sign.Else ∷ Plain sign.OpenBrace ∷ spelled_block c (Plain sign.CloseBrace ∷ rest)) law (omega arith) (formed', omega arith, omega arith),
      braced_again j inner h d c rest law (omega arith) (formed'', omega arith, omega arith),
    )
    refl)
statement_again j inner h d (While line e b) rest law ((formed, formed'), low, shallow) none =
    ap (on_line line) {y = Got (tree.While (expr e) (phrases b)) rest}
    (within_is d 0 _ _ (omega arith)
    ∙ rw (
      again j h e (Plain sign.OpenBrace ∷ spelled_block b (Plain sign.CloseBrace ∷ rest)) formed (omega arith) tt,
      braced_again j inner h d b rest law (omega arith) (formed', omega arith, omega arith),
    )
    refl)
statement_again j inner h d (Return line None) rest law fits none = refl
statement_again j inner h d (Return line (Some e)) rest law (formed, low, shallow) none = ap (on_line line) (returned_again j h e rest formed low)

-- ---- blocks

-- the statements of a block
abbrev unblocked : Block → List Statement
unblocked Empty = []
unblocked (Then s b) = s ∷ unblocked b

spelled_unblocked : (b : Block) (x : List Lexeme) → spelled_block b x ≡ each spelled_statement (unblocked b) x
spelled_unblocked Empty x = refl
spelled_unblocked (Then s b) x = ap (spelled_statement s) (spelled_unblocked b x)

phrases_unblocked : (b : Block) → block_of (map (λ s. (line_of s, phrase s)) (unblocked b)) ≡ phrases b
phrases_unblocked Empty = refl
phrases_unblocked (Then s b) = ap (λ c. tree.Then (line_of s) (phrase s) c) (phrases_unblocked b)

fits_unblocked : (j h d : ℕ) (b : Block) → FitsBlock j h d b → Each (FitsStatement j h d) (unblocked b)
fits_unblocked j h d Empty fits = tt
fits_unblocked j h d (Then s b) ((q, q'), low, shallow) = ((q, omega arith, omega arith), fits_unblocked j h d b (q', omega arith, omega arith))

start_no_else : (t : Lexeme) (v : List Lexeme) → starts t ≡ true → NoElse (t ∷ v)
start_no_else (Plain sign.Else) v e = cc
start_no_else t v e = tt

pub statement_short : (j h d : ℕ) → Shortens (reading_statement j h d)
statement_short j h d = shortens (stated j h d) starts (reading_statement j h d) (λ s (q, low, shallow) x. statement_front j s q x) (λ ts. reading_statement_law j h d ts)

block_again : (j h d : ℕ) (b : Block) (x : List Lexeme) → ((s : Statement) (y : List Lexeme) → FitsStatement j h d s → NoElse y
    → reading_statement j h d (spelled_statement s y) ≡ Got (line_of s, phrase s) y) →
    FitsBlock j h d b → NoElse x → NoStart starts x → reading_block j h d (spelled_block b x) ≡ Got (phrases b) x
block_again j h d b x part fits none end =
    ap (reading_block j h d) (spelled_unblocked b x)
    ∙ ap (λ r. and_then r (λ ss. Got (block_of ss)))
    (many_again (stated j h d) starts (reading_statement j h d) (FitsStatement j h d) NoElse (statement_short j h d) (λ s (q, low, shallow) x. statement_front j s q x) start_no_else
    (λ s y q f. part s y q f) (unblocked b) x (fits_unblocked j h d b fits) none end)
    ∙ ap (λ c. Got c x) (phrases_unblocked b)

reading_statement_again : (j h d : ℕ) (s : Statement) (rest : List Lexeme) → FitsStatement j h d s → NoElse rest → reading_statement j h d (spelled_statement s rest) ≡ Got (line_of s, phrase s) rest
unfolding reading_statement
reading_statement_again j h zero s rest fits none = statement_again j nothing h 0 s rest (λ pos b rest fits. absurd (omega arith)) fits none
reading_statement_again j h (suc c) s rest fits none =
    statement_again j (block (reading_statement j h c)) h (suc c) s rest
    (λ pos b rest (formed, low, shallow). block_again j h c b (Plain sign.CloseBrace ∷ rest) (λ s y q f. reading_statement_again j h c s y q f) (formed, low, omega arith) tt refl)
    fits none

pub reading_block_again : (j h d : ℕ) (b : Block) (x : List Lexeme) → FitsBlock j h d b → NoElse x → NoStart starts x → reading_block j h d (spelled_block b x) ≡ Got (phrases b) x
reading_block_again j h d b x fits none end = block_again j h d b x (λ s y q f. reading_statement_again j h d s y q f) fits none end
