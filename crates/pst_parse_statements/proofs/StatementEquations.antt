-- Equations of reading statements, as the code takes its steps.
use Rattle.std.specs.Prelude.{◌≡◌, ℕ, ◌≤◌, ◌<◌, ◌-◌, List, [], ◌∷◌, map}
use Rattle.std.proofs.Common.{suc, zero, refl, sym, ap, ◌∙◌, arith}
use Rattle.pst_grammar.specs.declared.statement.Statement as code
use Rattle.pst_grammar.specs.declared.statement.Form.{Form}
use Rattle.pst_grammar.specs.declared.statement.Block.{Block-F as Block-G, roll-Block, out-roll-Block, Block', Row_of-Statement, end_of-Statement}
use Rattle.pst_grammar.specs.declared.statement.Block.{more_of-Statement, items-the_row-Statement, items_shown-the_row-Statement-0, outs-Block'}
use Rattle.pst_grammar.specs.declared.statement.Block as coded
use Rattle.pst_grammar.specs.View.{phrase_of, phrases_of, row_of}
use Rattle.pst_grammar.specs.Syntax as tree
use Rattle.pst_grammar.specs.Syntax.{Expr, Phrases}
use Rattle.pst_grammar.specs.declared.lexeme.Label.{Label}
use Rattle.pst_parse_expressions.specs.declared.lexeme.Lexeme as lexed
use Rattle.pst_parse_expressions.specs.declared.lexeme.Lexeme.TheVariants as seen
use Rattle.pst_grammar.specs.declared.lexeme.Sign.TheVariants as sign
use Rattle.pst_grammar.specs.declared.lexeme.Lead.{Lead}
use Rattle.pst_grammar.specs.declared.lexeme.Lead.TheVariants as lead
use Rattle.pst_grammar.specs.Lexemes.{Lexeme, Name, Plain, Leading}
use Rattle.pst_grammar.specs.Reader.{Read, Got, Bad, Unexpected, TooDeep, and_then, within}
use Rattle.pst_grammar.specs.Reading.{read}
use Rattle.pst_grammar.specs.Statements.{assigned, braced, choice, led, on_line, statement, block_of, reading_statement, reading_block, inner}
use Rattle.pst_parse_expressions.specs.View.{as_read, Lacks}
use Rattle.pst_parse_statements.specs.View.{stated_of}
use Rattle.pst_grammar.proofs.Again.{test_true, test_false}

-- a statement by its first token
statement_is : (j h d : ℕ) (ts : List Lexeme) → reading_statement j h d ts ≡ statement j (inner j h d) h d ts
unfolding reading_statement
statement_is j h zero ts = refl
statement_is j h (suc c) ts = refl

pub statement-none : (j h d : ℕ) (ts : List Lexeme) → ts ≡ [] → reading_statement j h d ts ≡ Bad Unexpected ts
statement-none j h d ts e = rw e (statement_is j h d [])

pub statement-name : (j h d : ℕ) (x : Label) (ts : List Lexeme) → reading_statement j h d (Name x ∷ ts) ≡ on_line x.line (assigned j h x.name ts)
statement-name j h d x ts = statement_is j h d (Name x ∷ ts)

pub statement-leading : (j h d : ℕ) (l : Lead) (line : ℕ) (ts : List Lexeme) → reading_statement j h d (Leading l line ∷ ts) ≡ on_line line (led j (inner j h d) h d l (Leading l line ∷ ts) ts)
statement-leading j h d l line ts = statement_is j h d (Leading l line ∷ ts)

pub statement-other : (j h d : ℕ) (l : lexed.Lexeme) (ts : List Lexeme) → ((line : ℕ) (x : _) → l ≡ seen.Name line x → ⊥) → ((k : Lead) (line : ℕ) → l ≡ seen.Leading k line → ⊥) →
    reading_statement j h d (as_read l ∷ ts) ≡ Bad Unexpected (as_read l ∷ ts)
statement-other j h d (seen.Name line x) ts never nor = absurd (never line x refl)
statement-other j h d (seen.Leading k line) ts never nor = absurd (nor k line refl)
statement-other j h d l ts never nor = statement_is j h d (as_read l ∷ ts)

-- a block one level deeper
inner_is : (j h d : ℕ) → 0 < d → inner j h d ≡ reading_block j h (d - 1)
inner_is j h zero pos = absurd (omega arith)
inner_is j h (suc c) pos = let e : suc c - 1 ≡ c = omega arith in rw e refl

pub within_in : {A : Type 0} (h b : ℕ) (place : List Lexeme) (r : Read A) → h < b → within h b place r ≡ r
within_in h b place r lt = rw (test_true (suc h) b lt) refl

pub within_deep : {A : Type 0} (h b : ℕ) (place : List Lexeme) (r : Read A) → b ≤ h → within h b place r ≡ Bad TooDeep place
within_deep h b place r le = rw (test_false (suc h) b (omega arith)) refl

-- what stands inside is one level deeper
pub led-if : (j h d : ℕ) (place ts : List Lexeme) →
    led j (inner j h d) h d lead.If place ts ≡ and_then (within 0 d place (read j h 0 ts)) (λ e rest. and_then (braced (reading_block j h (d - 1)) rest) (choice (reading_block j h (d - 1)) e))
led-if j h zero place ts = refl
led-if j h (suc c) place ts =
    rw (test_true 1 (suc c) (omega arith)) (ap (λ i. and_then (read j h 0 ts) (λ e rest. and_then (braced i rest) (choice i e))) (inner_is j h (suc c) (omega arith)))

pub led-while : (j h d : ℕ) (place ts : List Lexeme) →
    led j (inner j h d) h d lead.While place ts ≡ and_then (within 0 d place (read j h 0 ts)) (λ e rest. and_then (braced (reading_block j h (d - 1)) rest) (λ b. Got (tree.While e b)))
led-while j h zero place ts = refl
led-while j h (suc c) place ts =
    rw (test_true 1 (suc c) (omega arith)) (ap (λ i. and_then (read j h 0 ts) (λ e rest. and_then (braced i rest) (λ b. Got (tree.While e b)))) (inner_is j h (suc c) (omega arith)))

pub choice_none : (i : List Lexeme → Read Phrases) (e : Expr) (b : Phrases) (ts : List Lexeme) → Lacks sign.Else ts → choice i e b ts ≡ Got (tree.If e b) ts
choice_none i e b [] none = refl
choice_none i e b (Plain sign.Else ∷ ts) none = cc
choice_none i e b (t ∷ ts) none = refl

pub choice_else : (i : List Lexeme → Read Phrases) (e : Expr) (b : Phrases) (ts rest : List Lexeme) → ts ≡ Plain sign.Else ∷ rest
    → choice i e b ts ≡ and_then (braced i rest) (λ c. Got (tree.Either e b c))
choice_else i e b ts rest at = rw at refl

-- ---- the code's block

row_is_list : {m : _} (row : Row_of-Statement m) → row_of row ≡ block_of (map stated_of (items-the_row-Statement m row))
row_is_list end_of-Statement = refl
row_is_list (more_of-Statement line form rest) = ap (λ b. tree.Then line (phrase_of form) b) (row_is_list rest)

pub block_is_list : (b : coded.Block) → phrases_of b ≡ block_of (map stated_of (coded.out-Block b).items.items)
block_is_list (Block' shape row) = row_is_list row ∙ sym (ap (λ l. block_of (map stated_of l)) (ap (λ o. o.items.items) (outs-Block' shape row) ∙ items_shown-the_row-Statement-0 shape row))

-- the code's block of a vector
pub made_block : (x : Block-G Form coded.Block code.Statement) → phrases_of (roll-Block x) ≡ block_of (map stated_of x.items.items)
made_block x = block_is_list (roll-Block x) ∙ ap (λ o. block_of (map stated_of o.items.items)) (out-roll-Block x)

pub ruleset statement_equations = (statement-none, statement-name, statement-leading, led-if, led-while, choice_none, choice_else)

pub ruleset condition_equations = (within_in, within_deep)
