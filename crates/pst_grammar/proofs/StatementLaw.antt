-- The law of reading statements and blocks, in the language j.
use Rattle.std.specs.Prelude.{◌≡◌, ℕ, ◌≤◌, ◌<◌, ◌-◌, true, List, [], ◌∷◌, map, Option, Some, None}
use Rattle.std.proofs.Common.{suc, zero, refl, sym, ap, subst, arith}
use Rattle.pst_grammar.specs.Syntax as tree
use Rattle.pst_grammar.specs.Syntax.{Phrase, Phrases}
use Rattle.pst_grammar.specs.declared.lexeme.Label.{Label}
use Rattle.pst_grammar.specs.declared.lexeme.Sign.TheVariants as sign
use Rattle.pst_grammar.specs.declared.lexeme.Lead.{Lead}
use Rattle.pst_grammar.specs.declared.lexeme.Lead.TheVariants as lead
use Rattle.pst_grammar.specs.Lexemes as token
use Rattle.pst_grammar.specs.Lexemes.{Lexeme, Plain, Leading}
use Rattle.pst_grammar.specs.Depth.{height, greatest, phrase_height, phrases_height, phrase_nesting, phrases_nesting}
use Rattle.pst_grammar.specs.Forms.{IsFormed, IsPlace, Each, IsFormedPhrase, AreFormed}
use Rattle.pst_grammar.specs.Spelling.{Expr, Null, Name, Field, Indexed, expr, spelled, each, listed, Statement, New, Call, Result, Write, Print, If, Either}
use Rattle.pst_grammar.specs.Spelling.{While, Return, Block, Empty, Then, place_line, line_of, phrase, phrases, spelled_call, spelled_statement, spelled_block}
use Rattle.pst_grammar.specs.Spelling as spelling
use Rattle.pst_grammar.specs.Reader.{Read, Got, Bad, Unexpected, TooDeep, and_then, after, many}
use Rattle.pst_grammar.specs.Reading.{read, deeper, going, nothing}
use Rattle.pst_grammar.specs.Statements.{ended, arguments, call, made, written, set, valued, assigned, returned, braced, choice, led, on_line, statement}
use Rattle.pst_grammar.specs.Statements.{starts, block_of, block, reading_statement, reading_block}
use Rattle.pst_grammar.proofs.ReaderLaws.{Construct, Begins, Lawful, Good, step_law, got_good, wrong_law, end_law, stop_law, done_law, after_good, label_good}
use Rattle.pst_grammar.proofs.ReaderLaws.{within_law, bind_good, bind_from_good, rerun_law, rerun_end}
use Rattle.pst_grammar.proofs.ReadLaw.{Fit, Fits, expression, read_good, deeper_law, place, place_law}
use Rattle.pst_grammar.proofs.Many.{list, commas, many_good, listed_good}
use Rattle.pst_grammar.proofs.Again.{place_spelled}

abbrev pub FitsStatement : (j : ℕ) → ℕ → ℕ → Statement → Type 0
FitsStatement j h d s = IsFormedPhrase j (phrase s) × (phrase_height (phrase s) ≤ h) × (phrase_nesting (phrase s) ≤ d)

abbrev pub FitsBlock : (j : ℕ) → ℕ → ℕ → Block → Type 0
FitsBlock j h d b = AreFormed j (phrases b) × (phrases_height (phrases b) ≤ h) × (phrases_nesting (phrases b) ≤ d)

-- an expression and a `;`
abbrev ended_expression : (j : ℕ) → ℕ → Construct tree.Expr
ended_expression j h = record { Lined = Expr; plain = expr; spell = spelling.ended; Fit = Fit j 0; In = Fits j 0 h }

-- a statement on a line, without it
abbrev on : (j line h d : ℕ) → Construct Phrase
on j line h d = record {
  Lined = Statement;
  plain = phrase;
  spell = spelled_statement;
  Fit = λ s. (line_of s ≡ line) × IsFormedPhrase j (phrase s);
  In = λ s. (line_of s ≡ line) × FitsStatement j h d s;
}

-- a statement with its line
abbrev pub stated : (j h d : ℕ) → Construct (ℕ × Phrase)
stated j h d = record {
  Lined = Statement;
  plain = λ s. (line_of s, phrase s);
  spell = spelled_statement;
  Fit = λ s. IsFormedPhrase j (phrase s);
  In = FitsStatement j h d;
}

abbrev pub blocks : (j h d : ℕ) → Construct Phrases
blocks j h d = record { Lined = Block; plain = phrases; spell = spelled_block; Fit = λ b. AreFormed j (phrases b); In = FitsBlock j h d }

-- a block in braces
abbrev spelled_braced : Block → List Lexeme → List Lexeme
spelled_braced b x = Plain sign.OpenBrace ∷ spelled_block b (Plain sign.CloseBrace ∷ x)

abbrev in_braces : (j h d : ℕ) → Construct Phrases
in_braces j h d = record { Lined = Block; plain = phrases; spell = spelled_braced; Fit = λ b. AreFormed j (phrases b); In = FitsBlock j h d }

ended_good : (j h : ℕ) → Good (ended_expression j h) (λ x. x) (ended j h)
ended_good j h =
    bind_good (expression j 0 h) (ended_expression j h) (λ x. x) (read j h 0) (λ e. after sign.Semicolon (Got e)) (read_good j h)
    (λ e q. after_good (ended_expression j h) (λ x. spelled e x) sign.Semicolon (Got (expr e))
    (got_good (ended_expression j h) (λ x. spelled e (Plain sign.Semicolon ∷ x)) e (expr e) refl q (λ x. refl)))
    (λ e q. (e, q, Plain sign.Semicolon ∷ [], λ x. refl))

-- ---- calls

each_fit : (j : ℕ) (l : List Expr) → Each (Fit j 0) l → Each (IsFormed j) (map expr l)
each_fit j [] q = tt
each_fit j (e ∷ l) ((r, q), q') = (q, each_fit j l q')

each_fits : (j h : ℕ) (l : List Expr) → Each (Fits j 0 h) l → Each (IsFormed j) (map expr l) × (greatest height (map expr l) ≤ h)
each_fits j h [] q = (tt, omega arith)
each_fits j h (e ∷ l) ((r, q, low), q') = let (p, low') = each_fits j h l q' in ((q, p), omega arith)

arguments_good : (j h : ℕ) → Good (commas (expression j 0 h)) (λ x. x) (arguments j h)
arguments_good j h = listed_good (expression j 0 h) (read j h 0) (λ e (r, q, low). (r, q)) (read_good j h)

call_good : (j line h d : ℕ) (pre : List Lexeme → List Lexeme) (r : Option (List ℕ)) (make : Label → List Expr → Statement) →
    ((p : Label) (es : List Expr) → phrase (make p es) ≡ tree.Call r p.name (map expr es)) → ((p : Label) (es : List Expr) → line_of (make p es) ≡ line) →
    ((p : Label) (es : List Expr) (x : List Lexeme) → spelled_statement (make p es) x ≡ pre (spelled_call p es x)) →
    Good (on j line h d) pre (call j h r)
call_good j line h d pre r make is at sp =
    label_good (on j line h d) pre (λ p. after sign.OpenParen (λ rest. and_then (arguments j h rest) (λ es. after sign.Semicolon (Got (tree.Call r p.name es)))))
    (λ p. after_good (on j line h d) (λ x. pre (token.Name p ∷ x)) sign.OpenParen (λ rest. and_then (arguments j h rest) (λ es. after sign.Semicolon (Got (tree.Call r p.name es))))
    (bind_good (commas (expression j 0 h)) (on j line h d) (λ x. pre (token.Name p ∷ Plain sign.OpenParen ∷ x)) (arguments j h)
    (λ es. after sign.Semicolon (Got (tree.Call r p.name es))) (arguments_good j h)
    (λ es q. after_good (on j line h d) (λ x. pre (token.Name p ∷ Plain sign.OpenParen ∷ listed spelled es x)) sign.Semicolon (Got (tree.Call r p.name (map expr es)))
    (got_good (on j line h d) (λ x. pre (spelled_call p es x)) (make p es) (tree.Call r p.name (map expr es)) (is p es) (at p es, ins p es q) (sp p es)))
    (λ es q. (make p es, (at p es, subst (IsFormedPhrase j) (sym (is p es)) (each_fit j es q)), Plain sign.Semicolon ∷ [], λ x. sp p es x))))
  where
    ins : (p : Label) (es : List Expr) → Each (Fits j 0 h) es → FitsStatement j h d (make p es)
    ins p es q = let (formed, low) = each_fits j h es q in
        subst (λ s. IsFormedPhrase j s × (phrase_height s ≤ h) × (phrase_nesting s ≤ d)) (sym (is p es)) (formed, low, omega arith)

-- ---- what begins with a place

written_good : (j line h d : ℕ) (a : Expr) → place_line a ≡ line → IsPlace j (expr a) → height (expr a) ≤ h →
    Good (on j line h d) (λ x. spelled a (Plain sign.Assign ∷ x)) (written j h (expr a))
written_good j line h d a at is low =
    bind_good (ended_expression j h) (on j line h d) (λ x. spelled a (Plain sign.Assign ∷ x)) (ended j h) (λ e. Got (tree.Write (expr a) e)) (ended_good j h)
    (λ e (r, q, low'). got_good (on j line h d) (λ x. spelled a (Plain sign.Assign ∷ spelling.ended e x)) (Write a e) (tree.Write (expr a) (expr e)) refl
    (at, ((is, q), omega arith, omega arith)) (λ x. refl))
    (λ e (r, q). (Write a e, (at, (is, q)), [], λ x. refl))

set_good : (j line h d : ℕ) (x : Label) → x.line ≡ line → Good (on j line h d) (λ y. token.Name x ∷ Plain sign.Assign ∷ y) (set j h x.name)
set_good j line h d x at = record { close = (writes).close; law = go }
  where
    pre : List Lexeme → List Lexeme
    pre y = token.Name x ∷ Plain sign.Assign ∷ y

    writes : Good (on j line h d) (λ y. token.Name x ∷ Plain sign.Assign ∷ y) (written j h (tree.Name x.name))
    writes = written_good j line h d (Name x) at tt (omega arith)

    makes : Good (on j line h d) (λ y. token.Name x ∷ Plain sign.Assign ∷ Plain sign.New ∷ y) (made x.name)
    makes = label_good (on j line h d) (λ y. token.Name x ∷ Plain sign.Assign ∷ Plain sign.New ∷ y) (λ ty. after sign.Semicolon (Got (tree.New x.name ty.name)))
        (λ ty. after_good (on j line h d) (λ y. token.Name x ∷ Plain sign.Assign ∷ Plain sign.New ∷ token.Name ty ∷ y) sign.Semicolon (Got (tree.New x.name ty.name))
        (got_good (on j line h d) (λ y. token.Name x ∷ Plain sign.Assign ∷ Plain sign.New ∷ token.Name ty ∷ Plain sign.Semicolon ∷ y) (New x ty) (tree.New x.name ty.name) refl
        (at, (tt, omega arith, omega arith)) (λ y. refl)))

    go : (ts : List Lexeme) → Lawful (on j line h d) (λ y. token.Name x ∷ Plain sign.Assign ∷ y) (set j h x.name) ts (set j h x.name ts)
    go [] = rerun_end (on j line h d) (λ y. token.Name x ∷ Plain sign.Assign ∷ y) (set j h x.name) (written j h (tree.Name x.name)) (written j h (tree.Name x.name) []) refl (writes.law [])
    go (Plain sign.New ∷ ts) = step_law (on j line h d) (λ y. token.Name x ∷ Plain sign.Assign ∷ y) (set j h x.name) (made x.name) (Plain sign.New) ts (made x.name ts) (λ y. refl) (makes.law ts)
    go (Leading lead.Call k ∷ ts) =
        step_law (on j line h d) (λ y. token.Name x ∷ Plain sign.Assign ∷ y) (set j h x.name) (call j h (Some x.name)) (Leading lead.Call k) ts (call j h (Some x.name) ts) (λ y. refl)
        ((call_good j line h d (λ y. token.Name x ∷ Plain sign.Assign ∷ Leading lead.Call k ∷ y) (Some x.name) (λ p es. Result x k p es) (λ p es. refl) (λ p es. at) (λ p es y. refl)).law ts)
    go (t ∷ ts) = rerun_law (on j line h d) (λ y. token.Name x ∷ Plain sign.Assign ∷ y) (set j h x.name) (written j h (tree.Name x.name)) t ts
        (written j h (tree.Name x.name) (t ∷ ts)) (λ v. refl) (writes.law (t ∷ ts))

valued_good : (j line h d : ℕ) (a : Expr) → place_line a ≡ line → IsPlace j (expr a) → height (expr a) ≤ h →
    Good (on j line h d) (λ x. spelled a (Plain sign.Assign ∷ x)) (valued j h (expr a))
valued_good j line h d (Name x) at is low = set_good j line h d x at
valued_good j line h d (Field e x) at is low = written_good j line h d (Field e x) at is low
valued_good j line h d (Indexed e x i) at is low = written_good j line h d (Indexed e x i) at is low
valued_good j line h d a at is low = absurd is

place_good : (j h : ℕ) (x : Label) → Good (place j x.line h) (λ y. token.Name x ∷ y) (going j h 7 (tree.Name x.name))
unfolding going
place_good j h x = record {
  close = (Name x, (refl, tt, omega arith), [], λ y. refl);
  law = λ ts. place_law j (deeper j h) h h x.line (Name x) ts (deeper_law j h) refl tt (omega arith);
}

assigned_good : (j h d : ℕ) (x : Label) → Good (on j x.line h d) (λ y. token.Name x ∷ y) (assigned j h x.name)
assigned_good j h d x =
    bind_from_good (place j x.line h) (on j x.line h d) (λ y. token.Name x ∷ y) (λ y. y) (going j h 7 (tree.Name x.name)) (λ a. after sign.Assign (valued j h a)) (place_good j h x)
    (λ a (at, is, low). after_good (on j x.line h d) (λ y. spelled a y) sign.Assign (valued j h (expr a)) (valued_good j x.line h d a at is low))
    (λ a (at, is). (Write a Null, (at, (is, tt)), Plain sign.Assign ∷ Plain sign.Null ∷ Plain sign.Semicolon ∷ [], λ y. refl))

-- ---- what begins with a word

returned_good : (j line h d : ℕ) → Good (on j line h d) (λ y. Leading lead.Return line ∷ y) (returned j h)
returned_good j line h d = record { close = (Return line None, (refl, (tt, omega arith, omega arith)), Plain sign.Semicolon ∷ [], λ x. refl); law = go }
  where
    gives : Good (on j line h d) (λ y. Leading lead.Return line ∷ y) (λ ts. and_then (ended j h ts) (λ e. Got (tree.Return (Some e))))
    gives =
        bind_good (ended_expression j h) (on j line h d) (λ x. Leading lead.Return line ∷ x) (ended j h) (λ e. Got (tree.Return (Some e))) (ended_good j h)
        (λ e (r, q, low). got_good (on j line h d) (λ x. Leading lead.Return line ∷ spelling.ended e x) (Return line (Some e))
        (tree.Return (Some (expr e))) refl (refl, (q, omega arith, omega arith)) (λ x. refl))
        (λ e (r, q). (Return line (Some e), (refl, q), [], λ x. refl))

    go : (ts : List Lexeme) → Lawful (on j line h d) (λ y. Leading lead.Return line ∷ y) (returned j h) ts (returned j h ts)
    go [] = rerun_end (on j line h d) (λ y. Leading lead.Return line ∷ y) (returned j h)
        (λ ts. and_then (ended j h ts) (λ e. Got (tree.Return (Some e)))) (and_then (ended j h []) (λ e. Got (tree.Return (Some e)))) refl (gives.law [])
    go (Plain sign.Semicolon ∷ ts) =
        step_law (on j line h d) (λ y. Leading lead.Return line ∷ y) (returned j h) (Got (tree.Return None)) (Plain sign.Semicolon) ts (Got (tree.Return None) ts) (λ y. refl)
        ((got_good (on j line h d) (λ x. Leading lead.Return line ∷ Plain sign.Semicolon ∷ x) (Return line None) (tree.Return None) refl (refl, (tt, omega arith, omega arith)) (λ x. refl)).law ts)
    go (t ∷ ts) = rerun_law (on j line h d) (λ y. Leading lead.Return line ∷ y) (returned j h)
        (λ ts. and_then (ended j h ts) (λ e. Got (tree.Return (Some e)))) t ts (and_then (ended j h (t ∷ ts)) (λ e. Got (tree.Return (Some e))))
        (λ v. refl) (gives.law (t ∷ ts))

printed_good : (j line h d : ℕ) → Good (on j line h d) (λ y. Leading lead.Print line ∷ y) (λ ts. and_then (ended j h ts) (λ e. Got (tree.Print e)))
printed_good j line h d =
    bind_good (ended_expression j h) (on j line h d) (λ x. Leading lead.Print line ∷ x) (ended j h) (λ e. Got (tree.Print e)) (ended_good j h)
    (λ e (r, q, low). got_good (on j line h d) (λ x. Leading lead.Print line ∷ spelling.ended e x) (Print line e) (tree.Print (expr e)) refl (refl, (q, omega arith, omega arith)) (λ x. refl))
    (λ e (r, q). (Print line e, (refl, q), [], λ x. refl))

braced_good : (j h d : ℕ) (inner : List Lexeme → Read Phrases) → Good (blocks j h d) (λ x. x) inner → Good (in_braces j h d) (λ x. x) (braced inner)
braced_good j h d inner good =
    after_good (in_braces j h d) (λ x. x) sign.OpenBrace (λ ts. and_then (inner ts) (λ b. after sign.CloseBrace (Got b)))
    (bind_good (blocks j h d) (in_braces j h d) (λ x. Plain sign.OpenBrace ∷ x) inner (λ b. after sign.CloseBrace (Got b)) good
    (λ b q. after_good (in_braces j h d) (λ x. Plain sign.OpenBrace ∷ spelled_block b x) sign.CloseBrace (Got (phrases b))
    (got_good (in_braces j h d) (λ x. Plain sign.OpenBrace ∷ spelled_block b (Plain sign.CloseBrace ∷ x)) b (phrases b) refl q (λ x. refl)))
    (λ b q. (b, q, Plain sign.CloseBrace ∷ [], λ x. refl)))

choice_good : (j line h d : ℕ) (inner : List Lexeme → Read Phrases) (e : Expr) (b : Block) → 0 < d → Good (blocks j h (d - 1)) (λ x. x) inner → Fits j 0 h e → FitsBlock j h (d - 1) b →
    Good (on j line h d) (λ x. Leading lead.If line ∷ spelled e (spelled_braced b x)) (choice inner (expr e) (phrases b))
choice_good j line h d inner e b pos good (r, formed, low) (formed', low', shallow) = record { close = (If line e b, one, [], λ x. refl); law = go }
  where
    one : (line_of (If line e b) ≡ line) × FitsStatement j h d (If line e b)
    one = (refl, ((formed, formed'), omega arith, omega arith))

    two : Good (on j line h d) (λ x. Leading lead.If line ∷ spelled e (spelled_braced b (Plain sign.Else ∷ x))) (λ ts. and_then (braced inner ts) (λ c. Got (tree.Either (expr e) (phrases b) c)))
    two =
        bind_good (in_braces j h (d - 1)) (on j line h d) (λ x. Leading lead.If line ∷ spelled e (spelled_braced b (Plain sign.Else ∷ x)))
        (braced inner) (λ c. Got (tree.Either (expr e) (phrases b) c))
        (braced_good j h (d - 1) inner good)
        (λ c (q, q', q''). got_good (on j line h d) (λ x. Leading lead.If line ∷ spelled e (spelled_braced b (Plain sign.Else ∷ spelled_braced c x)))
        (Either line e b c) (tree.Either (expr e) (phrases b) (phrases c)) refl
        (refl, ((formed, formed', q), omega arith, omega arith)) (λ x. refl))
        (λ c q. (Either line e b c, (refl, (formed, formed', q)), [], λ x. refl))

    go : (ts : List Lexeme) → Lawful (on j line h d) (λ x. Leading lead.If line ∷ spelled e (spelled_braced b x)) (choice inner (expr e) (phrases b)) ts (choice inner (expr e) (phrases b) ts)
    go [] = done_law (on j line h d) (λ x. Leading lead.If line ∷ spelled e (spelled_braced b x)) (choice inner (expr e) (phrases b)) (If line e b)
        (tree.If (expr e) (phrases b)) refl one (λ x. refl) refl
    go (Plain sign.Else ∷ ts) =
        step_law (on j line h d) (λ x. Leading lead.If line ∷ spelled e (spelled_braced b x)) (choice inner (expr e) (phrases b))
        (λ ts. and_then (braced inner ts) (λ c. Got (tree.Either (expr e) (phrases b) c))) (Plain sign.Else) ts
        (and_then (braced inner ts) (λ c. Got (tree.Either (expr e) (phrases b) c))) (λ x. refl) (two.law ts)
    go (t ∷ ts) = stop_law (on j line h d) (λ x. Leading lead.If line ∷ spelled e (spelled_braced b x)) (choice inner (expr e) (phrases b))
        (If line e b) (tree.If (expr e) (phrases b)) t ts refl one (λ x. refl) (λ v. refl)

-- what stands behind the condition of an `if`
chosen_good : (j line h d : ℕ) (inner : List Lexeme → Read Phrases) (e : Expr) → 0 < d → Good (blocks j h (d - 1)) (λ x. x) inner → Fits j 0 h e →
    Good (on j line h d) (λ x. Leading lead.If line ∷ spelled e x) (λ rest. and_then (braced inner rest) (choice inner (expr e)))
chosen_good j line h d inner e pos good (r, formed, low) =
    bind_good (in_braces j h (d - 1)) (on j line h d) (λ x. Leading lead.If line ∷ spelled e x) (braced inner) (choice inner (expr e)) (braced_good j h (d - 1) inner good)
    (λ b q. choice_good j line h d inner e b pos good (r, formed, low) q)
    (λ b q. (If line e b, (refl, (formed, q)), [], λ x. refl))

-- what stands behind the condition of a `while`
repeated_good : (j line h d : ℕ) (inner : List Lexeme → Read Phrases) (e : Expr) → 0 < d → Good (blocks j h (d - 1)) (λ x. x) inner → Fits j 0 h e →
    Good (on j line h d) (λ x. Leading lead.While line ∷ spelled e x) (λ rest. and_then (braced inner rest) (λ b. Got (tree.While (expr e) b)))
repeated_good j line h d inner e pos good (r, formed, low) =
    bind_good (in_braces j h (d - 1)) (on j line h d) (λ x. Leading lead.While line ∷ spelled e x) (braced inner) (λ b. Got (tree.While (expr e) b)) (braced_good j h (d - 1) inner good)
    (λ b (q, q', q''). got_good (on j line h d) (λ x. Leading lead.While line ∷ spelled e (spelled_braced b x)) (While line e b)
    (tree.While (expr e) (phrases b)) refl (refl, ((formed, q), omega arith, omega arith)) (λ x. refl))
    (λ b q. (While line e b, (refl, (formed, q)), [], λ x. refl))

-- what is read from a word on, without its line
abbrev from_word : (j : ℕ) → (List Lexeme → Read Phrases) → (h d : ℕ) → List Lexeme → Read Phrase
from_word j inner h d (Leading l line ∷ ts) = led j inner h d l (Leading l line ∷ ts) ts
from_word j inner h d ts = Bad Unexpected ts

led_law : (j : ℕ) (inner : List Lexeme → Read Phrases) (h d : ℕ) (l : Lead) (line : ℕ) (ts : List Lexeme) → (0 < d → Good (blocks j h (d - 1)) (λ x. x) inner) →
    Lawful (on j line h d) (λ x. x) (from_word j inner h d) (Leading l line ∷ ts) (led j inner h d l (Leading l line ∷ ts) ts)
led_law j inner h d lead.Print line ts good = step_law (on j line h d) (λ x. x) (from_word j inner h d) _ (Leading lead.Print line) ts _ (λ x. refl) ((printed_good j line h d).law ts)
led_law j inner h d lead.Call line ts good =
    step_law (on j line h d) (λ x. x) (from_word j inner h d) _ (Leading lead.Call line) ts _ (λ x. refl)
    ((call_good j line h d (λ y. Leading lead.Call line ∷ y) None (λ p es. Call line p es) (λ p es. refl) (λ p es. refl) (λ p es y. refl)).law ts)
led_law j inner h d lead.Return line ts good = step_law (on j line h d) (λ x. x) (from_word j inner h d) _ (Leading lead.Return line) ts _ (λ x. refl) ((returned_good j line h d).law ts)
led_law j inner h d lead.If line ts good =
    within_law (on j line h d) (λ x. x) (from_word j inner h d) (Leading lead.If line) ts d 0 (λ x. and_then (read j h 0 x) (λ e rest. and_then (braced inner rest) (choice inner e))) (λ x. refl)
    (Print line Null, (refl, (tt, omega arith, omega arith)), Leading lead.Print line ∷ Plain sign.Null ∷ Plain sign.Semicolon ∷ [], λ x. refl)
    (If line Null Empty, (refl, (tt, tt)), Plain sign.Null ∷ Plain sign.OpenBrace ∷ Plain sign.CloseBrace ∷ [], λ x. refl)
    (λ pos. (bind_good (expression j 0 h) (on j line h d) (λ x. Leading lead.If line ∷ x) (read j h 0) (λ e rest. and_then (braced inner rest) (choice inner e)) (read_good j h)
    (λ e q. chosen_good j line h d inner e pos (good pos) q)
    (λ e (r, q). (If line e Empty, (refl, (q, tt)), Plain sign.OpenBrace ∷ Plain sign.CloseBrace ∷ [], λ x. refl))).law ts)
led_law j inner h d lead.While line ts good =
    within_law (on j line h d) (λ x. x) (from_word j inner h d) (Leading lead.While line) ts d 0
    (λ x. and_then (read j h 0 x) (λ e rest. and_then (braced inner rest) (λ b. Got (tree.While e b)))) (λ x. refl)
    (Print line Null, (refl, (tt, omega arith, omega arith)), Leading lead.Print line ∷ Plain sign.Null ∷ Plain sign.Semicolon ∷ [], λ x. refl)
    (While line Null Empty, (refl, (tt, tt)), Plain sign.Null ∷ Plain sign.OpenBrace ∷ Plain sign.CloseBrace ∷ [], λ x. refl)
    (λ pos. (bind_good (expression j 0 h) (on j line h d) (λ x. Leading lead.While line ∷ x) (read j h 0) (λ e rest. and_then (braced inner rest) (λ b. Got (tree.While e b))) (read_good j h)
    (λ e q. repeated_good j line h d inner e pos (good pos) q)
    (λ e (r, q). (While line e Empty, (refl, (q, tt)), Plain sign.OpenBrace ∷ Plain sign.CloseBrace ∷ [], λ x. refl))).law ts)
led_law j inner h d l line ts good =
    wrong_law (on j line h d) (λ x. x) (from_word j inner h d) (Leading l line) ts
    (Print line Null, (refl, (tt, omega arith, omega arith)), Leading lead.Print line ∷ Plain sign.Null ∷ Plain sign.Semicolon ∷ [], λ x. refl) (λ v. refl)

-- ---- statements

on_line_law : (j line h d : ℕ) (pre : List Lexeme → List Lexeme) (run : List Lexeme → Read Phrase) (ts : List Lexeme) (r : Read Phrase) →
    Lawful (on j line h d) pre run ts r → Lawful (stated j h d) pre (λ s. on_line line (run s)) ts (on_line line r)
on_line_law j line h d pre run ts (Got a rest) (s, pl, (at, inn), u, is, sp, loc) =
    (s, rw (at, pl) refl, inn, u, is, sp, λ v same. ap (on_line line) (loc v same))
on_line_law j line h d pre run ts (Bad Unexpected rest) (u, is, (s, (at, inn), c, sp), loc) = (u, is, (s, inn, c, sp), λ v same. ap (on_line line) (loc v same))
on_line_law j line h d pre run ts (Bad TooDeep rest) (u, t, v, is, is', (s, (at, inn), c, sp), (s', (at', inn'), c', sp'), loc) =
    (u, t, v, is, is', (s, inn, c, sp), (s', inn', c', sp'), λ w same. ap (on_line line) (loc w same))

some_statement : (j h d : ℕ) → Begins spelled_statement (FitsStatement j h d) (λ x. x) []
some_statement j h d = (Print 0 Null, (tt, omega arith, omega arith), Leading lead.Print 0 ∷ Plain sign.Null ∷ Plain sign.Semicolon ∷ [], λ x. refl)

statement_law : (j : ℕ) (inner : List Lexeme → Read Phrases) (h d : ℕ) (ts : List Lexeme) → (0 < d → Good (blocks j h (d - 1)) (λ x. x) inner) →
    Lawful (stated j h d) (λ x. x) (statement j inner h d) ts (statement j inner h d ts)
statement_law j inner h d [] good = end_law (stated j h d) (λ x. x) (statement j inner h d) (some_statement j h d) refl
statement_law j inner h d (token.Name x ∷ ts) good =
    step_law (stated j h d) (λ x. x) (statement j inner h d) (λ s. on_line x.line (assigned j h x.name s)) (token.Name x) ts (on_line x.line (assigned j h x.name ts)) (λ y. refl)
    (on_line_law j x.line h d (λ y. token.Name x ∷ y) (assigned j h x.name) ts (assigned j h x.name ts) ((assigned_good j h d x).law ts))
statement_law j inner h d (Leading l line ∷ ts) good =
    rerun_law (stated j h d) (λ x. x) (statement j inner h d) (λ s. on_line line (from_word j inner h d s)) (Leading l line) ts (on_line line (led j inner h d l (Leading l line ∷ ts) ts)) (λ y. refl)
    (on_line_law j line h d (λ x. x) (from_word j inner h d) (Leading l line ∷ ts) (led j inner h d l (Leading l line ∷ ts) ts) (led_law j inner h d l line ts good))
statement_law j inner h d (t ∷ ts) good = wrong_law (stated j h d) (λ x. x) (statement j inner h d) t ts (some_statement j h d) (λ v. refl)

-- ---- blocks

-- statements one after another, as a block
abbrev pub blocked : List Statement → Block
blocked [] = Empty
blocked (s ∷ ss) = Then s (blocked ss)

phrases_blocked : (l : List Statement) → phrases (blocked l) ≡ block_of (map (λ s. (line_of s, phrase s)) l)
phrases_blocked [] = refl
phrases_blocked (s ∷ l) = ap (λ b. tree.Then (line_of s) (phrase s) b) (phrases_blocked l)

spelled_blocked : (l : List Statement) (x : List Lexeme) → spelled_block (blocked l) x ≡ each spelled_statement l x
spelled_blocked [] x = refl
spelled_blocked (s ∷ l) x = ap (spelled_statement s) (spelled_blocked l x)

fits_blocked : (j h d : ℕ) (l : List Statement) → Each (FitsStatement j h d) l → FitsBlock j h d (blocked l)
fits_blocked j h d [] q = (tt, omega arith, omega arith)
fits_blocked j h d (s ∷ l) ((q, low, shallow), q') = let (p, low', shallow') = fits_blocked j h d l q' in ((q, p), omega arith, omega arith)

fit_blocked : (j : ℕ) (l : List Statement) → Each (λ s. IsFormedPhrase j (phrase s)) l → AreFormed j (phrases (blocked l))
fit_blocked j [] q = tt
fit_blocked j (s ∷ l) (q, q') = (q, fit_blocked j l q')

pub statement_front : (j : ℕ) (s : Statement) → IsFormedPhrase j (phrase s) → (x : List Lexeme) → (t : Lexeme) × (v : List Lexeme) × (spelled_statement s x ≡ t ∷ v) × (starts t ≡ true)
statement_front j (New y ty) q x = (token.Name y, _, refl, refl)
statement_front j (Call line p es) q x = (Leading lead.Call line, _, refl, refl)
statement_front j (Result y line p es) q x = (token.Name y, _, refl, refl)
statement_front j (Write a e) (is, q) x = (token.Name _, _, place_spelled j a _ is, refl)
statement_front j (Print line e) q x = (Leading lead.Print line, _, refl, refl)
statement_front j (If line e b) q x = (Leading lead.If line, _, refl, refl)
statement_front j (Either line e b c) q x = (Leading lead.If line, _, refl, refl)
statement_front j (While line e b) q x = (Leading lead.While line, _, refl, refl)
statement_front j (Return line None) q x = (Leading lead.Return line, _, refl, refl)
statement_front j (Return line (Some e)) q x = (Leading lead.Return line, _, refl, refl)

block_good : (j h d : ℕ) (part : List Lexeme → Read (ℕ × Phrase)) → ((ts : List Lexeme) → Lawful (stated j h d) (λ x. x) part ts (part ts)) → Good (blocks j h d) (λ x. x) (block part)
block_good j h d part law =
    bind_good (list (stated j h d)) (blocks j h d) (λ x. x) (many starts part) (λ ss. Got (block_of ss))
    (many_good (stated j h d) starts part (λ s (q, low, shallow) x. statement_front j s q x) (λ s (q, low, shallow). q) law)
    (λ l q. got_good (blocks j h d) (λ x. each spelled_statement l x) (blocked l) (block_of (map (λ s. (line_of s, phrase s)) l)) (phrases_blocked l) (fits_blocked j h d l q) (spelled_blocked l))
    (λ l q. (blocked l, fit_blocked j l q, [], λ x. spelled_blocked l x))

pub reading_statement_law : (j h d : ℕ) (ts : List Lexeme) → Lawful (stated j h d) (λ x. x) (reading_statement j h d) ts (reading_statement j h d ts)
unfolding reading_statement
reading_statement_law j h zero ts = statement_law j nothing h 0 ts (λ pos. absurd (omega arith))
reading_statement_law j h (suc c) ts =
    statement_law j (block (reading_statement j h c)) h (suc c) ts
    (λ pos. let e : suc c - 1 ≡ c = omega arith in
    subst (λ k. Good (blocks j h k) (λ x. x) (block (reading_statement j h c))) (sym e) (block_good j h c (reading_statement j h c) (λ us. reading_statement_law j h c us)))

pub reading_block_good : (j h d : ℕ) → Good (blocks j h d) (λ x. x) (reading_block j h d)
reading_block_good j h d = block_good j h d (reading_statement j h d) (λ ts. reading_statement_law j h d ts)
