-- With wider limits reading in the language j answers the same, but where the limits were the reason.
use Rattle.std.specs.Prelude.{◌≡◌, ℕ, ◌≤◌, Bool, true, false, cond, nat_le, nat_eq, bytes_eq, List, [], ◌∷◌, length, Option, Some, None}
use Rattle.std.proofs.Common.{suc, zero, refl, arith}
use Rattle.std.proofs.lemmas.Bool.Decides.{nat_tests}
use Rattle.pst_base.specs.declared.names.Op.TheVariants as op
use Rattle.pst_grammar.specs.Syntax as tree
use Rattle.pst_grammar.specs.Syntax.{Expr, Phrase, Phrases, Item}
use Rattle.pst_grammar.specs.declared.lexeme.Sign.{Sign}
use Rattle.pst_grammar.specs.declared.lexeme.Sign.TheVariants as sign
use Rattle.pst_grammar.specs.declared.lexeme.Lead.{Lead}
use Rattle.pst_grammar.specs.declared.lexeme.Lead.TheVariants as lead
use Rattle.pst_grammar.specs.Lexemes.{Lexeme, Name, Number, Operator, Plain, Leading}
use Rattle.pst_grammar.specs.Depth.{height}
use Rattle.pst_grammar.specs.Forms.{level, rank}
use Rattle.pst_grammar.specs.Spelling.{language_word}
use Rattle.pst_grammar.specs.Reader.{Read, Got, Bad, Unexpected, TooDeep, and_then, is, expect, after, label, within, many_upto, many, others, listed}
use Rattle.pst_grammar.specs.Reading.{goes_on, selected, more, operand, nothing, read, deeper, going}
use Rattle.pst_grammar.specs.Statements.{ended, arguments, call, made, written, set, valued, assigned, returned, braced, choice, led, statement, starts, block, reading_statement, reading_block}
use Rattle.pst_grammar.specs.Declarations.{parameter, local, starts_local, result, procedure, record_type, root, item, any, declarations, two, second, reading_program}

-- the second run answers as the first, where the first was not stopped by a limit
abbrev pub Under : {A : Type 0} → Read A → Read A → Type 0
Under (Got a s) r = r ≡ Got a s
Under (Bad Unexpected s) r = r ≡ Bad Unexpected s
Under (Bad TooDeep s) r = Unit {0}

pub same_under : {A : Type 0} (r : Read A) → Under r r
same_under (Got a s) = refl
same_under (Bad Unexpected s) = refl
same_under (Bad TooDeep s) = tt

pub and_then_under : {A B : Type 0} (r s : Read A) (f g : A → List Lexeme → Read B) → Under r s →
    ((a : A) (rest : List Lexeme) → Under (f a rest) (g a rest)) → Under (and_then r f) (and_then s g)
and_then_under (Got a rest) s f g e h = rw e (h a rest)
and_then_under (Bad Unexpected rest) s f g e h = rw e refl
and_then_under (Bad TooDeep rest) s f g e h = tt

pub after_under : {A : Type 0} (s : Sign) (f g : List Lexeme → Read A) (ts : List Lexeme) → ((rest : List Lexeme) → Under (f rest) (g rest)) → Under (after s f ts) (after s g ts)
after_under s f g ts h = and_then_under (expect s ts) (expect s ts) _ _ (same_under (expect s ts)) (λ _ rest. h rest)

pub cond_under : {A : Type 0} (b : Bool) (x y z w : Read A) → Under x y → Under z w → Under (cond b x z) (cond b y w)
cond_under true x y z w h h' = h
cond_under false x y z w h h' = h'

pub within_under : {A : Type 0} (h b c : ℕ) (place : List Lexeme) (r s : Read A) → b ≤ c → Under r s → Under (within h b place r) (within h c place s)
within_under h b c place r s le under = go (nat_le (suc h) b) (nat_le (suc h) c) (λ e. grind (arith, nat_tests))
  where
    go : (p q : Bool) → (p ≡ true → q ≡ true) → Under (cond p r (Bad TooDeep place)) (cond q s (Bad TooDeep place))
    go false q h = tt
    go true true h = under
    go true false h = let e : false ≡ true = h refl in cc

pub many_upto_under : {A : Type 0} (n : ℕ) (starts : Lexeme → Bool) (part part' : List Lexeme → Read A) (ts : List Lexeme) →
    ((rest : List Lexeme) → Under (part rest) (part' rest)) → Under (many_upto n starts part ts) (many_upto n starts part' ts)
unfolding many_upto
many_upto_under zero starts part part' ts h = refl
many_upto_under (suc n) starts part part' [] h = refl
many_upto_under (suc n) starts part part' (t ∷ ts) h =
    cond_under (starts t) _ _ _ _
    (and_then_under (part (t ∷ ts)) (part' (t ∷ ts)) _ _ (h (t ∷ ts))
    (λ a rest. and_then_under (many_upto n starts part rest) (many_upto n starts part' rest) _ _ (many_upto_under n starts part part' rest h) (λ l rest'. refl)))
    refl

pub many_under : {A : Type 0} (starts : Lexeme → Bool) (part part' : List Lexeme → Read A) (ts : List Lexeme) →
    ((rest : List Lexeme) → Under (part rest) (part' rest)) → Under (many starts part ts) (many starts part' ts)
unfolding many
many_under starts part part' ts h = many_upto_under (length ts) starts part part' ts h

others_under : {A : Type 0} (part part' : List Lexeme → Read A) (a : A) (ts : List Lexeme) →
    ((rest : List Lexeme) → Under (part rest) (part' rest)) → Under (others part a ts) (others part' a ts)
others_under part part' a ts h =
    and_then_under (many (is sign.Comma) (after sign.Comma part) ts) (many (is sign.Comma) (after sign.Comma part') ts) _ _
    (many_under (is sign.Comma) (after sign.Comma part) (after sign.Comma part') ts (λ rest. after_under sign.Comma part part' rest h))
    (λ l rest. same_under (after sign.CloseParen (Got (a ∷ l)) rest))

pub listed_under : {A : Type 0} (part part' : List Lexeme → Read A) (ts : List Lexeme) →
    ((rest : List Lexeme) → Under (part rest) (part' rest)) → Under (listed part ts) (listed part' ts)
listed_under part part' [] h = and_then_under (part []) (part' []) _ _ (h []) (λ a rest. others_under part part' a rest h)
listed_under part part' (Plain sign.CloseParen ∷ ts) h = refl
listed_under part part' (t ∷ ts) h = and_then_under (part (t ∷ ts)) (part' (t ∷ ts)) _ _ (h (t ∷ ts)) (λ a rest. others_under part part' a rest h)

-- ---- expressions

abbrev NextUnder : (next next' : ℕ → List Lexeme → Read Expr) → Type 0
NextUnder next next' = (m : ℕ) (us : List Lexeme) → Under (next m us) (next' m us)

selected_under : (j : ℕ) (next next' : ℕ → List Lexeme → Read Expr) (e : Expr) (x : List ℕ) (on on' : Expr → List Lexeme → Read Expr) (ts : List Lexeme) → NextUnder next next' →
    ((a : Expr) (rest : List Lexeme) → Under (on a rest) (on' a rest)) → Under (selected j next e x on ts) (selected j next' e x on' ts)
selected_under j next next' e x on on' [] h k = k (tree.Field e x) []
selected_under j next next' e x on on' (Plain sign.OpenParen ∷ ts) h k =
    cond_under (nat_eq j 2) _ _ _ _
    (and_then_under (next 0 ts) (next' 0 ts) _ _ (h 0 ts) (λ i rest. after_under sign.CloseParen _ _ rest (λ rest'. k (tree.Indexed e x i) rest')))
    (k (tree.Field e x) (Plain sign.OpenParen ∷ ts))
selected_under j next next' e x on on' (t ∷ ts) h k = k (tree.Field e x) (t ∷ ts)

more_under : (j : ℕ) (next next' : ℕ → List Lexeme → Read Expr) (f g b c n : ℕ) (e : Expr) (ts : List Lexeme) → f ≤ g → b ≤ c → NextUnder next next' →
    Under (more j next f b n e ts) (more j next' g c n e ts)
unfolding more
more_under j next next' zero zero b c n e [] le w h = refl
more_under j next next' zero zero b c n e (Operator op ∷ ts) le w h = cond_under (goes_on n e op) _ _ _ _ tt refl
more_under j next next' zero zero b c n e (Plain sign.Dot ∷ ts) le w h = cond_under (nat_le 7 (rank e)) _ _ _ _ tt refl
more_under j next next' zero zero b c n e (t ∷ ts) le w h = refl
more_under j next next' zero (suc g) b c n e [] le w h = refl
more_under j next next' zero (suc g) b c n e (Operator op ∷ ts) le w h = cond_under (goes_on n e op) _ _ _ _ tt refl
more_under j next next' zero (suc g) b c n e (Plain sign.Dot ∷ ts) le w h = cond_under (nat_le 7 (rank e)) _ _ _ _ tt refl
more_under j next next' zero (suc g) b c n e (t ∷ ts) le w h = refl
more_under j next next' (suc f) zero b c n e ts le w h = absurd (omega arith)
more_under j next next' (suc f) (suc g) b c n e [] le w h = refl
more_under j next next' (suc f) (suc g) b c n e (Operator op ∷ ts) le w h =
    cond_under (goes_on n e op) _ _ _ _
    (within_under (height e) b c (Operator op ∷ ts) _ _ w
    (and_then_under (next (suc (level op)) ts) (next' (suc (level op)) ts) _ _ (h (suc (level op)) ts)
    (λ r rest. more_under j next next' f g b c n (tree.Binary op e r) rest (omega arith) w h))) refl
more_under j next next' (suc f) (suc g) b c n e (Plain sign.Dot ∷ ts) le w h =
    cond_under (nat_le 7 (rank e)) _ _ _ _
    (within_under (height e) b c (Plain sign.Dot ∷ ts) _ _ w
    (and_then_under (label ts) (label ts) _ _ (same_under (label ts))
    (λ x rest. selected_under j next next' e x.name (λ a. more j next f b n a) (λ a. more j next' g c n a) rest h
    (λ a rest'. more_under j next next' f g b c n a rest' (omega arith) w h)))) refl
more_under j next next' (suc f) (suc g) b c n e (t ∷ ts) le w h = refl

operand_under : (j : ℕ) (next next' : ℕ → List Lexeme → Read Expr) (b c n : ℕ) (ts : List Lexeme) → b ≤ c → NextUnder next next' →
    Under (operand j next b n ts) (operand j next' c n ts)
operand_under j next next' b c n [] w h = refl
operand_under j next next' b c n (Number v ∷ ts) w h = more_under j next next' b c b c n (tree.Number v) ts w w h
operand_under j next next' b c n (Name x ∷ ts) w h = more_under j next next' b c b c n (tree.Name x.name) ts w w h
operand_under j next next' b c n (Plain sign.Null ∷ ts) w h = more_under j next next' b c b c n tree.Null ts w w h
operand_under j next next' b c n (Plain sign.OpenParen ∷ ts) w h =
    within_under 0 b c (Plain sign.OpenParen ∷ ts) _ _ w (and_then_under (next 0 ts) (next' 0 ts) _ _ (h 0 ts)
    (λ e rest. after_under sign.CloseParen _ _ rest (λ rest'. more_under j next next' b c b c n (tree.Parens e) rest' w w h)))
operand_under j next next' b c n (Operator op.Sub ∷ ts) w h =
    within_under 0 b c (Operator op.Sub ∷ ts) _ _ w (and_then_under (next 6 ts) (next' 6 ts) _ _ (h 6 ts)
    (λ e rest. more_under j next next' b c b c n (tree.Negate e) rest w w h))
operand_under j next next' b c n (Plain sign.Not ∷ ts) w h =
    cond_under (nat_le n 2) _ _ _ _
    (within_under 0 b c (Plain sign.Not ∷ ts) _ _ w (and_then_under (next 2 ts) (next' 2 ts) _ _ (h 2 ts)
    (λ e rest. more_under j next next' b c b c n (tree.Not e) rest w w h))) refl
operand_under j next next' b c n (t ∷ ts) w h = refl

pub read_under : (j b c n : ℕ) (ts : List Lexeme) → b ≤ c → Under (read j b n ts) (read j c n ts)
unfolding read
read_under j zero zero n ts w = operand_under j (λ m. nothing) (λ m. nothing) 0 0 n ts w (λ m us. tt)
read_under j zero (suc c) n ts w = operand_under j (λ m. nothing) (read j c) 0 (suc c) n ts w (λ m us. tt)
read_under j (suc b) zero n ts w = absurd (omega arith)
read_under j (suc b) (suc c) n ts w = operand_under j (read j b) (read j c) (suc b) (suc c) n ts w (λ m us. read_under j b c m us (omega arith))

deeper_under : (j b c : ℕ) → b ≤ c → NextUnder (deeper j b) (deeper j c)
deeper_under j zero c w m us = tt
deeper_under j (suc b) zero w m us = absurd (omega arith)
deeper_under j (suc b) (suc c) w m us = read_under j b c m us (omega arith)

going_under : (j b c n : ℕ) (e : Expr) (ts : List Lexeme) → b ≤ c → Under (going j b n e ts) (going j c n e ts)
unfolding going
going_under j b c n e ts w = more_under j (deeper j b) (deeper j c) b c b c n e ts w w (deeper_under j b c w)

-- ---- statements

ended_under : (j h k : ℕ) (ts : List Lexeme) → h ≤ k → Under (ended j h ts) (ended j k ts)
ended_under j h k ts w = and_then_under (read j h 0 ts) (read j k 0 ts) _ _ (read_under j h k 0 ts w) (λ e rest. same_under (after sign.Semicolon (Got e) rest))

call_under : (j h k : ℕ) (r : Option (List ℕ)) (ts : List Lexeme) → h ≤ k → Under (call j h r ts) (call j k r ts)
call_under j h k r ts w =
    and_then_under (label ts) (label ts) _ _ (same_under (label ts))
    (λ p rest. after_under sign.OpenParen _ _ rest (λ rest'. and_then_under (arguments j h rest') (arguments j k rest') _ _
    (listed_under (read j h 0) (read j k 0) rest' (λ us. read_under j h k 0 us w))
    (λ es rest''. same_under (after sign.Semicolon (Got (tree.Call r p.name es)) rest''))))

written_under : (j h k : ℕ) (place : Expr) (ts : List Lexeme) → h ≤ k → Under (written j h place ts) (written j k place ts)
written_under j h k place ts w = and_then_under (ended j h ts) (ended j k ts) _ _ (ended_under j h k ts w) (λ e rest. refl)

set_under : (j h k : ℕ) (x : List ℕ) (ts : List Lexeme) → h ≤ k → Under (set j h x ts) (set j k x ts)
set_under j h k x [] w = written_under j h k (tree.Name x) [] w
set_under j h k x (Plain sign.New ∷ ts) w = same_under (made x ts)
set_under j h k x (Leading lead.Call line ∷ ts) w = call_under j h k (Some x) ts w
set_under j h k x (t ∷ ts) w = written_under j h k (tree.Name x) (t ∷ ts) w

valued_under : (j h k : ℕ) (place : Expr) (ts : List Lexeme) → h ≤ k → Under (valued j h place ts) (valued j k place ts)
valued_under j h k (tree.Name x) ts w = set_under j h k x ts w
valued_under j h k place ts w = written_under j h k place ts w

assigned_under : (j h k : ℕ) (x : List ℕ) (ts : List Lexeme) → h ≤ k → Under (assigned j h x ts) (assigned j k x ts)
assigned_under j h k x ts w =
    and_then_under (going j h 7 (tree.Name x) ts) (going j k 7 (tree.Name x) ts) _ _ (going_under j h k 7 (tree.Name x) ts w)
    (λ place rest. after_under sign.Assign _ _ rest (λ rest'. valued_under j h k place rest' w))

returned_under : (j h k : ℕ) (ts : List Lexeme) → h ≤ k → Under (returned j h ts) (returned j k ts)
returned_under j h k [] w = and_then_under (ended j h []) (ended j k []) _ _ (ended_under j h k [] w) (λ e rest. refl)
returned_under j h k (Plain sign.Semicolon ∷ ts) w = refl
returned_under j h k (t ∷ ts) w = and_then_under (ended j h (t ∷ ts)) (ended j k (t ∷ ts)) _ _ (ended_under j h k (t ∷ ts) w) (λ e rest. refl)

abbrev InnerUnder : (inner inner' : List Lexeme → Read Phrases) → Type 0
InnerUnder inner inner' = (us : List Lexeme) → Under (inner us) (inner' us)

braced_under : (inner inner' : List Lexeme → Read Phrases) (ts : List Lexeme) → InnerUnder inner inner' → Under (braced inner ts) (braced inner' ts)
braced_under inner inner' ts h =
    after_under sign.OpenBrace _ _ ts (λ rest. and_then_under (inner rest) (inner' rest) _ _ (h rest) (λ b rest'. same_under (after sign.CloseBrace (Got b) rest')))

choice_under : (inner inner' : List Lexeme → Read Phrases) (e : Expr) (b : Phrases) (ts : List Lexeme) → InnerUnder inner inner' → Under (choice inner e b ts) (choice inner' e b ts)
choice_under inner inner' e b [] h = refl
choice_under inner inner' e b (Plain sign.Else ∷ ts) h = and_then_under (braced inner ts) (braced inner' ts) _ _ (braced_under inner inner' ts h) (λ c rest. refl)
choice_under inner inner' e b (t ∷ ts) h = refl

led_under : (j : ℕ) (inner inner' : List Lexeme → Read Phrases) (h k d e : ℕ) (l : Lead) (place ts : List Lexeme) → h ≤ k → d ≤ e → InnerUnder inner inner' →
    Under (led j inner h d l place ts) (led j inner' k e l place ts)
led_under j inner inner' h k d e lead.Print place ts w w' u = and_then_under (ended j h ts) (ended j k ts) _ _ (ended_under j h k ts w) (λ e rest. refl)
led_under j inner inner' h k d e lead.Call place ts w w' u = call_under j h k None ts w
led_under j inner inner' h k d e lead.Return place ts w w' u = returned_under j h k ts w
led_under j inner inner' h k d e lead.If place ts w w' u =
    within_under 0 d e place _ _ w' (and_then_under (read j h 0 ts) (read j k 0 ts) _ _ (read_under j h k 0 ts w)
    (λ x rest. and_then_under (braced inner rest) (braced inner' rest) _ _ (braced_under inner inner' rest u) (λ b rest'. choice_under inner inner' x b rest' u)))
led_under j inner inner' h k d e lead.While place ts w w' u =
    within_under 0 d e place _ _ w' (and_then_under (read j h 0 ts) (read j k 0 ts) _ _ (read_under j h k 0 ts w)
    (λ x rest. and_then_under (braced inner rest) (braced inner' rest) _ _ (braced_under inner inner' rest u) (λ b rest'. refl)))
led_under j inner inner' h k d e l place ts w w' u = refl

statement_under : (j : ℕ) (inner inner' : List Lexeme → Read Phrases) (h k d e : ℕ) (ts : List Lexeme) → h ≤ k → d ≤ e → InnerUnder inner inner' →
    Under (statement j inner h d ts) (statement j inner' k e ts)
statement_under j inner inner' h k d e [] w w' u = refl
statement_under j inner inner' h k d e (Name x ∷ ts) w w' u =
    and_then_under (assigned j h x.name ts) (assigned j k x.name ts) _ _ (assigned_under j h k x.name ts w) (λ s rest. refl)
statement_under j inner inner' h k d e (Leading l line ∷ ts) w w' u =
    and_then_under (led j inner h d l (Leading l line ∷ ts) ts) (led j inner' k e l (Leading l line ∷ ts) ts) _ _ (led_under j inner inner' h k d e l (Leading l line ∷ ts) ts w w' u) (λ s rest. refl)
statement_under j inner inner' h k d e (t ∷ ts) w w' u = refl

block_under : (part part' : List Lexeme → Read (ℕ × Phrase)) (ts : List Lexeme) → ((us : List Lexeme) → Under (part us) (part' us)) → Under (block part ts) (block part' ts)
block_under part part' ts h = and_then_under (many starts part ts) (many starts part' ts) _ _ (many_under starts part part' ts h) (λ ss rest. refl)

pub reading_statement_under : (j h k d e : ℕ) (ts : List Lexeme) → h ≤ k → d ≤ e → Under (reading_statement j h d ts) (reading_statement j k e ts)
unfolding reading_statement
reading_statement_under j h k zero zero ts w w' = statement_under j nothing nothing h k 0 0 ts w w' (λ us. tt)
reading_statement_under j h k zero (suc e) ts w w' = statement_under j nothing (block (reading_statement j k e)) h k 0 (suc e) ts w w' (λ us. tt)
reading_statement_under j h k (suc d) zero ts w w' = absurd (omega arith)
reading_statement_under j h k (suc d) (suc e) ts w w' =
    statement_under j (block (reading_statement j h d)) (block (reading_statement j k e)) h k (suc d) (suc e) ts w w'
    (λ us. block_under (reading_statement j h d) (reading_statement j k e) us (λ vs. reading_statement_under j h k d e vs w (omega arith)))

-- ---- declarations

procedure_under : (j h k d e line : ℕ) (query : Bool) (ts : List Lexeme) → h ≤ k → d ≤ e → Under (procedure j h d line query ts) (procedure j k e line query ts)
procedure_under j h k d e line query ts w w' =
    and_then_under (label ts) (label ts) _ _ (same_under (label ts))
    (λ x rest. after_under sign.OpenParen _ _ rest
    (λ rest'. and_then_under (listed parameter rest') (listed parameter rest') _ _ (same_under (listed parameter rest'))
    (λ ps rest''. and_then_under (result rest'') (result rest'') _ _ (same_under (result rest''))
    (λ r us. after_under sign.OpenBrace _ _ us
    (λ us'. and_then_under (many starts_local local us') (many starts_local local us') _ _ (same_under (many starts_local local us'))
    (λ ls vs. and_then_under (reading_block j h d vs) (reading_block j k e vs) _ _
    (block_under (reading_statement j h d) (reading_statement j k e) vs (λ ws. reading_statement_under j h k d e ws w w'))
    (λ b vs'. same_under (after sign.CloseBrace _ vs'))))))))

item_under : (j h k d e : ℕ) (ts : List Lexeme) → h ≤ k → d ≤ e → Under (item j h d ts) (item j k e ts)
item_under j h k d e [] w w' = refl
item_under j h k d e (Leading lead.Record line ∷ ts) w w' = same_under (record_type j line ts)
item_under j h k d e (Leading lead.Root line ∷ ts) w w' = same_under (root line ts)
item_under j h k d e (Leading lead.Proc line ∷ ts) w w' = procedure_under j h k d e line false ts w w'
item_under j h k d e (Leading lead.Query line ∷ ts) w w' = procedure_under j h k d e line true ts w w'
item_under j h k d e (t ∷ ts) w w' = refl

declarations_under : (j h k d e : ℕ) (ts : List Lexeme) → h ≤ k → d ≤ e → Under (declarations j h d ts) (declarations j k e ts)
declarations_under j h k d e ts w w' =
    and_then_under (many any (item j h d) ts) (many any (item j k e) ts) _ _ (many_under any (item j h d) (item j k e) ts (λ us. item_under j h k d e us w w')) (λ l rest. refl)

second_under : (h k d e : ℕ) (ts : List Lexeme) → h ≤ k → d ≤ e → Under (second h d ts) (second k e ts)
second_under h k d e ts w w' = and_then_under (two ts) (two ts) _ _ (same_under (two ts)) (λ _ rest. declarations_under 2 h k d e rest w w')

pub program_under : (h k d e : ℕ) (ts : List Lexeme) → h ≤ k → d ≤ e → Under (reading_program h d ts) (reading_program k e ts)
program_under h k d e [] w w' = declarations_under 1 h k d e [] w w'
program_under h k d e (Name x ∷ ts) w w' =
    cond_under (bytes_eq x.name language_word) _ _ _ _ (second_under h k d e ts w w') (declarations_under 1 h k d e (Name x ∷ ts) w w')
program_under h k d e (t ∷ ts) w w' = declarations_under 1 h k d e (t ∷ ts) w w'
