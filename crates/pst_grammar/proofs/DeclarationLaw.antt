-- The law of reading declarations, in the language j, and programs.
use Rattle.std.specs.Prelude.{◌≡◌, ℕ, ℤ, ◌≤◌, ◌<◌, Bool, true, false, nat_eq, List, [], ◌∷◌, ◌++◌, map, Option, Some, None, length}
use Rattle.std.specs.Option.{option_map}
use Rattle.std.proofs.Common.{suc, zero, refl, sym, ap, ◌∙◌, subst, arith}
use Rattle.pst_base.specs.declared.names.Op.TheVariants as op
use Rattle.pst_grammar.specs.Syntax as tree
use Rattle.pst_grammar.specs.declared.lexeme.Label.{Label}
use Rattle.pst_grammar.specs.declared.lexeme.Sign.TheVariants as sign
use Rattle.pst_grammar.specs.declared.lexeme.Lead.TheVariants as lead
use Rattle.pst_grammar.specs.Lexemes as token
use Rattle.pst_grammar.specs.Lexemes.{Lexeme, Operator, Plain, Leading}
use Rattle.pst_grammar.specs.Depth.{item_height, item_nesting}
use Rattle.pst_grammar.specs.Forms.{Each, IsCount, IsFormedField, IsFormedItem}
use Rattle.pst_grammar.specs.Spelling.{each, listed, Empty, phrases, spelled_block, TypeText, Int, type_word as plain_type, spelled_type, spelled_count}
use Rattle.pst_grammar.specs.Spelling.{FieldText, Val, Ptr, field as plain_field, spelled_field, Parameter, parameter as plain_parameter, spelled_parameter}
use Rattle.pst_grammar.specs.Spelling.{Local, local as plain_local, spelled_local, spelled_result, head, Item, Record, Root, Procedure, item as plain_item}
use Rattle.pst_grammar.specs.Spelling.{spelled_item}
use Rattle.pst_grammar.specs.Reader.{Read, Got, Bad, Fault, Unexpected, TooDeep, and_then, after, label, number, type_word, many}
use Rattle.pst_grammar.specs.Reader as reader
use Rattle.pst_grammar.specs.Statements.{reading_block}
use Rattle.pst_grammar.specs.Declarations.{count, value_field, pointer_field, field, starts_field, typed, parameter, variable, local, starts_local, result}
use Rattle.pst_grammar.specs.Declarations.{record_type, root, body, procedure, item, any}
use Rattle.pst_grammar.proofs.ReaderLaws.{Construct, Begins, Lawful, Good, cond_law, step_law, got_good, wrong_law, end_law, stop_law, done_law, after_good}
use Rattle.pst_grammar.proofs.ReaderLaws.{label_good, number_good, type_good, bind_good, some_label}
use Rattle.pst_grammar.proofs.Many.{Fronts, Shortens, shortens, list, commas, many_good, listed_good, many-start, many-end}
use Rattle.pst_grammar.proofs.ReadLaw.{is_second}
use Rattle.pst_grammar.proofs.StatementLaw.{blocks, reading_block_good}

-- ---- fields

-- the number of elements of a field
abbrev counts : (j : ℕ) → Construct (Option ℤ)
counts j = record { Lined = Option ℤ; plain = λ n. n; spell = spelled_count; Fit = IsCount j; In = IsCount j }

count_good : (j : ℕ) → Good (counts j) (λ x. x) (count j)
count_good j = record { close = (None, tt, [], λ x. refl); law = go }
  where
    go : (ts : List Lexeme) → Lawful (counts j) (λ x. x) (count j) ts (count j ts)
    go [] = done_law (counts j) (λ x. x) (count j) None None refl tt (λ x. refl) refl
    go (Operator op.Mul ∷ ts) =
        cond_law (λ r. Lawful (counts j) (λ x. x) (count j) (Operator op.Mul ∷ ts) r) (nat_eq j 2) _ _
        (λ q. step_law (counts j) (λ x. x) (count j) (λ us. and_then (number us) (λ n. Got (Some n))) (Operator op.Mul) ts (and_then (number ts) (λ n. Got (Some n))) (λ x. rw q refl)
        ((number_good (counts j) (λ y. Operator op.Mul ∷ y) (λ n. Got (Some n))
        (λ n. got_good (counts j) (λ y. Operator op.Mul ∷ token.Number n ∷ y) (Some n) (Some n) refl (is_second j q) (λ y. refl))).law ts))
        (λ q. stop_law (counts j) (λ x. x) (count j) None None (Operator op.Mul) ts refl tt (λ x. refl) (λ v. rw q refl))
    go (t ∷ ts) = stop_law (counts j) (λ x. x) (count j) None None t ts refl tt (λ x. refl) (λ v. refl)

abbrev pub fields : (j : ℕ) → Construct tree.FieldText
fields j = record { Lined = FieldText; plain = plain_field; spell = spelled_field; Fit = λ f. IsFormedField j (plain_field f); In = λ f. IsFormedField j (plain_field f) }

-- a number of elements, if one stands there, and a `;`
counted_good : (j : ℕ) (pre : List Lexeme → List Lexeme) (make : Option ℤ → FieldText) (plain : Option ℤ → tree.FieldText) →
    ((n : Option ℤ) → plain_field (make n) ≡ plain n) → ((n : Option ℤ) → IsCount j n → IsFormedField j (plain_field (make n))) →
    ((n : Option ℤ) (x : List Lexeme) → spelled_field (make n) x ≡ pre (spelled_count n (Plain sign.Semicolon ∷ x))) →
    Good (fields j) pre (λ ts. and_then (count j ts) (λ n. after sign.Semicolon (Got (plain n))))
counted_good j pre make plain is fits sp =
    bind_good (counts j) (fields j) pre (count j) (λ n. after sign.Semicolon (Got (plain n))) (count_good j)
    (λ n q. after_good (fields j) (λ y. pre (spelled_count n y)) sign.Semicolon (Got (plain n))
    (got_good (fields j) (λ y. pre (spelled_count n (Plain sign.Semicolon ∷ y))) (make n) (plain n) (is n) (fits n q) (sp n)))
    (λ n q. (make n, fits n q, Plain sign.Semicolon ∷ [], sp n))

value_field_good : (j line : ℕ) → Good (fields j) (λ y. Leading lead.Val line ∷ y) (value_field j line)
value_field_good j line =
    label_good (fields j) (λ y. Leading lead.Val line ∷ y) (λ x. after sign.Colon (after sign.Int (λ rest. and_then (count j rest) (λ n. after sign.Semicolon (Got (tree.Val line x.name n))))))
    (λ x. after_good (fields j) (λ y. Leading lead.Val line ∷ token.Name x ∷ y) sign.Colon (after sign.Int (λ rest. and_then (count j rest) (λ n. after sign.Semicolon (Got (tree.Val line x.name n)))))
    (after_good (fields j) (λ y. Leading lead.Val line ∷ token.Name x ∷ Plain sign.Colon ∷ y) sign.Int (λ rest. and_then (count j rest) (λ n. after sign.Semicolon (Got (tree.Val line x.name n))))
    (counted_good j (λ y. Leading lead.Val line ∷ token.Name x ∷ Plain sign.Colon ∷ Plain sign.Int ∷ y) (λ n. Val line x n) (λ n. tree.Val line x.name n) (λ n. refl) (λ n q. q) (λ n y. refl))))

pointer_field_good : (j line : ℕ) → Good (fields j) (λ y. Leading lead.Ptr line ∷ y) (pointer_field j line)
pointer_field_good j line =
    label_good (fields j) (λ y. Leading lead.Ptr line ∷ y)
    (λ x. after sign.Colon (λ rest. and_then (label rest) (λ target rest. and_then (count j rest) (λ n. after sign.Semicolon (Got (tree.Ptr line x.name target.name n))))))
    (λ x. after_good (fields j) (λ y. Leading lead.Ptr line ∷ token.Name x ∷ y) sign.Colon
    (λ rest. and_then (label rest) (λ target rest. and_then (count j rest) (λ n. after sign.Semicolon (Got (tree.Ptr line x.name target.name n)))))
    (label_good (fields j) (λ y. Leading lead.Ptr line ∷ token.Name x ∷ Plain sign.Colon ∷ y)
    (λ target rest. and_then (count j rest) (λ n. after sign.Semicolon (Got (tree.Ptr line x.name target.name n))))
    (λ target. counted_good j (λ y. Leading lead.Ptr line ∷ token.Name x ∷ Plain sign.Colon ∷ token.Name target ∷ y) (λ n. Ptr line x target n) (λ n. tree.Ptr line x.name target.name n)
    (λ n. refl) (λ n q. q) (λ n y. refl))))

some_field : (j : ℕ) → Begins spelled_field (λ f. IsFormedField j (plain_field f)) (λ x. x) []
some_field j = (Val 0 some_label None, tt, spelled_field (Val 0 some_label None) [], λ x. refl)

field_law : (j : ℕ) (ts : List Lexeme) → Lawful (fields j) (λ x. x) (field j) ts (field j ts)
field_law j [] = end_law (fields j) (λ x. x) (field j) (some_field j) refl
field_law j (Leading lead.Val line ∷ ts) =
    step_law (fields j) (λ x. x) (field j) (value_field j line) (Leading lead.Val line) ts (value_field j line ts) (λ x. refl) ((value_field_good j line).law ts)
field_law j (Leading lead.Ptr line ∷ ts) =
    step_law (fields j) (λ x. x) (field j) (pointer_field j line) (Leading lead.Ptr line) ts (pointer_field j line ts) (λ x. refl) ((pointer_field_good j line).law ts)
field_law j (t ∷ ts) = wrong_law (fields j) (λ x. x) (field j) t ts (some_field j) (λ v. refl)

pub field_front : (f : FieldText) (y : List Lexeme) → (t : Lexeme) × (v : List Lexeme) × (spelled_field f y ≡ t ∷ v) × (starts_field t ≡ true)
field_front (Val line x n) y = (Leading lead.Val line, _, refl, refl)
field_front (Ptr line x target n) y = (Leading lead.Ptr line, _, refl, refl)

pub field_short : (j : ℕ) → Shortens (field j)
field_short j = shortens (fields j) starts_field (field j) (λ f q y. field_front f y) (λ ts. field_law j ts)

-- ---- types, parameters, locals

abbrev types : Construct tree.TypeWord
types = record { Lined = TypeText; plain = plain_type; spell = spelled_type; Fit = λ _. Unit {0}; In = λ _. Unit {0} }

-- a `:` and a type, and what follows
typed_good : {A : Type 0} (K : Construct A) (pre : List Lexeme → List Lexeme) (f : tree.TypeWord → List Lexeme → Read A) →
    ((k : TypeText) → Good K (λ y. pre (Plain sign.Colon ∷ spelled_type k y)) (f (plain_type k))) → Good K pre (λ ts. and_then (typed ts) f)
typed_good {A} K pre f good = record { close = inner.close; law = λ ts. go ts }
  where
    inner : Good K pre (after sign.Colon (λ ts. and_then (type_word ts) f))
    inner = after_good K pre sign.Colon (λ ts. and_then (type_word ts) f) (type_good K (λ y. pre (Plain sign.Colon ∷ y)) f good)

    same : (ts : List Lexeme) → and_then (typed ts) f ≡ after sign.Colon (λ us. and_then (type_word us) f) ts
    same ts = split (reader.expect sign.Colon ts)
      where
        split : (r : Read (Unit {0})) → and_then (and_then r (λ _ rest. type_word rest)) f ≡ and_then r (λ _ rest. and_then (type_word rest) f)
        split (Got a rest) = refl
        split (Bad k rest) = refl

    carry : (ts : List Lexeme) (r : Read A) → Lawful K pre (after sign.Colon (λ us. and_then (type_word us) f)) ts r → Lawful K pre (λ us. and_then (typed us) f) ts r
    carry ts (Got a rest) (a', pl, inn, u, at, sp, loc) = (a', pl, inn, u, at, sp, λ s e. same (u ++ s) ∙ loc s e)
    carry ts (Bad Unexpected rest) (u, at, b, loc) = (u, at, b, λ s e. same (u ++ s) ∙ loc s e)
    carry ts (Bad TooDeep rest) (u, t, v, at, is, b, b', loc) = (u, t, v, at, is, b, b', λ s e. same (u ++ s) ∙ loc s e)

    go : (ts : List Lexeme) → Lawful K pre (λ us. and_then (typed us) f) ts (and_then (typed ts) f)
    go ts = subst (λ r. Lawful K pre (λ us. and_then (typed us) f) ts r) (sym (same ts)) (carry ts (after sign.Colon (λ us. and_then (type_word us) f) ts) (inner.law ts))

abbrev pub parameters : Construct tree.LocalText
parameters = record { Lined = Parameter; plain = plain_parameter; spell = spelled_parameter; Fit = λ _. Unit {0}; In = λ _. Unit {0} }

pub parameter_good : Good parameters (λ x. x) parameter
parameter_good =
    label_good parameters (λ y. y) (λ x rest. and_then (typed rest) (λ k. Got (record { line = x.line; name = x.name; kind = k })))
    (λ x. typed_good parameters (λ y. token.Name x ∷ y) (λ k. Got (record { line = x.line; name = x.name; kind = k }))
    (λ k. got_good parameters (λ y. token.Name x ∷ Plain sign.Colon ∷ spelled_type k y) (record { label = x; kind = k })
    (record { line = x.line; name = x.name; kind = plain_type k }) refl tt (λ y. refl)))

abbrev pub locals : Construct tree.LocalText
locals = record { Lined = Local; plain = plain_local; spell = spelled_local; Fit = λ _. Unit {0}; In = λ _. Unit {0} }

variable_good : (line : ℕ) → Good locals (λ y. Leading lead.Var line ∷ y) (variable line)
variable_good line =
    label_good locals (λ y. Leading lead.Var line ∷ y) (λ x rest. and_then (typed rest) (λ k. after sign.Semicolon (Got (record { line = line; name = x.name; kind = k }))))
    (λ x. typed_good locals (λ y. Leading lead.Var line ∷ token.Name x ∷ y) (λ k. after sign.Semicolon (Got (record { line = line; name = x.name; kind = k })))
    (λ k. after_good locals (λ y. Leading lead.Var line ∷ token.Name x ∷ Plain sign.Colon ∷ spelled_type k y) sign.Semicolon (Got (record { line = line; name = x.name; kind = plain_type k }))
    (got_good locals (λ y. Leading lead.Var line ∷ token.Name x ∷ Plain sign.Colon ∷ spelled_type k (Plain sign.Semicolon ∷ y))
    (record { line = line; label = x; kind = k }) (record { line = line; name = x.name; kind = plain_type k }) refl tt (λ y. refl))))

some_local : Begins spelled_local (λ _. Unit {0}) (λ x. x) []
some_local = (record { line = 0; label = some_label; kind = Int }, tt, spelled_local (record { line = 0; label = some_label; kind = Int }) [], λ x. refl)

local_law : (ts : List Lexeme) → Lawful locals (λ x. x) local ts (local ts)
local_law [] = end_law locals (λ x. x) local some_local refl
local_law (Leading lead.Var line ∷ ts) = step_law locals (λ x. x) local (variable line) (Leading lead.Var line) ts (variable line ts) (λ x. refl) ((variable_good line).law ts)
local_law (t ∷ ts) = wrong_law locals (λ x. x) local t ts some_local (λ v. refl)

pub local_front : Fronts starts_local spelled_local (λ _. Unit {0})
local_front l q y = (Leading lead.Var l.line, _, refl, refl)

pub local_short : Shortens local
local_short = shortens locals starts_local local local_front local_law

-- ---- a procedure's result

abbrev results : Construct (Option tree.TypeWord)
results = record { Lined = Option TypeText; plain = option_map plain_type; spell = spelled_result; Fit = λ _. Unit {0}; In = λ _. Unit {0} }

result_good : Good results (λ x. x) result
result_good = record { close = (None, tt, [], λ x. refl); law = go }
  where
    go : (ts : List Lexeme) → Lawful results (λ x. x) result ts (result ts)
    go [] = done_law results (λ x. x) result None None refl tt (λ x. refl) refl
    go (Plain sign.Colon ∷ ts) =
        step_law results (λ x. x) result (λ us. and_then (type_word us) (λ k. Got (Some k))) (Plain sign.Colon) ts (and_then (type_word ts) (λ k. Got (Some k))) (λ x. refl)
        ((type_good results (λ y. Plain sign.Colon ∷ y) (λ k. Got (Some k))
        (λ k. got_good results (λ y. Plain sign.Colon ∷ spelled_type k y) (Some k) (Some (plain_type k)) refl tt (λ y. refl))).law ts)
    go (t ∷ ts) = stop_law results (λ x. x) result None None t ts refl tt (λ x. refl) (λ v. refl)

-- ---- declarations

abbrev pub items : (j h d : ℕ) → Construct tree.Item
items j h d = record {
  Lined = Item;
  plain = plain_item;
  spell = spelled_item;
  Fit = λ i. IsFormedItem j (plain_item i);
  In = λ i. IsFormedItem j (plain_item i) × (item_height (plain_item i) ≤ h) × (item_nesting (plain_item i) ≤ d);
}

each_field : (j : ℕ) (fs : List FieldText) → Each (λ f. IsFormedField j (plain_field f)) fs → Each (IsFormedField j) (map plain_field fs)
each_field j [] q = tt
each_field j (f ∷ fs) (q, q') = (q, each_field j fs q')

record_good : (j h d line : ℕ) → Good (items j h d) (λ y. Leading lead.Record line ∷ y) (record_type j line)
record_good j h d line =
    label_good (items j h d) (λ y. Leading lead.Record line ∷ y)
    (λ x rest. and_then (number rest) (λ v. after sign.OpenBrace (λ rest. and_then (many starts_field (field j) rest) (λ fs. after sign.CloseBrace (Got (tree.Record line x.name v fs))))))
    (λ x. number_good (items j h d) (λ y. Leading lead.Record line ∷ token.Name x ∷ y)
    (λ v. after sign.OpenBrace (λ rest. and_then (many starts_field (field j) rest) (λ fs. after sign.CloseBrace (Got (tree.Record line x.name v fs)))))
    (λ v. after_good (items j h d) (λ y. Leading lead.Record line ∷ token.Name x ∷ token.Number v ∷ y) sign.OpenBrace
    (λ rest. and_then (many starts_field (field j) rest) (λ fs. after sign.CloseBrace (Got (tree.Record line x.name v fs))))
    (bind_good (list (fields j)) (items j h d) (λ y. Leading lead.Record line ∷ token.Name x ∷ token.Number v ∷ Plain sign.OpenBrace ∷ y) (many starts_field (field j))
    (λ fs. after sign.CloseBrace (Got (tree.Record line x.name v fs)))
    (many_good (fields j) starts_field (field j) (λ f q y. field_front f y) (λ a q. q) (λ us. field_law j us))
    (λ fs q. after_good (items j h d) (λ y. Leading lead.Record line ∷ token.Name x ∷ token.Number v ∷ Plain sign.OpenBrace ∷ each spelled_field fs y) sign.CloseBrace
    (Got (tree.Record line x.name v (map plain_field fs)))
    (got_good (items j h d) (λ y. Leading lead.Record line ∷ token.Name x ∷ token.Number v ∷ Plain sign.OpenBrace ∷ each spelled_field fs (Plain sign.CloseBrace ∷ y))
    (Record line x v fs) (tree.Record line x.name v (map plain_field fs)) refl (each_field j fs q, omega arith, omega arith) (λ y. refl)))
    (λ fs q. (Record line x v fs, each_field j fs q, Plain sign.CloseBrace ∷ [], λ y. refl)))))

root_good : (j h d line : ℕ) → Good (items j h d) (λ y. Leading lead.Root line ∷ y) (root line)
root_good j h d line =
    label_good (items j h d) (λ y. Leading lead.Root line ∷ y) (λ x rest. and_then (typed rest) (λ k. after sign.Semicolon (Got (tree.Root line x.name k))))
    (λ x. typed_good (items j h d) (λ y. Leading lead.Root line ∷ token.Name x ∷ y) (λ k. after sign.Semicolon (Got (tree.Root line x.name k)))
    (λ k. after_good (items j h d) (λ y. Leading lead.Root line ∷ token.Name x ∷ Plain sign.Colon ∷ spelled_type k y) sign.Semicolon (Got (tree.Root line x.name (plain_type k)))
    (got_good (items j h d) (λ y. Leading lead.Root line ∷ token.Name x ∷ Plain sign.Colon ∷ spelled_type k (Plain sign.Semicolon ∷ y)) (Root line x k) (tree.Root line x.name (plain_type k)) refl
    (tt, omega arith, omega arith) (λ y. refl))))

-- what stands behind the head of a procedure
body_good : (j h d line : ℕ) (query : Bool) (x : Label) (ps : List Parameter) (r : Option TypeText) →
    Good (items j h d) (λ y. Leading (head query) line ∷ token.Name x ∷ Plain sign.OpenParen ∷ listed spelled_parameter ps (spelled_result r y))
    (body j h d (λ ls b. tree.Procedure record { line = line; query = query; name = x.name; parameters = map plain_parameter ps; result = option_map plain_type r; locals = ls; body = b }))
body_good j h d line query x ps r =
    after_good (items j h d) pre sign.OpenBrace (λ ts. and_then (many starts_local local ts) (λ ls rest. and_then (reading_block j h d rest) (λ b. after sign.CloseBrace (Got (make ls b)))))
    (bind_good (list locals) (items j h d) (λ y. pre (Plain sign.OpenBrace ∷ y)) (many starts_local local)
    (λ ls rest. and_then (reading_block j h d rest) (λ b. after sign.CloseBrace (Got (make ls b))))
    (many_good locals starts_local local local_front (λ a q. tt) local_law)
    (λ ls q. bind_good (blocks j h d) (items j h d) (λ y. pre (Plain sign.OpenBrace ∷ each spelled_local ls y)) (reading_block j h d) (λ b. after sign.CloseBrace (Got (make (map plain_local ls) b)))
    (reading_block_good j h d)
    (λ b (q', low, shallow). after_good (items j h d) (λ y. pre (Plain sign.OpenBrace ∷ each spelled_local ls (spelled_block b y))) sign.CloseBrace (Got (make (map plain_local ls) (phrases b)))
    (got_good (items j h d) (λ y. pre (Plain sign.OpenBrace ∷ each spelled_local ls (spelled_block b (Plain sign.CloseBrace ∷ y))))
    (Procedure line query x ps r ls b) (make (map plain_local ls) (phrases b)) refl
    (q', low, shallow) (λ y. refl)))
    (λ b q'. (Procedure line query x ps r ls b, q', Plain sign.CloseBrace ∷ [], λ y. refl)))
    (λ ls q. (Procedure line query x ps r ls Empty, tt, Plain sign.CloseBrace ∷ [], λ y. refl)))
  where
    pre : List Lexeme → List Lexeme
    pre y = Leading (head query) line ∷ token.Name x ∷ Plain sign.OpenParen ∷ listed spelled_parameter ps (spelled_result r y)

    make : List tree.LocalText → tree.Phrases → tree.Item
    make ls b = tree.Procedure record { line = line; query = query; name = x.name; parameters = map plain_parameter ps; result = option_map plain_type r; locals = ls; body = b }

procedure_good : (j h d line : ℕ) (query : Bool) → Good (items j h d) (λ y. Leading (head query) line ∷ y) (procedure j h d line query)
procedure_good j h d line query =
    label_good (items j h d) (λ y. Leading (head query) line ∷ y)
    (λ x. after sign.OpenParen (λ rest. and_then (reader.listed parameter rest) (λ ps rest. and_then (result rest) (λ r. body j h d (make x ps r)))))
    (λ x. after_good (items j h d) (λ y. Leading (head query) line ∷ token.Name x ∷ y) sign.OpenParen
    (λ rest. and_then (reader.listed parameter rest) (λ ps rest. and_then (result rest) (λ r. body j h d (make x ps r))))
    (bind_good (commas parameters) (items j h d) (λ y. Leading (head query) line ∷ token.Name x ∷ Plain sign.OpenParen ∷ y) (reader.listed parameter)
    (λ ps rest. and_then (result rest) (λ r. body j h d (make x ps r)))
    (listed_good parameters parameter (λ a q. tt) parameter_good)
    (λ ps q. bind_good results (items j h d) (λ y. Leading (head query) line ∷ token.Name x ∷ Plain sign.OpenParen ∷ listed spelled_parameter ps y)
    result (λ r. body j h d (make x (map plain_parameter ps) r))
    result_good
    (λ r q'. body_good j h d line query x ps r)
    (λ r q'. (Procedure line query x ps r [] Empty, tt, Plain sign.OpenBrace ∷ Plain sign.CloseBrace ∷ [], λ y. refl)))
    (λ ps q. (Procedure line query x ps None [] Empty, tt, Plain sign.OpenBrace ∷ Plain sign.CloseBrace ∷ [], λ y. refl))))
  where
    make : Label → List tree.LocalText → Option tree.TypeWord → List tree.LocalText → tree.Phrases → tree.Item
    make x ps r ls b = tree.Procedure record { line = line; query = query; name = x.name; parameters = ps; result = r; locals = ls; body = b }

some_item : (j h d : ℕ) → Begins spelled_item (items j h d).In (λ x. x) []
some_item j h d = (Root 0 some_label Int, (tt, omega arith, omega arith), spelled_item (Root 0 some_label Int) [], λ x. refl)

pub item_law : (j h d : ℕ) (ts : List Lexeme) → Lawful (items j h d) (λ x. x) (item j h d) ts (item j h d ts)
item_law j h d [] = end_law (items j h d) (λ x. x) (item j h d) (some_item j h d) refl
item_law j h d (Leading lead.Record line ∷ ts) = step_law (items j h d) (λ x. x) (item j h d) (record_type j line) (Leading lead.Record line) ts
    (record_type j line ts) (λ x. refl) ((record_good j h d line).law ts)
item_law j h d (Leading lead.Root line ∷ ts) = step_law (items j h d) (λ x. x) (item j h d) (root line) (Leading lead.Root line) ts (root line ts) (λ x. refl) ((root_good j h d line).law ts)
item_law j h d (Leading lead.Proc line ∷ ts) =
    step_law (items j h d) (λ x. x) (item j h d) (procedure j h d line false) (Leading lead.Proc line) ts (procedure j h d line false ts) (λ x. refl) ((procedure_good j h d line false).law ts)
item_law j h d (Leading lead.Query line ∷ ts) =
    step_law (items j h d) (λ x. x) (item j h d) (procedure j h d line true) (Leading lead.Query line) ts (procedure j h d line true ts) (λ x. refl) ((procedure_good j h d line true).law ts)
item_law j h d (t ∷ ts) = wrong_law (items j h d) (λ x. x) (item j h d) t ts (some_item j h d) (λ v. refl)

pub item_front : (i : Item) (x : List Lexeme) → (t : Lexeme) × (v : List Lexeme) × (spelled_item i x ≡ t ∷ v) × (any t ≡ true)
item_front (Record line y limit fs) x = (Leading lead.Record line, _, refl, refl)
item_front (Root line y k) x = (Leading lead.Root line, _, refl, refl)
item_front (Procedure line query y ps r ls b) x = (Leading (head query) line, _, refl, refl)

pub item_short : (j h d : ℕ) → Shortens (item j h d)
item_short j h d = shortens (items j h d) any (item j h d) (λ i q x. item_front i x) (λ ts. item_law j h d ts)

-- declarations up to the end, and the same wherever they begin
pub many_items_good : (j h d : ℕ) → Good (list (items j h d)) (λ x. x) (many any (item j h d))
many_items_good j h d = many_good (items j h d) any (item j h d) (λ i q x. item_front i x) (λ i (q, low, shallow). q) (λ ts. item_law j h d ts)

pub items_rest : (j h d n : ℕ) (ts rest : List Lexeme) (p : List tree.Item) → length ts ≤ n → many any (item j h d) ts ≡ Got p rest → rest ≡ []
items_rest j h d n [] rest p le e = let none = many-end any (item j h d) in cc
items_rest j h d zero (t ∷ ts) rest p le e = absurd (omega arith)
items_rest j h d (suc n) (t ∷ ts) rest p le e =
    go (item j h d (t ∷ ts)) refl (λ us rest p le. items_rest j h d n us rest p le) (sym (many-start any (item j h d) (item_short j h d) t ts refl) ∙ e)
  where
    inner : (r : Read (List tree.Item)) (a : tree.Item) → and_then r (λ l. Got (a ∷ l)) ≡ Got p rest → (l : List tree.Item) × (r ≡ Got l rest)
    inner (Got l s) a e = (l, let same : s ≡ rest = cc in ap (λ z. Got l z) same)
    inner (Bad k s) a e = cc

    go : (r : Read tree.Item) → item j h d (t ∷ ts) ≡ r → ((us rest : List Lexeme) (p : List tree.Item) → length us ≤ n → many any (item j h d) us ≡ Got p rest → rest ≡ []) →
        and_then r (λ a rest. and_then (many any (item j h d) rest) (λ l. Got (a ∷ l))) ≡ Got p rest → rest ≡ []
    go (Bad k s) is again e = cc
    go (Got a s) is again e =
        let (l, q) = inner (many any (item j h d) s) a e in
        let lt : length s < length (t ∷ ts) = item_short j h d (t ∷ ts) s a is in
        again s rest l (omega arith) q
