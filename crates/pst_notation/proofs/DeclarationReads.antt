-- The canonical text of a program has its tokens.
use Rattle.std.specs.Prelude.{ℕ, ℤ, pos, Bool, true, false, List, [], ◌∷◌, ◌++◌, map, codes, Option, Some, None}
use Rattle.std.specs.Option.{option_map}
use Rattle.std.specs.List.{flat_map}
use Rattle.std.specs.Fmt.{digits, signed_decimal}
use Rattle.std.proofs.Common.{refl, append_assoc, append-nil}
use Rattle.pst_base.specs.declared.names.Op.TheVariants as op
use Rattle.pst_lex.specs.declared.words.Mark.TheVariants as mark
use Rattle.pst_lex.specs.Bytes.{EndsWord}
use Rattle.pst_lex.specs.Lexing.{AreWords, LexedAs}
use Rattle.pst_grammar.specs.declared.lexeme.Label.{Label}
use Rattle.pst_grammar.specs.declared.lexeme.Sign.TheVariants as sign
use Rattle.pst_grammar.specs.declared.lexeme.Lead.TheVariants as lead
use Rattle.pst_grammar.specs.Lexemes.{Lexeme, Name, Plain, Leading}
use Rattle.pst_grammar.specs.Spelling.{listed as spelled_list}
use Rattle.pst_grammar.specs.Spelling.{TypeText, Int, Named, type_word, spelled_type, spelled_count, FieldText, Val, Ptr, field, spelled_field, Parameter}
use Rattle.pst_grammar.specs.Spelling.{parameter, spelled_parameter, Local, local, spelled_local, spelled_result, head, Item, Record, Root, Procedure, item}
use Rattle.pst_grammar.specs.Spelling.{spelled_item, each, Opening, First, Second, language, language_word, spelled_opening, Program, program}
use Rattle.pst_notation.specs.Texts.{line, listed}
use Rattle.pst_notation.proofs.Pieces.{Reads, written, space, feed, on_line, name, number, fixed, open_ends, operator}
use Rattle.pst_notation.proofs.ExpressionReads.{listed_read}
use Rattle.pst_notation.proofs.StatementReads.{block_reads, close_reads}
use Rattle.pst_notation.specs.Canonical.{type_text, typed_text, elements_text, field_text, parameter_text, local_text, gives_text, sort_text, item_text, language_text, canonical}
use Rattle.pst_notation.specs.Tokens.{program_words}

type_reads : (t : TypeText) {rest : List ℕ} {ts : List Lexeme} → EndsWord rest → Reads rest ts → Reads (type_text (type_word t) ++ rest) (spelled_type t ts)
type_reads Int ends r = fixed (Plain sign.Int) mark.Int refl ends r
type_reads (Named x) ends r = name x ends r

-- a `:`, a space and a type
kind_reads : (t : TypeText) {rest : List ℕ} {ts : List Lexeme} → EndsWord rest → Reads rest ts → Reads (58 ∷ 32 ∷ (type_text (type_word t) ++ rest)) (Plain sign.Colon ∷ spelled_type t ts)
kind_reads t ends r = fixed (Plain sign.Colon) mark.Colon refl refl (space (type_reads t ends r))

typed_reads : (x : Label) (t : TypeText) {rest : List ℕ} {ts : List Lexeme} → EndsWord rest → Reads rest ts →
    Reads (typed_text x.name (type_word t) ++ rest) (Name x ∷ Plain sign.Colon ∷ spelled_type t ts)
typed_reads x t ends r = written (name x refl (kind_reads t ends r)) (simp append_assoc)

-- the number of elements of an array
count_reads : (n : Option ℤ) {rest : List ℕ} {ts : List Lexeme} → EndsWord rest → Reads rest ts → Reads (elements_text n ++ rest) (spelled_count n ts)
count_reads None ends r = r
count_reads (Some v) ends r = space (operator op.Mul (space (number v ends r)))

count_ends : (n : Option ℤ) (rest : List ℕ) → EndsWord rest → EndsWord (elements_text n ++ rest)
count_ends None rest ends = ends
count_ends (Some v) rest ends = refl

-- what stands behind the type of a field
field_end_reads : (n : Option ℤ) {rest : List ℕ} {ts : List Lexeme} → Reads rest ts → Reads (elements_text n ++ (59 ∷ 32 ∷ rest)) (spelled_count n (Plain sign.Semicolon ∷ ts))
field_end_reads n r = count_reads n refl (fixed (Plain sign.Semicolon) mark.Semicolon refl refl (space r))

field_reads : (f : FieldText) {rest : List ℕ} {ts : List Lexeme} → Reads rest ts → Reads (field_text (field f) ++ rest) (spelled_field f ts)
field_reads (Val at x n) {rest} r =
    written (fixed (Leading lead.Val at) mark.Val refl refl (space
    (name x refl (fixed (Plain sign.Colon) mark.Colon refl refl (space (fixed (Plain sign.Int) mark.Int refl (count_ends n (59 ∷ 32 ∷ rest) refl)
    (field_end_reads n r))))))) (simp append_assoc)
field_reads (Ptr at x target n) {rest} r =
    written (fixed (Leading lead.Ptr at) mark.Ptr refl refl (space (name x refl (fixed (Plain sign.Colon) mark.Colon refl refl (space (name target (count_ends n (59 ∷ 32 ∷ rest) refl)
    (field_end_reads n r))))))) (simp append_assoc)

local_reads : (l : Local) {rest : List ℕ} {ts : List Lexeme} → Reads rest ts → Reads (local_text (local l) ++ rest) (spelled_local l ts)
local_reads l {rest} r =
    on_line 2 (codes "var " ++ typed_text l.label.name (type_word l.kind) ++ codes ";") rest
    (written (fixed (Leading lead.Var l.line) mark.Var refl refl
    (space (typed_reads l.label l.kind refl (fixed (Plain sign.Semicolon) mark.Semicolon refl refl (feed r))))) (simp append_assoc))

-- parts one after another
each_reads : {A B : Type 0} (view : A → B) (show : B → List ℕ) (spell : A → List Lexeme → List Lexeme) →
    ((a : A) (rest : List ℕ) (ts : List Lexeme) → Reads rest ts → Reads (show (view a) ++ rest) (spell a ts)) →
    (l : List A) (rest : List ℕ) (ts : List Lexeme) → Reads rest ts → Reads (flat_map show (map view l) ++ rest) (each spell l ts)
each_reads view show spell part [] rest ts r = r
each_reads view show spell part (a ∷ l) rest ts r = written (part a _ _ (each_reads view show spell part l rest ts r)) (simp append_assoc)

gives_reads : (t : Option TypeText) {rest : List ℕ} {ts : List Lexeme} → EndsWord rest → Reads rest ts → Reads (gives_text (option_map type_word t) ++ rest) (spelled_result t ts)
gives_reads None ends r = r
gives_reads (Some t) ends r = kind_reads t ends r

sort_reads : (query : Bool) (at : ℕ) {rest : List ℕ} {ts : List Lexeme} → Reads rest ts → Reads (sort_text query ++ rest) (Leading (head query) at ∷ ts)
sort_reads true at r = fixed (Leading lead.Query at) mark.Query refl refl (space r)
sort_reads false at r = fixed (Leading lead.Proc at) mark.Proc refl refl (space r)

-- the head line of a procedure
head_reads : (at : ℕ) (query : Bool) (x : Label) (parameters : List Parameter) (result : Option TypeText) {rest : List ℕ} {ts : List Lexeme} → Reads rest ts →
    Reads (line 0 (sort_text query ++ x.name ++ codes "(" ++ listed parameter_text (map parameter parameters) ++ codes ")" ++ gives_text (option_map type_word result) ++ codes " {") ++ rest)
    (Leading (head query) at ∷ Name x ∷ Plain sign.OpenParen ∷ spelled_list spelled_parameter parameters (spelled_result result (Plain sign.OpenBrace ∷ ts)))
head_reads at query x parameters result {rest} r =
    on_line 0 (sort_text query ++ x.name ++ codes "(" ++ listed parameter_text (map parameter parameters) ++ codes ")" ++ gives_text (option_map type_word result) ++ codes " {") rest
    (written (sort_reads query at (name x refl (fixed (Plain sign.OpenParen) mark.OpenParen refl (open_ends _)
    (listed_read parameter parameter_text spelled_parameter (λ p rest ts ends r. typed_reads p.label p.kind ends r) parameters _ _ (gives_reads result refl
    (space (fixed (Plain sign.OpenBrace) mark.OpenBrace refl refl (feed r)))))))) (simp append_assoc))

item_reads : (i : Item) {rest : List ℕ} {ts : List Lexeme} → Reads rest ts → Reads (item_text (item i) ++ rest) (spelled_item i ts)
item_reads (Record at x limit fields) {rest} r =
    on_line 0 (codes "record " ++ x.name ++ codes " " ++ signed_decimal limit ++ codes " { " ++ flat_map field_text (map field fields) ++ codes "}") rest
    (written (fixed (Leading lead.Record at) mark.Record refl refl (space (name x refl (space (number limit refl (space (fixed (Plain sign.OpenBrace) mark.OpenBrace refl refl
    (space (each_reads field field_text spelled_field (λ f rest ts r. field_reads f r) fields _ _ (fixed (Plain sign.CloseBrace) mark.CloseBrace refl refl (feed r))))))))))) (simp append_assoc))
item_reads (Root at x kind) {rest} r =
    on_line 0 (codes "root " ++ typed_text x.name (type_word kind) ++ codes ";") rest
    (written (fixed (Leading lead.Root at) mark.Root refl refl (space (typed_reads x kind refl (fixed (Plain sign.Semicolon) mark.Semicolon refl refl (feed r))))) (simp append_assoc))
item_reads (Procedure at query x parameters result locals body) r =
    written (head_reads at query x parameters result (each_reads local local_text spelled_local (λ l rest ts r. local_reads l r) locals _ _ (block_reads 2 body (close_reads 0 r)))) (simp append_assoc)

items_read : (p : List Item) → Reads (flat_map item_text (map item p)) (each spelled_item p [])
items_read p = written (each_reads item item_text spelled_item (λ i rest ts r. item_reads i r) p [] [] (record { lexed = λ a. (false, refl) })) (simp append-nil)

-- the first line of a program of language 2
opening_reads : (o : Opening) {rest : List ℕ} {ts : List Lexeme} → Reads rest ts → Reads (language_text (language o) ++ rest) (spelled_opening o ts)
unfolding digits
opening_reads First r = r
opening_reads (Second line) r = name (record { line = line; name = language_word }) refl (space (number (pos 2) refl (feed r)))

pub program_lexed : (p : Program) → AreWords (program_words p) → LexedAs (canonical (program p)) (program_words p)
unfolding canonical
program_lexed p are = (opening_reads p.opening (items_read p.items)).lexed are
