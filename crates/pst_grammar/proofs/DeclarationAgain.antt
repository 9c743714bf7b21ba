-- The spelling of declarations, in the language j, and of programs is read again.
use Rattle.std.specs.Prelude.{◌≡◌, ℕ, Bool, true, false, List, [], ◌∷◌, map, Option, Some, None}
use Rattle.std.specs.Option.{option_map}
use Rattle.std.proofs.Common.{refl, ap, ◌∙◌}
use Rattle.pst_grammar.specs.declared.lexeme.Label.{Label}
use Rattle.pst_grammar.specs.declared.lexeme.Sign.TheVariants as sign
use Rattle.pst_grammar.specs.declared.lexeme.Lead.TheVariants as lead
use Rattle.pst_grammar.specs.Lexemes as token
use Rattle.pst_grammar.specs.Lexemes.{Lexeme, Plain, Leading}
use Rattle.pst_grammar.specs.Forms.{Each, IsFormedField}
use Rattle.pst_grammar.specs.Spelling.{each, Block, Empty, Then, phrases, spelled_block, TypeText, Int, Named, type_word as plain_type, spelled_type, FieldText}
use Rattle.pst_grammar.specs.Spelling.{Val, Ptr, field as plain_field, spelled_field, Parameter, parameter as plain_parameter, spelled_parameter, Local}
use Rattle.pst_grammar.specs.Spelling.{local as plain_local, spelled_local, spelled_result, Item, Record, Root, Procedure, item as plain_item, spelled_item}
use Rattle.pst_grammar.specs.Spelling.{Opening, First, Second, language, spelled_opening, Program, program, spelled_program}
use Rattle.pst_grammar.specs.Spelling as spelling
use Rattle.pst_grammar.specs.Reader.{Got, and_then, is, after, type_word, many, listed}
use Rattle.pst_grammar.specs.Statements.{starts}
use Rattle.pst_grammar.specs.Declarations.{field, starts_field, parameter, local, starts_local, result, item, any, declarations, reading_program, procedure}
use Rattle.pst_grammar.proofs.Many.{Shortens, shortens, comma, comma_front, comma_good, many_again, listed_again, NoStart}
use Rattle.pst_grammar.proofs.StatementLaw.{FitsBlock, statement_front}
use Rattle.pst_grammar.proofs.StatementAgain.{reading_block_again}
use Rattle.pst_grammar.proofs.DeclarationLaw.{fields, field_front, field_short, parameters, parameter_good, locals, local_front, local_short, items, item_front, item_short}

type_again : (k : TypeText) (x : List Lexeme) → type_word (spelled_type k x) ≡ Got (plain_type k) x
type_again Int x = refl
type_again (Named y) x = refl

field_again : (j : ℕ) (f : FieldText) (x : List Lexeme) → IsFormedField j (plain_field f) → field j (spelled_field f x) ≡ Got (plain_field f) x
field_again j (Val line y None) x q = refl
field_again j (Val line y (Some n)) x q = rw q refl
field_again j (Ptr line y target None) x q = refl
field_again j (Ptr line y target (Some n)) x q = rw q refl

parameter_again : (p : Parameter) (x : List Lexeme) → parameter (spelled_parameter p x) ≡ Got (plain_parameter p) x
parameter_again p x = rw (type_again p.kind x) refl

local_again : (l : Local) (x : List Lexeme) → local (spelled_local l x) ≡ Got (plain_local l) x
local_again l x = rw (type_again l.kind (Plain sign.Semicolon ∷ x)) refl

result_again : (r : Option TypeText) (x : List Lexeme) → result (spelled_result r (Plain sign.OpenBrace ∷ x)) ≡ Got (option_map plain_type r) (Plain sign.OpenBrace ∷ x)
result_again None x = refl
result_again (Some k) x = rw (type_again k (Plain sign.OpenBrace ∷ x)) refl

all : {A : Type 0} (l : List A) → Each (λ _. Unit {0}) l
all [] = tt
all (a ∷ l) = (tt, all l)

each_field_back : (j : ℕ) (l : List FieldText) → Each (IsFormedField j) (map plain_field l) → Each (λ f. IsFormedField j (plain_field f)) l
each_field_back j [] q = tt
each_field_back j (f ∷ l) (q, q') = (q, each_field_back j l q')

fields_again : (j : ℕ) (l : List FieldText) (x : List Lexeme) → Each (IsFormedField j) (map plain_field l) →
    many starts_field (field j) (each spelled_field l (Plain sign.CloseBrace ∷ x)) ≡ Got (map plain_field l) (Plain sign.CloseBrace ∷ x)
fields_again j l x q =
    many_again (fields j) starts_field (field j) (λ f. IsFormedField j (plain_field f)) (λ _. Unit {0}) (field_short j) (λ f q y. field_front f y) (λ t v e. tt) (λ f y q w. field_again j f y q) l
    (Plain sign.CloseBrace ∷ x) (each_field_back j l q) tt refl

pub parameter_short : Shortens (after sign.Comma parameter)
parameter_short = shortens (comma parameters) (is sign.Comma) (after sign.Comma parameter) (comma_front spelled_parameter (λ _. Unit {0})) (comma_good parameters parameter parameter_good).law

parameters_again : (l : List Parameter) (x : List Lexeme) → listed parameter (spelling.listed spelled_parameter l x) ≡ Got (map plain_parameter l) x
parameters_again l x =
    listed_again parameters parameter (λ _. Unit {0}) parameter_short (λ p x q. (token.Name p.label, _, refl, refl))
    (λ p t y q e. parameter_again p (t ∷ y)) (λ p y q. parameter_again p (Plain sign.CloseParen ∷ y)) l x (all l)

start_no_local : (t : Lexeme) → starts t ≡ true → starts_local t ≡ false
start_no_local (Leading lead.Var line) e = cc
start_no_local t e = refl

block_no_local : (j h d : ℕ) (b : Block) (x : List Lexeme) → FitsBlock j h d b → NoStart starts_local (spelled_block b (Plain sign.CloseBrace ∷ x))
block_no_local j h d Empty x fits = refl
block_no_local j h d (Then s b) x ((q, q'), low, shallow) =
    let (t, v, is', st) = statement_front j s q (spelled_block b (Plain sign.CloseBrace ∷ x)) in rw is' (start_no_local t st)

locals_again : (j h d : ℕ) (l : List Local) (b : Block) (x : List Lexeme) → FitsBlock j h d b →
    many starts_local local (each spelled_local l (spelled_block b (Plain sign.CloseBrace ∷ x))) ≡ Got (map plain_local l) (spelled_block b (Plain sign.CloseBrace ∷ x))
locals_again j h d l b x fits =
    many_again locals starts_local local (λ _. Unit {0}) (λ _. Unit {0}) local_short local_front (λ t v e. tt) (λ f y q w. local_again f y) l (spelled_block b (Plain sign.CloseBrace ∷ x)) (all l) tt
    (block_no_local j h d b x fits)

procedure_again : (j h d line : ℕ) (query : Bool) (y : Label) (ps : List Parameter) (r : Option TypeText) (ls : List Local) (b : Block) (x : List Lexeme) → FitsBlock j h d b →
    procedure j h d line query (token.Name y ∷ Plain sign.OpenParen ∷ spelling.listed spelled_parameter ps
    (spelled_result r (Plain sign.OpenBrace ∷ each spelled_local ls (spelled_block b (Plain sign.CloseBrace ∷ x))))) ≡ Got (plain_item (Procedure line query y ps r ls b)) x
procedure_again j h d line query y ps r ls b x fits =
    rw (
      parameters_again ps (spelled_result r (Plain sign.OpenBrace ∷ each spelled_local ls (spelled_block b (Plain sign.CloseBrace ∷ x)))),
      result_again r (each spelled_local ls (spelled_block b (Plain sign.CloseBrace ∷ x))),
      locals_again j h d ls b x fits,
      reading_block_again j h d b (Plain sign.CloseBrace ∷ x) fits tt refl,
    ) refl

pub item_again : (j h d : ℕ) (i : Item) (x : List Lexeme) → (items j h d).In i → item j h d (spelled_item i x) ≡ Got (plain_item i) x
item_again j h d (Record line y limit l) x (formed, low, few) = rw (fields_again j l x formed) refl
item_again j h d (Root line y k) x fits = rw (type_again k (Plain sign.Semicolon ∷ x)) refl
item_again j h d (Procedure line false y ps r ls b) x fits = procedure_again j h d line false y ps r ls b x fits
item_again j h d (Procedure line true y ps r ls b) x fits = procedure_again j h d line true y ps r ls b x fits

declarations_again : (j h d : ℕ) (l : List Item) → Each (items j h d).In l → declarations j h d (each spelled_item l []) ≡ Got (record { language = j; items = map plain_item l }) []
declarations_again j h d l fits =
    ap (λ r. and_then r (λ is. Got (record { language = j; items = is })))
    (many_again (items j h d) any (item j h d) (items j h d).In (λ _. Unit {0}) (item_short j h d) (λ i q x. item_front i x) (λ t v e. tt) (λ i y q w. item_again j h d i y q) l [] fits tt tt)

-- no declaration begins with a name
first_again : (h d : ℕ) (l : List Item) (x : List Lexeme) → Each (items 1 h d).In l → reading_program h d (each spelled_item l []) ≡ declarations 1 h d (each spelled_item l [])
first_again h d [] x fits = refl
first_again h d (Record line y limit fs ∷ l) x fits = refl
first_again h d (Root line y k ∷ l) x fits = refl
first_again h d (Procedure line query y ps r ls b ∷ l) x fits = refl

opened_again : (h d : ℕ) (o : Opening) (l : List Item) → Each (items (language o) h d).In l →
    reading_program h d (spelled_opening o (each spelled_item l [])) ≡ Got (record { language = language o; items = map plain_item l }) []
opened_again h d First l fits = first_again h d l [] fits ∙ declarations_again 1 h d l fits
opened_again h d (Second line) l fits = declarations_again 2 h d l fits

-- the tokens of a program within the limits are read as that program
pub program_again : (h d : ℕ) (p : Program) → Each (items (language p.opening) h d).In p.items → reading_program h d (spelled_program p []) ≡ Got (program p) []
program_again h d p fits = opened_again h d p.opening p.items fits
