-- Tokens that are those of a program, lines apart, are those of a program with other lines.
use Rattle.std.specs.Prelude.{◌≡◌, ℕ, ℤ, pos, Bool, true, false, List, [], ◌∷◌, map, Option, Some, None}
use Rattle.std.specs.Option.{option_map}
use Rattle.std.proofs.Common.{refl, sym, ap, ◌∙◌}
use Rattle.pst_lex.specs.declared.words.Mark.TheVariants as mark
use Rattle.pst_lex.specs.Words as word
use Rattle.pst_lex.specs.Words.{Word, Fixed}
use Rattle.pst_grammar.specs.Syntax as tree
use Rattle.pst_grammar.specs.declared.lexeme.Label.{Label}
use Rattle.pst_grammar.specs.declared.lexeme.Sign.TheVariants as sign
use Rattle.pst_grammar.specs.declared.lexeme.Lead.TheVariants as lead
use Rattle.pst_grammar.specs.Lexemes as token
use Rattle.pst_grammar.specs.Lexemes.{Lexeme, Plain, Leading}
use Rattle.pst_grammar.specs.Spelling.{TypeText, Int, Named, type_word, spelled_type, spelled_count, FieldText, Val, Ptr, field, spelled_field, Parameter}
use Rattle.pst_grammar.specs.Spelling.{parameter, spelled_parameter, Local, local, spelled_local, spelled_result, head, Block, phrases, spelled_block, Item}
use Rattle.pst_grammar.specs.Spelling.{Record, Root, Procedure, item, spelled_item, each, listed, Opening, First, Second, language, language_word}
use Rattle.pst_grammar.specs.Spelling.{spelled_opening, Program, program, spelled_program}
use Rattle.pst_notation.specs.Lines.{block_lineless, field_lineless, local_lineless, item_lineless, lineless}
use Rattle.pst_notation.specs.Tokens.{words_of, program_words, lead_mark}
use Rattle.pst_notation.proofs.Fronts.{front, Relined, lexeme_at}
use Rattle.pst_notation.proofs.ExpressionLines.{each_relined, listed_relined}
use Rattle.pst_notation.proofs.StatementLines.{block_relined}

type_relined : (t : TypeText) (ts us : List Lexeme) → words_of us ≡ words_of (spelled_type t ts) → Relined (λ u. type_word u ≡ type_word t) spelled_type ts us
type_relined Int ts us h =
    let a = front (Fixed mark.Int) (words_of ts) us h in
    record { part = Int; rest = a.rest; same = refl; spells = cc; words = a.words }
type_relined (Named x) ts us h =
    let a = front (word.Name x.name) (words_of ts) us h in
    record { part = Named (record { line = a.line; name = x.name }); rest = a.rest; same = refl; spells = cc; words = a.words }

-- a `:` and a type
abbrev kind_spelled : TypeText → List Lexeme → List Lexeme
kind_spelled t rest = Plain sign.Colon ∷ spelled_type t rest

kind_relined : (t : TypeText) (ts us : List Lexeme) → words_of us ≡ words_of (kind_spelled t ts) → Relined (λ u. type_word u ≡ type_word t) kind_spelled ts us
kind_relined t ts us h =
    let a = front (Fixed mark.Colon) (words_of (spelled_type t ts)) us h in
    let b = type_relined t ts a.rest a.words in
    record { part = b.part; rest = b.rest; same = b.same; spells = cc; words = b.words }

result_relined : (t : Option TypeText) (ts us : List Lexeme) → words_of us ≡ words_of (spelled_result t ts) → Relined (λ u. option_map type_word u ≡ option_map type_word t) spelled_result ts us
result_relined None ts us h = record { part = None; rest = us; same = refl; spells = refl; words = h }
result_relined (Some t) ts us h =
    let a = kind_relined t ts us h in
    record { part = Some a.part; rest = a.rest; same = ap (λ (k : tree.TypeWord). Some k) a.same; spells = a.spells; words = a.words }

-- the number of elements of an array, whose tokens have no lines
record CountedFront (n : Option ℤ) (ts us : List Lexeme) : Type 0 where
  rest : List Lexeme
  spells : spelled_count n rest ≡ us
  words : words_of rest ≡ words_of ts

count_relined : (n : Option ℤ) (ts us : List Lexeme) → words_of us ≡ words_of (spelled_count n ts) → CountedFront n ts us
count_relined None ts us h = record { rest = us; spells = refl; words = h }
count_relined (Some v) ts us h =
    let a = front (Fixed mark.Star) (word.Number v ∷ words_of ts) us h in
    let b = front (word.Number v) (words_of ts) a.rest a.words in
    record { rest = b.rest; spells = cc; words = b.words }

abbrev bare_field : FieldText → tree.FieldText
bare_field f = field_lineless (field f)

field_relined : (f : FieldText) (ts us : List Lexeme) → words_of us ≡ words_of (spelled_field f ts) → Relined (λ g. bare_field g ≡ bare_field f) spelled_field ts us
field_relined (Val line x n) ts us h =
    let tail = words_of (spelled_count n (Plain sign.Semicolon ∷ ts)) in
    let a = front (Fixed mark.Val) (word.Name x.name ∷ Fixed mark.Colon ∷ Fixed mark.Int ∷ tail) us h in
    let b = front (word.Name x.name) (Fixed mark.Colon ∷ Fixed mark.Int ∷ tail) a.rest a.words in
    let c = front (Fixed mark.Colon) (Fixed mark.Int ∷ tail) b.rest b.words in
    let d = front (Fixed mark.Int) tail c.rest c.words in
    let e = count_relined n (Plain sign.Semicolon ∷ ts) d.rest d.words in
    let f = front (Fixed mark.Semicolon) (words_of ts) e.rest e.words in
    record { part = Val a.line (record { line = b.line; name = x.name }) n; rest = f.rest; same = refl; spells = cc; words = f.words }
field_relined (Ptr line x target n) ts us h =
    let tail = words_of (spelled_count n (Plain sign.Semicolon ∷ ts)) in
    let a = front (Fixed mark.Ptr) (word.Name x.name ∷ Fixed mark.Colon ∷ word.Name target.name ∷ tail) us h in
    let b = front (word.Name x.name) (Fixed mark.Colon ∷ word.Name target.name ∷ tail) a.rest a.words in
    let c = front (Fixed mark.Colon) (word.Name target.name ∷ tail) b.rest b.words in
    let d = front (word.Name target.name) tail c.rest c.words in
    let e = count_relined n (Plain sign.Semicolon ∷ ts) d.rest d.words in
    let f = front (Fixed mark.Semicolon) (words_of ts) e.rest e.words in
    record { part = Ptr a.line (record { line = b.line; name = x.name }) (record { line = d.line; name = target.name }) n; rest = f.rest; same = refl; spells = cc; words = f.words }

bare : List ℕ → tree.TypeWord → tree.LocalText
bare x kind = record { line = 0; name = x; kind = kind }

abbrev bare_parameter : Parameter → tree.LocalText
bare_parameter p = local_lineless (parameter p)

parameter_relined : (p : Parameter) (ts us : List Lexeme) → words_of us ≡ words_of (spelled_parameter p ts) → Relined (λ q. bare_parameter q ≡ bare_parameter p) spelled_parameter ts us
parameter_relined p ts us h =
    let a = front (word.Name p.label.name) (words_of (kind_spelled p.kind ts)) us h in
    let b = kind_relined p.kind ts a.rest a.words in
    record {
      part = record { label = record { line = a.line; name = p.label.name }; kind = b.part };
      rest = b.rest;
      same = ap (λ (k : tree.TypeWord). let l : tree.LocalText = record { line = 0; name = p.label.name; kind = k } in l) b.same;
      spells = cc;
      words = b.words;
    }

abbrev bare_local : Local → tree.LocalText
bare_local l = local_lineless (local l)

local_relined : (l : Local) (ts us : List Lexeme) → words_of us ≡ words_of (spelled_local l ts) → Relined (λ m. bare_local m ≡ bare_local l) spelled_local ts us
local_relined l ts us h =
    let a = front (Fixed mark.Var) (word.Name l.label.name ∷ words_of (kind_spelled l.kind (Plain sign.Semicolon ∷ ts))) us h in
    let b = front (word.Name l.label.name) (words_of (kind_spelled l.kind (Plain sign.Semicolon ∷ ts))) a.rest a.words in
    let c = kind_relined l.kind (Plain sign.Semicolon ∷ ts) b.rest b.words in
    let d = front (Fixed mark.Semicolon) (words_of ts) c.rest c.words in
    record {
      part = record { line = a.line; label = record { line = b.line; name = l.label.name }; kind = c.part };
      rest = d.rest;
      same = ap (λ (k : tree.TypeWord). let m : tree.LocalText = record { line = 0; name = l.label.name; kind = k } in m) c.same;
      spells = cc;
      words = d.words;
    }

map_twice : {A B C : Type 0} (g : B → C) (f : A → B) (l : List A) → map g (map f l) ≡ map (λ a. g (f a)) l
map_twice g f [] = refl
map_twice g f (a ∷ l) = ap (λ (m : List _). g (f a) ∷ m) (map_twice g f l)

abbrev bare_item : Item → tree.Item
bare_item i = item_lineless (item i)

-- what stands in braces behind the head of a procedure
abbrev body_spelled : List Local → Block → List Lexeme → List Lexeme
body_spelled locals body ts = Plain sign.OpenBrace ∷ each spelled_local locals (spelled_block body (Plain sign.CloseBrace ∷ ts))

head_at : (line : ℕ) (query : Bool) → lexeme_at line (Fixed (lead_mark (head query))) ≡ Leading (head query) line
head_at line true = refl
head_at line false = refl

record RelinedBody (locals : List Local) (body : Block) (ts us : List Lexeme) : Type 0 where
  vars : List Local
  block : Block
  rest : List Lexeme
  same_vars : map bare_local vars ≡ map bare_local locals
  same_block : block_lineless (phrases block) ≡ block_lineless (phrases body)
  spells : body_spelled vars block rest ≡ us
  words : words_of rest ≡ words_of ts

body_spells : (locals : List Local) (body : Block) (us a b c d : List Lexeme) → us ≡ Plain sign.OpenBrace ∷ a → each spelled_local locals b ≡ a → spelled_block body c ≡ b →
    c ≡ Plain sign.CloseBrace ∷ d → body_spelled locals body d ≡ us
body_spells locals body us a b c d e f g h = cc

body_relined : (locals : List Local) (body : Block) (ts us : List Lexeme) → words_of us ≡ words_of (body_spelled locals body ts) → RelinedBody locals body ts us
body_relined locals body ts us h =
    let a = front (Fixed mark.OpenBrace) (words_of (each spelled_local locals (spelled_block body (Plain sign.CloseBrace ∷ ts)))) us h in
    let b = each_relined bare_local spelled_local local_relined locals (spelled_block body (Plain sign.CloseBrace ∷ ts)) a.rest a.words in
    let c = block_relined body (Plain sign.CloseBrace ∷ ts) b.rest b.words in
    let d = front (Fixed mark.CloseBrace) (words_of ts) c.rest c.words in
    record {
      vars = b.part;
      block = c.part;
      rest = d.rest;
      same_vars = b.same;
      same_block = c.same;
      spells = body_spells b.part c.part us a.rest b.rest c.rest d.rest a.is b.spells c.spells d.is;
      words = d.words;
    }

-- what stands behind the name of a procedure
abbrev signed : List Parameter → Option TypeText → List Local → Block → List Lexeme → List Lexeme
signed parameters result locals body ts = Plain sign.OpenParen ∷ listed spelled_parameter parameters (spelled_result result (body_spelled locals body ts))

record RelinedProcedure (parameters : List Parameter) (result : Option TypeText) (locals : List Local) (body : Block) (ts us : List Lexeme) : Type 0 where
  takes : List Parameter
  gives : Option TypeText
  vars : List Local
  block : Block
  rest : List Lexeme
  same_takes : map bare_parameter takes ≡ map bare_parameter parameters
  same_gives : option_map type_word gives ≡ option_map type_word result
  same_vars : map bare_local vars ≡ map bare_local locals
  same_block : block_lineless (phrases block) ≡ block_lineless (phrases body)
  spells : signed takes gives vars block rest ≡ us
  words : words_of rest ≡ words_of ts

signed_spells : (parameters : List Parameter) (result : Option TypeText) (locals : List Local) (body : Block) (us a b c d : List Lexeme) → us ≡ Plain sign.OpenParen ∷ a →
    listed spelled_parameter parameters b ≡ a → spelled_result result c ≡ b → body_spelled locals body d ≡ c → signed parameters result locals body d ≡ us
signed_spells parameters result locals body us a b c d e f g h =
    ap (λ (r : List Lexeme). Plain sign.OpenParen ∷ listed spelled_parameter parameters r) (ap (spelled_result result) h ∙ g) ∙ ap (λ (r : List Lexeme). Plain sign.OpenParen ∷ r) f ∙ sym e

signed_relined : (parameters : List Parameter) (result : Option TypeText) (locals : List Local) (body : Block) (ts us : List Lexeme) →
    words_of us ≡ words_of (signed parameters result locals body ts) → RelinedProcedure parameters result locals body ts us
signed_relined parameters result locals body ts us h =
    let a = front (Fixed mark.OpenParen) (words_of (listed spelled_parameter parameters (spelled_result result (body_spelled locals body ts)))) us h in
    let b = listed_relined bare_parameter spelled_parameter parameter_relined parameters (spelled_result result (body_spelled locals body ts)) a.rest a.words in
    let c = result_relined result (body_spelled locals body ts) b.rest b.words in
    let d = body_relined locals body ts c.rest c.words in
    record {
      takes = b.part;
      gives = c.part;
      vars = d.vars;
      block = d.block;
      rest = d.rest;
      same_takes = b.same;
      same_gives = c.same;
      same_vars = d.same_vars;
      same_block = d.same_block;
      spells = signed_spells b.part c.part d.vars d.block us a.rest b.rest c.rest d.rest a.is b.spells c.spells d.spells;
      words = d.words;
    }

record_same : (x : List ℕ) (limit : _) (fields other : List FieldText) → map bare_field other ≡ map bare_field fields →
    tree.Record 0 x limit (map field_lineless (map field other)) ≡ tree.Record 0 x limit (map field_lineless (map field fields))
record_same x limit fields other same = ap (λ (l : List tree.FieldText). tree.Record 0 x limit l) (map_twice field_lineless field other ∙ same ∙ sym (map_twice field_lineless field fields))

record_spells : (line : ℕ) (x : Label) (limit : _) (fields : List FieldText) (us a b c d e f : List Lexeme) → us ≡ Leading lead.Record line ∷ a → a ≡ token.Name x ∷ b → b ≡ token.Number limit ∷ c →
    c ≡ Plain sign.OpenBrace ∷ d → each spelled_field fields e ≡ d → e ≡ Plain sign.CloseBrace ∷ f → spelled_item (Record line x limit fields) f ≡ us
record_spells line x limit fields us a b c d e f h0 h1 h2 h3 h4 h5 = cc

abbrev made : Bool → List ℕ → List tree.LocalText → Option tree.TypeWord → List tree.LocalText → tree.Phrases → tree.Item
made query x parameters result locals body = tree.Procedure record { line = 0; query = query; name = x; parameters = parameters; result = result; locals = locals; body = body }

made_same : (query : Bool) (x : List ℕ) (p q : List tree.LocalText) (r s : Option tree.TypeWord) (l m : List tree.LocalText) (b c : tree.Phrases) →
    q ≡ p → s ≡ r → m ≡ l → c ≡ b → made query x q s m c ≡ made query x p r l b
made_same query x p q r s l m b c e f g h = rw (e, f, g, h) refl

procedure_same : (query : Bool) (x : List ℕ) (parameters takes : List Parameter) (result gives : Option TypeText) (locals vars : List Local) (body block : Block) →
    map bare_parameter takes ≡ map bare_parameter parameters → option_map type_word gives ≡ option_map type_word result → map bare_local vars ≡ map bare_local locals →
    block_lineless (phrases block) ≡ block_lineless (phrases body) →
    made query x (map local_lineless (map parameter takes)) (option_map type_word gives) (map local_lineless (map local vars)) (block_lineless (phrases block))
    ≡ made query x (map local_lineless (map parameter parameters)) (option_map type_word result) (map local_lineless (map local locals)) (block_lineless (phrases body))
procedure_same query x parameters takes result gives locals vars body block e f g h =
    made_same query x _ _ _ _ _ _ _ _
    (map_twice local_lineless parameter takes ∙ e ∙ sym (map_twice local_lineless parameter parameters)) f
    (map_twice local_lineless local vars ∙ g ∙ sym (map_twice local_lineless local locals)) h

item_relined : (i : Item) (ts us : List Lexeme) → words_of us ≡ words_of (spelled_item i ts) → Relined (λ j. bare_item j ≡ bare_item i) spelled_item ts us
item_relined (Record line x limit fields) ts us h =
    let tail = words_of (each spelled_field fields (Plain sign.CloseBrace ∷ ts)) in
    let a = front (Fixed mark.Record) (word.Name x.name ∷ word.Number limit ∷ Fixed mark.OpenBrace ∷ tail) us h in
    let b = front (word.Name x.name) (word.Number limit ∷ Fixed mark.OpenBrace ∷ tail) a.rest a.words in
    let c = front (word.Number limit) (Fixed mark.OpenBrace ∷ tail) b.rest b.words in
    let d = front (Fixed mark.OpenBrace) tail c.rest c.words in
    let e = each_relined bare_field spelled_field field_relined fields (Plain sign.CloseBrace ∷ ts) d.rest d.words in
    let f = front (Fixed mark.CloseBrace) (words_of ts) e.rest e.words in
    record {
      part = Record a.line (record { line = b.line; name = x.name }) limit e.part;
      rest = f.rest;
      same = record_same x.name limit fields e.part e.same;
      spells = record_spells a.line (record { line = b.line; name = x.name }) limit e.part us a.rest b.rest c.rest d.rest e.rest f.rest a.is b.is c.is d.is e.spells f.is;
      words = f.words;
    }
item_relined (Root line x kind) ts us h =
    let a = front (Fixed mark.Root) (word.Name x.name ∷ words_of (kind_spelled kind (Plain sign.Semicolon ∷ ts))) us h in
    let b = front (word.Name x.name) (words_of (kind_spelled kind (Plain sign.Semicolon ∷ ts))) a.rest a.words in
    let c = kind_relined kind (Plain sign.Semicolon ∷ ts) b.rest b.words in
    let d = front (Fixed mark.Semicolon) (words_of ts) c.rest c.words in
    record {
      part = Root a.line (record { line = b.line; name = x.name }) c.part;
      rest = d.rest;
      same = ap (λ (k : tree.TypeWord). tree.Root 0 x.name k) c.same;
      spells = cc;
      words = d.words;
    }
item_relined (Procedure line query x parameters result locals body) ts us h =
    let a = front (Fixed (lead_mark (head query))) (word.Name x.name ∷ words_of (signed parameters result locals body ts)) us h in
    let b = front (word.Name x.name) (words_of (signed parameters result locals body ts)) a.rest a.words in
    let c = signed_relined parameters result locals body ts b.rest b.words in
    record {
      part = Procedure a.line query (record { line = b.line; name = x.name }) c.takes c.gives c.vars c.block;
      rest = c.rest;
      same = procedure_same query x.name parameters c.takes result c.gives locals c.vars body c.block c.same_takes c.same_gives c.same_vars c.same_block;
      spells = procedure_spells a.line query (record { line = b.line; name = x.name }) c.takes c.gives c.vars c.block us a.rest b.rest c.rest
          (a.is ∙ ap (λ (t : Lexeme). t ∷ a.rest) (head_at a.line query)) b.is c.spells;
      words = c.words;
    }
  where
    procedure_spells : (line : ℕ) (query : Bool) (x : Label) (parameters : List Parameter) (result : Option TypeText) (locals : List Local) (body : Block) (us a b c : List Lexeme) →
        us ≡ Leading (head query) line ∷ a → a ≡ token.Name x ∷ b → signed parameters result locals body c ≡ b → spelled_item (Procedure line query x parameters result locals body) c ≡ us
    procedure_spells line query x parameters result locals body us a b c e f g =
        ap (λ (r : List Lexeme). Leading (head query) line ∷ token.Name x ∷ r) g ∙ ap (λ (r : List Lexeme). Leading (head query) line ∷ r) (sym f) ∙ sym e

opening_relined : (o : Opening) (ts us : List Lexeme) → words_of us ≡ words_of (spelled_opening o ts) → Relined (λ q. language q ≡ language o) spelled_opening ts us
opening_relined First ts us h = record { part = First; rest = us; same = refl; spells = refl; words = h }
opening_relined (Second line) ts us h =
    let a = front (word.Name language_word) (word.Number (pos 2) ∷ words_of ts) us h in
    let b = front (word.Number (pos 2)) (words_of ts) a.rest a.words in
    record { part = Second a.line; rest = b.rest; same = refl; spells = cc; words = b.words }

-- a program with the lines of tokens that are its, lines apart
pub record RelinedProgram (p : Program) (us : List Lexeme) : Type 0 where
  pub whole : Program
  pub same : lineless (program whole) ≡ lineless (program p)
  pub spells : spelled_program whole [] ≡ us

pub program_relined : (p : Program) (us : List Lexeme) → words_of us ≡ program_words p → RelinedProgram p us
program_relined p us h =
    let a = opening_relined p.opening (each spelled_item p.items []) us h in
    let b = each_relined bare_item spelled_item item_relined p.items [] a.rest a.words in
    record {
      whole = record { opening = a.part; items = b.part };
      same = text_same _ _ _ _ a.same (map_twice item_lineless item b.part ∙ b.same ∙ sym (map_twice item_lineless item p.items));
      spells = ap (λ (r : List Lexeme). spelled_opening a.part (each spelled_item b.part r)) (sym (none b.rest b.words)) ∙ ap (spelled_opening a.part) b.spells ∙ a.spells;
    }
  where
    none : (ts : List Lexeme) → words_of ts ≡ [] → ts ≡ []
    none [] e = refl
    none (t ∷ ts) e = cc

    text_same : (k l : ℕ) (xs ys : List tree.Item) → k ≡ l → xs ≡ ys → ◌≡◌ {A = tree.ProgramText} (record { language = k; items = xs }) (record { language = l; items = ys })
    text_same k l xs ys e f = rw (e, f) refl
