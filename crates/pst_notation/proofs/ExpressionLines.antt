-- Tokens that are those of an expression, lines apart, are those of one with other lines.
use Rattle.std.specs.Prelude.{◌≡◌, ℕ, List, [], ◌∷◌, map}
use Rattle.std.proofs.Common.{refl, sym, ap, ◌∙◌}
use Rattle.pst_lex.specs.declared.words.Mark.TheVariants as mark
use Rattle.pst_lex.specs.Words as word
use Rattle.pst_lex.specs.Words.{Word, Fixed}
use Rattle.pst_grammar.specs.Syntax as tree
use Rattle.pst_grammar.specs.declared.lexeme.Sign.TheVariants as sign
use Rattle.pst_grammar.specs.Lexemes as token
use Rattle.pst_grammar.specs.Lexemes.{Lexeme, Operator, Plain, Leading}
use Rattle.pst_grammar.specs.Spelling.{Expr, Number, Null, Name, Parens, Field, Indexed, Negate, Not, Binary, expr, spelled, each, after_comma, listed}
use Rattle.pst_notation.specs.Tokens.{words_of, op_mark}
use Rattle.pst_notation.proofs.Fronts.{front, Relined, lexeme_at}
use Rattle.pst_base.specs.declared.names.Op.{Op}
use Rattle.pst_base.specs.declared.names.Op.TheVariants as op

operator_at : (line : ℕ) (o : Op) → lexeme_at line (Fixed (op_mark o)) ≡ Operator o
operator_at line op.Add = refl
operator_at line o = refl

pub expr_relined : (e : Expr) (ts us : List Lexeme) → words_of us ≡ words_of (spelled e ts) → Relined (λ f. expr f ≡ expr e) spelled ts us
expr_relined (Number v) ts us h =
    let a = front (word.Number v) (words_of ts) us h in
    record { part = Number v; rest = a.rest; same = refl; spells = cc; words = a.words }
expr_relined Null ts us h =
    let a = front (Fixed mark.Null) (words_of ts) us h in
    record { part = Null; rest = a.rest; same = refl; spells = cc; words = a.words }
expr_relined (Name x) ts us h =
    let a = front (word.Name x.name) (words_of ts) us h in
    record { part = Name (record { line = a.line; name = x.name }); rest = a.rest; same = refl; spells = cc; words = a.words }
expr_relined (Parens e) ts us h =
    let a = front (Fixed mark.OpenParen) (words_of (spelled e (Plain sign.CloseParen ∷ ts))) us h in
    let b = expr_relined e (Plain sign.CloseParen ∷ ts) a.rest a.words in
    let c = front (Fixed mark.CloseParen) (words_of ts) b.rest b.words in
    record { part = Parens b.part; rest = c.rest; same = ap tree.Parens b.same; spells = cc; words = c.words }
expr_relined (Field e x) ts us h =
    let a = expr_relined e (Plain sign.Dot ∷ token.Name x ∷ ts) us h in
    let b = front (Fixed mark.Dot) (word.Name x.name ∷ words_of ts) a.rest a.words in
    let c = front (word.Name x.name) (words_of ts) b.rest b.words in
    record { part = Field a.part (record { line = c.line; name = x.name }); rest = c.rest; same = ap (λ (f : tree.Expr). tree.Field f x.name) a.same; spells = cc; words = c.words }
expr_relined (Indexed e x i) ts us h =
    let tail = words_of (spelled i (Plain sign.CloseParen ∷ ts)) in
    let a = expr_relined e (Plain sign.Dot ∷ token.Name x ∷ Plain sign.OpenParen ∷ spelled i (Plain sign.CloseParen ∷ ts)) us h in
    let b = front (Fixed mark.Dot) (word.Name x.name ∷ Fixed mark.OpenParen ∷ tail) a.rest a.words in
    let c = front (word.Name x.name) (Fixed mark.OpenParen ∷ tail) b.rest b.words in
    let d = front (Fixed mark.OpenParen) tail c.rest c.words in
    let f = expr_relined i (Plain sign.CloseParen ∷ ts) d.rest d.words in
    let g = front (Fixed mark.CloseParen) (words_of ts) f.rest f.words in
    record { part = Indexed a.part (record { line = c.line; name = x.name }) f.part; rest = g.rest; same = cc; spells = cc; words = g.words }
expr_relined (Negate e) ts us h =
    let a = front (Fixed mark.Minus) (words_of (spelled e ts)) us h in
    let b = expr_relined e ts a.rest a.words in
    record { part = Negate b.part; rest = b.rest; same = ap tree.Negate b.same; spells = cc; words = b.words }
expr_relined (Not e) ts us h =
    let a = front (Fixed mark.Not) (words_of (spelled e ts)) us h in
    let b = expr_relined e ts a.rest a.words in
    record { part = Not b.part; rest = b.rest; same = ap tree.Not b.same; spells = cc; words = b.words }
expr_relined (Binary o l r) ts us h =
    let a = expr_relined l (Operator o ∷ spelled r ts) us h in
    let b = front (Fixed (op_mark o)) (words_of (spelled r ts)) a.rest a.words in
    let c = expr_relined r ts b.rest b.words in
    let is = operator_at b.line o in
    record { part = Binary o a.part c.part; rest = c.rest; same = cc; spells = cc; words = c.words }

-- how a part gets other lines
abbrev pub PartRelines : {A B : Type 0} → (A → B) → (A → List Lexeme → List Lexeme) → Type 0
PartRelines {A} view spell = (a : A) (ts us : List Lexeme) → words_of us ≡ words_of (spell a ts) → Relined (λ b. view b ≡ view a) spell ts us

-- parts one after another
pub each_relined : {A B : Type 0} (view : A → B) (spell : A → List Lexeme → List Lexeme) → PartRelines view spell →
    (l : List A) (ts us : List Lexeme) → words_of us ≡ words_of (each spell l ts) → Relined (λ m. map view m ≡ map view l) (each spell) ts us
each_relined view spell part [] ts us h = record { part = []; rest = us; same = refl; spells = refl; words = h }
each_relined view spell part (a ∷ l) ts us h =
    let b = part a (each spell l ts) us h in
    let c = each_relined view spell part l ts b.rest b.words in
    record { part = b.part ∷ c.part; rest = c.rest; same = cc; spells = ap (spell b.part) c.spells ∙ b.spells; words = c.words }

after_comma_relined : {A B : Type 0} (view : A → B) (spell : A → List Lexeme → List Lexeme) → PartRelines view spell → PartRelines view (after_comma spell)
after_comma_relined view spell part a ts us h =
    let b = front (Fixed mark.Comma) (words_of (spell a ts)) us h in
    let c = part a ts b.rest b.words in
    record { part = c.part; rest = c.rest; same = c.same; spells = cc; words = c.words }

-- parts with commas between them, and a `)` behind
pub listed_relined : {A B : Type 0} (view : A → B) (spell : A → List Lexeme → List Lexeme) → PartRelines view spell →
    (l : List A) (ts us : List Lexeme) → words_of us ≡ words_of (listed spell l ts) → Relined (λ m. map view m ≡ map view l) (listed spell) ts us
listed_relined view spell part [] ts us h =
    let a = front (Fixed mark.CloseParen) (words_of ts) us h in
    record { part = []; rest = a.rest; same = refl; spells = cc; words = a.words }
listed_relined view spell part (a ∷ l) ts us h =
    let b = part a (each (after_comma spell) l (Plain sign.CloseParen ∷ ts)) us h in
    let c = each_relined view (after_comma spell) (after_comma_relined view spell part) l (Plain sign.CloseParen ∷ ts) b.rest b.words in
    let d = front (Fixed mark.CloseParen) (words_of ts) c.rest c.words in
    record {
      part = b.part ∷ c.part;
      rest = d.rest;
      same = cc;
      spells = ap (λ (r : List Lexeme). spell b.part (each (after_comma spell) c.part r)) (sym d.is) ∙ ap (spell b.part) c.spells ∙ b.spells;
      words = d.words;
    }
