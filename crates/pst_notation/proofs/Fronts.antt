-- What tokens are of which the words are known, lines apart.
use Rattle.std.specs.Prelude.{◌≡◌, ℕ, List, [], ◌∷◌}
use Rattle.std.proofs.Common.{refl, sym, ap, ◌∙◌}
use Rattle.pst_base.specs.declared.names.Op.TheVariants as op
use Rattle.pst_lex.specs.declared.words.Mark.{Mark}
use Rattle.pst_lex.specs.declared.words.Mark.TheVariants as mark
use Rattle.pst_lex.specs.Words as word
use Rattle.pst_lex.specs.Words.{Word, Fixed}
use Rattle.pst_grammar.specs.declared.lexeme.Sign.TheVariants as sign
use Rattle.pst_grammar.specs.declared.lexeme.Lead.TheVariants as lead
use Rattle.pst_grammar.specs.Lexemes.{Lexeme, Name, Number, Operator, Plain, Leading, marked}
use Rattle.pst_notation.specs.Tokens.{word_of, words_of}

-- a token on a line
abbrev pub lexeme_at : ℕ → Word → Lexeme
lexeme_at line (word.Name x) = Name (record { line = line; name = x })
lexeme_at line (word.Number v) = Number v
lexeme_at line (Fixed m) = marked line m

abbrev line_in : Lexeme → ℕ
line_in (Name x) = x.line
line_in (Leading l line) = line
line_in t = 0

on_its_line : (t : Lexeme) → lexeme_at (line_in t) (word_of t) ≡ t
on_its_line (Name x) = refl
on_its_line (Number v) = refl
on_its_line (Operator op.Add) = refl
on_its_line (Operator o) = refl
on_its_line (Plain sign.Null) = refl
on_its_line (Plain s) = refl
on_its_line (Leading lead.Record line) = refl
on_its_line (Leading l line) = refl

pub marked_word : (line : ℕ) (m : Mark) → word_of (marked line m) ≡ Fixed m
marked_word line mark.Record = refl
marked_word line m = refl

-- the first token, on some line, and the others
pub record Front (w : Word) (ws : List Word) (us : List Lexeme) : Type 0 where
  pub line : ℕ
  pub rest : List Lexeme
  pub is : us ≡ lexeme_at line w ∷ rest
  pub words : words_of rest ≡ ws

pub front : (w : Word) (ws : List Word) (us : List Lexeme) → words_of us ≡ w ∷ ws → Front w ws us
front w ws [] e = absurd cc
front w ws (u ∷ us) e =
    let head : word_of u ≡ w = cc in
    record { line = line_in u; rest = us; is = ap (λ (t : Lexeme). t ∷ us) (sym (on_its_line u) ∙ ap (lexeme_at (line_in u)) head); words = cc }

-- Tokens of which the words begin with those of a part: they are those of such a part, and then others.
pub record Relined {A : Type 0} (Same : A → Type 0) (spell : A → List Lexeme → List Lexeme) (ts us : List Lexeme) : Type 0 where
  pub part : A
  pub rest : List Lexeme
  pub same : Same part
  pub spells : spell part rest ≡ us
  pub words : words_of rest ≡ words_of ts
