-- Single tokens of a canonical text, in front of a text whose tokens are known.
use Rattle.std.specs.Prelude.{◌≡◌, ℕ, ℤ, List, [], ◌∷◌, ◌++◌, replicate}
use Rattle.std.proofs.Common.{suc, zero, refl, sym, ap, subst, append_assoc}
use Rattle.std.specs.Fmt.{signed_decimal}
use Rattle.pst_base.specs.declared.names.Op.{Op}
use Rattle.pst_base.specs.declared.names.Op.TheVariants as op
use Rattle.pst_lex.specs.declared.words.Mark.{Mark}
use Rattle.pst_lex.specs.declared.words.Mark.TheVariants as mark
use Rattle.pst_lex.specs.Bytes.{EndsWord, NoPair}
use Rattle.pst_lex.specs.Words.{Word, Fixed, mark_text}
use Rattle.pst_lex.specs.Lexing.{AreWords, LexedAs, EndsMark}
use Rattle.pst_grammar.specs.declared.lexeme.Label.{Label}
use Rattle.pst_grammar.specs.Lexemes.{Lexeme, Name, Number, Operator}
use Rattle.pst_notation.specs.Texts.{op_text, line}
use Rattle.pst_notation.specs.Tokens.{word_of, words_of}

-- the text has these tokens, lines apart, if a text may have such
pub record Reads (text : List ℕ) (ts : List Lexeme) : Type 0 where
  pub lexed : AreWords (words_of ts) → LexedAs text (words_of ts)

pub written : {a b : List ℕ} {ts : List Lexeme} → Reads b ts → a ≡ b → Reads a ts
written {a} {b} {ts} r e = subst (λ (x : List ℕ). Reads x ts) (sym e) r

-- ---- what stands between tokens

space_lexed : (text : List ℕ) (ws : List Word) → LexedAs text ws → LexedAs (32 ∷ text) ws
space_lexed text [] (inside, g) = (inside, g)
space_lexed text (t ∷ ws) (blank, w, rest, is, g, p, more) = (32 ∷ blank, w, rest, ap (λ (x : List ℕ). 32 ∷ x) is, g, p, more)

feed_lexed : (text : List ℕ) (ws : List Word) → LexedAs text ws → LexedAs (10 ∷ text) ws
feed_lexed text [] (inside, g) = (inside, g)
feed_lexed text (t ∷ ws) (blank, w, rest, is, g, p, more) = (10 ∷ blank, w, rest, ap (λ (x : List ℕ). 10 ∷ x) is, g, p, more)

pub space : {text : List ℕ} {ts : List Lexeme} → Reads text ts → Reads (32 ∷ text) ts
space {text} {ts} r = record { lexed = λ a. space_lexed text (words_of ts) (r.lexed a) }

pub feed : {text : List ℕ} {ts : List Lexeme} → Reads text ts → Reads (10 ∷ text) ts
feed {text} {ts} r = record { lexed = λ a. feed_lexed text (words_of ts) (r.lexed a) }

pub indented : (n : ℕ) {text : List ℕ} {ts : List Lexeme} → Reads text ts → Reads (replicate n 32 ++ text) ts
indented zero r = r
indented (suc n) r = space (indented n r)

-- a line
pub on_line : (n : ℕ) (text rest : List ℕ) {ts : List Lexeme} → Reads (text ++ (10 ∷ rest)) ts → Reads (line n text ++ rest) ts
on_line n text rest r = written (indented n r) (simp append_assoc)

-- ---- tokens

pub name : (x : Label) {text : List ℕ} {ts : List Lexeme} → EndsWord text → Reads text ts → Reads (x.name ++ text) (Name x ∷ ts)
name x {text} ends r = record { lexed = λ a. ([], x.name, text, refl, refl, (refl, a.0, ends), r.lexed a.1) }

pub number : (v : ℤ) {text : List ℕ} {ts : List Lexeme} → EndsWord text → Reads text ts → Reads (signed_decimal v ++ text) (Number v ∷ ts)
number v {text} ends r = record { lexed = λ a. ([], signed_decimal v, text, refl, refl, (refl, a.0, ends), r.lexed a.1) }

-- a keyword or symbol
pub fixed : (t : Lexeme) (m : Mark) {text : List ℕ} {ts : List Lexeme} → word_of t ≡ Fixed m → EndsMark (mark_text m) text → Reads text ts → Reads (mark_text m ++ text) (t ∷ ts)
fixed t m {text} {ts} e ends r = record {
  lexed = subst (λ (w : Word). AreWords (w ∷ words_of ts) → LexedAs (mark_text m ++ text) (w ∷ words_of ts)) (sym e)
      (λ a. ([], mark_text m, text, refl, refl, (refl, tt, ends), r.lexed a.1));
}

pub open_ends : (rest : List ℕ) → NoPair 40 rest
open_ends [] = tt
open_ends (b ∷ rest) = refl

pub close_ends : (rest : List ℕ) → NoPair 41 rest
close_ends [] = tt
close_ends (b ∷ rest) = refl

pub minus_ends : (rest : List ℕ) → NoPair 45 rest
minus_ends [] = tt
minus_ends (b ∷ rest) = refl

pub dot_ends : (rest : List ℕ) → NoPair 46 rest
dot_ends [] = tt
dot_ends (b ∷ rest) = refl

pub operator : (o : Op) {text : List ℕ} {ts : List Lexeme} → Reads (32 ∷ text) ts → Reads (op_text o ++ (32 ∷ text)) (Operator o ∷ ts)
operator op.Add r = fixed (Operator op.Add) mark.Plus refl refl r
operator op.Sub r = fixed (Operator op.Sub) mark.Minus refl refl r
operator op.Mul r = fixed (Operator op.Mul) mark.Star refl refl r
operator op.Div r = fixed (Operator op.Div) mark.Slash refl refl r
operator op.Rem r = fixed (Operator op.Rem) mark.Percent refl refl r
operator op.Equal r = fixed (Operator op.Equal) mark.Equal refl tt r
operator op.NotEqual r = fixed (Operator op.NotEqual) mark.NotEqual refl tt r
operator op.Less r = fixed (Operator op.Less) mark.Less refl refl r
operator op.LessEqual r = fixed (Operator op.LessEqual) mark.LessEqual refl tt r
operator op.Greater r = fixed (Operator op.Greater) mark.Greater refl refl r
operator op.GreaterEqual r = fixed (Operator op.GreaterEqual) mark.GreaterEqual refl tt r
operator op.And r = fixed (Operator op.And) mark.And refl refl r
operator op.Or r = fixed (Operator op.Or) mark.Or refl refl r
