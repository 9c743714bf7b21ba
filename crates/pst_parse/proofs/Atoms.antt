-- What is kept of tokens is to the grammar what they are.
use Rattle.std.specs.Prelude.{◌≡◌, ℕ, List, [], ◌∷◌, ◌++◌, length, take, drop}
use Rattle.std.proofs.Common.{refl, sym, ap, ◌∙◌}
use Rattle.std.proofs.Math.Seq.{drop-append_seam}
use Rattle.std.proofs.lemmas.List.{drop-map, take-append-drop}
use Rattle.pst_lex.specs.declared.types.Token.{Token}
use Rattle.pst_lex.specs.declared.types.TokenKind.{TokenKind}
use Rattle.pst_lex.specs.declared.types.TokenKind.TheVariants as kind
use Rattle.pst_lex.specs.Words as word
use Rattle.pst_lex.specs.Words.{Word, word_of}
use Rattle.pst_grammar.specs.Lexemes.{lexeme_in, lexemes}
use Rattle.pst_grammar.specs.Grammar.{line_at}
use Rattle.pst_grammar.specs.Reader.{Bad, Fault}
use Rattle.pst_grammar.specs.Declarations.{reading_program}
use Rattle.pst_parse_expressions.specs.View.{atom_line, atom_of, atom_on, atoms_of, lexeme_of, lexemes_of}
use Rattle.pst_parse.specs.Answers.{StopsOn, first_line}

same_in : (line : ℕ) (k : TokenKind) → lexeme_of (atom_on line (word_of k)) ≡ lexeme_in line k
same_in line (kind.Name x) = refl
same_in line (kind.Number v) = refl
same_in line (kind.Mark m) = refl

pub same_lexemes : (ts : List Token) → lexemes_of (atoms_of ts) ≡ lexemes ts
same_lexemes [] = refl
same_lexemes (t ∷ ts) = rw (same_in t.line t.kind, same_lexemes ts) refl

same_line : (line : ℕ) (w : Word) → atom_line (atom_on line w) ≡ line
same_line line (word.Name x) = refl
same_line line (word.Number v) = refl
same_line line (word.Fixed m) = refl

same_first : (end : ℕ) (ts : List Token) → first_line end (atoms_of ts) ≡ line_at end ts
same_first end [] = refl
same_first end (t ∷ ts) = same_line t.line (word_of t.kind)

-- where reading stops among what is kept, it stops at that token
pub stops_at : (k : Fault) (line : ℕ) (tokens : List Token) (end : ℕ) → StopsOn k line (reading_program 63 15 (lexemes_of (atoms_of tokens))) (atoms_of tokens) end →
    (before : List Token) × (rest : List Token) × (tokens ≡ before ++ rest) × (reading_program 63 15 (lexemes tokens) ≡ Bad k (lexemes rest)) × (line ≡ line_at end rest)
stops_at k line tokens end (before, rest, at, bad, on) =
    let n = length before in
    let behind : atoms_of (drop n tokens) ≡ rest = sym (drop-map atom_of n tokens) ∙ ap (drop n) at ∙ drop-append_seam before rest in
    let shown : lexemes_of rest ≡ lexemes (drop n tokens) = ap lexemes_of (sym behind) ∙ same_lexemes (drop n tokens) in (
      take n tokens,
      drop n tokens,
      sym (take-append-drop n tokens),
      ap (reading_program 63 15) (sym (same_lexemes tokens)) ∙ bad ∙ ap (Bad k) shown,
      on ∙ ap (first_line end) (sym behind) ∙ same_first end (drop n tokens),
    )
