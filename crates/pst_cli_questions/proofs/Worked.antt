-- The names of small programs, by computing.
use Rattle.std.specs.Prelude.{◌≡◌, ℕ, ◌⊎◌, List, [], ◌∷◌, drop, codes, pos, Some, false}
use Rattle.std.proofs.Common.{get_or, refl, ap, arith, inl, inr}
use Rattle.std.specs.Fmt.{digits}
use Rattle.std.proofs.lemmas.List.Elements.{All-head}
use Rattle.pst_base.specs.declared.names.TypeNo.{TypeNo}
use Rattle.pst_lex.specs.declared.types.Token.{Token}
use Rattle.pst_lex.specs.declared.types.TokenKind.{TokenKind}
use Rattle.pst_lex.specs.declared.types.TokenKind.TheVariants as kind
use Rattle.pst_lex.specs.declared.words.Mark.{Mark}
use Rattle.pst_lex.specs.declared.words.Mark.TheVariants as mark
use Rattle.pst_lex.specs.Words.{mark_text}
use Rattle.pst_lex.specs.Lexing.{IsName, LexedTo, EndsAt, Lexes}
use Rattle.pst_grammar.specs.Syntax as tree
use Rattle.pst_grammar.specs.Forms.{IsShallow}
use Rattle.pst_grammar.specs.Spelling.{First, Second, Record, Ptr}
use Rattle.pst_grammar.specs.Grammar.{HasTree}
use Rattle.pst_questions.specs.Renaming.{AreNamedApart}
use Rattle.pst_cli_questions.specs.Accepted.{declared_name}
use Rattle.pst_cli_questions.specs.Worked.{called, called_typed, paired, WorkedNames}
use Rattle.pst_cli_questions.proofs.Names.{declared_names}

-- ---- a text

abbrev token : TokenKind → (from to : ℕ) → Token
token k from to = record { kind = k; span = record { from = from; to = to }; line = 1 }

abbrev tokens : List Token
tokens = token (kind.Mark mark.Record) 0 6 ∷ token (kind.Name (codes "N")) 7 8 ∷ token (kind.Number (pos 1)) 9 10 ∷ token (kind.Mark mark.OpenBrace)
    11 12 ∷ token (kind.Mark mark.CloseBrace) 13 14 ∷ []

-- no keyword or symbol begins with `N`, `f` or `l`
no_mark : (x : List ℕ) → (get_or x 0 0 ≡ 78) ⊎ ((get_or x 0 0 ≡ 102) ⊎ (get_or x 0 0 ≡ 108)) → (m : Mark) → x ≡ mark_text m → ⊥
no_mark x (inl h) mark.Record e = let first = ap (λ (l : List ℕ). get_or l 0 0) e in omega (arith, first, h)
no_mark x (inl h) m e = let first = ap (λ (l : List ℕ). get_or l 0 0) e in omega (arith, first, h)
no_mark x (inr (inl h)) mark.Record e = let first = ap (λ (l : List ℕ). get_or l 0 0) e in omega (arith, first, h)
no_mark x (inr (inl h)) m e = let first = ap (λ (l : List ℕ). get_or l 0 0) e in omega (arith, first, h)
no_mark x (inr (inr h)) mark.Record e = let first = ap (λ (l : List ℕ). get_or l 0 0) e in omega (arith, first, h)
no_mark x (inr (inr h)) m e = let first = ap (λ (l : List ℕ). get_or l 0 0) e in omega (arith, first, h)

is_name : IsName (codes "N")
is_name = record { starts = refl; all = refl; short = omega arith; no_keyword = no_mark (codes "N") (inl refl) }

-- the tokens from one of them on, in what is left of the text
abbrev From : ℕ → List ℕ → (at : ℕ) → Type 0
From number text at = LexedTo (EndsAt 1) text at 1 (drop number tokens)

lexed : Lexes (codes "record N 1 { }") tokens 1
unfolding digits
lexed =
    let end : From 5 [] 14 = (false, refl, refl) in
    let close : From 4 (codes " }") 12 = (codes " ", codes "}", [], refl, refl, (refl, tt, tt), refl, refl, refl, end) in
    let brace : From 3 (codes " { }") 10 = (codes " ", codes "{", codes " }", refl, refl, (refl, tt, refl), refl, refl, refl, close) in
    let limit : From 2 (codes " 1 { }") 8 = (codes " ", codes "1", codes " { }", refl, refl, (refl, omega arith, refl), refl, refl, refl, brace) in
    let name : From 1 (codes " N 1 { }") 6 = (codes " ", codes "N", codes " 1 { }", refl, refl, (refl, is_name, refl), refl, refl, refl, limit) in
    ([], codes "record", codes " N 1 { }", refl, refl, (refl, tt, refl), refl, refl, refl, name)

shallow : IsShallow 63 15 (called (codes "N"))
shallow = record { formed = (inl refl, (tt, tt)); height = omega arith; nesting = omega arith }

read : HasTree (codes "record N 1 { }") (called (codes "N"))
read = (record { list = tokens; end = 1 }, lexed, (record { opening = First; items = Record 1 (record { line = 1; name = codes "N" }) (pos 1) [] ∷ [] }, refl, shallow, refl))

-- ---- a text of language 2

field_is_name : IsName (codes "f")
field_is_name = record { starts = refl; all = refl; short = omega arith; no_keyword = no_mark (codes "f") (inr (inl refl)) }

language_is_name : IsName (codes "language")
language_is_name = record { starts = refl; all = refl; short = omega arith; no_keyword = no_mark (codes "language") (inr (inr refl)) }

abbrev second_tokens : List Token
second_tokens =
    token (kind.Name (codes "language")) 0 8 ∷ token (kind.Number (pos 2)) 9 10 ∷ token (kind.Mark mark.Record) 11 17 ∷ token (kind.Name (codes "N")) 18 19
    ∷ token (kind.Number (pos 1)) 20 21 ∷ token (kind.Mark mark.OpenBrace) 22 23 ∷ token (kind.Mark mark.Ptr) 24 27 ∷ token (kind.Name (codes "f")) 28 29 ∷ token (kind.Mark mark.Colon) 29 30
    ∷ token (kind.Name (codes "N")) 31 32 ∷ token (kind.Mark mark.Star) 33 34 ∷ token (kind.Number (pos 2)) 35 36 ∷ token (kind.Mark mark.Semicolon)
    36 37 ∷ token (kind.Mark mark.CloseBrace) 38 39 ∷ []

abbrev SecondFrom : ℕ → List ℕ → (at : ℕ) → Type 0
SecondFrom number text at = LexedTo (EndsAt 1) text at 1 (drop number second_tokens)

second_lexed : Lexes (codes "language 2 record N 1 { ptr f: N * 2; }") second_tokens 1
unfolding digits
second_lexed =
    let end : SecondFrom 14 [] 39 = (false, refl, refl) in
    let close : SecondFrom 13 (codes " }") 37 = (codes " ", codes "}", [], refl, refl, (refl, tt, tt), refl, refl, refl, end) in
    let semicolon : SecondFrom 12 (codes "; }") 36 = ([], codes ";", codes " }", refl, refl, (refl, tt, refl), refl, refl, refl, close) in
    let count : SecondFrom 11 (codes " 2; }") 34 = (codes " ", codes "2", codes "; }", refl, refl, (refl, omega arith, refl), refl, refl, refl, semicolon) in
    let star : SecondFrom 10 (codes " * 2; }") 32 = (codes " ", codes "*", codes " 2; }", refl, refl, (refl, tt, refl), refl, refl, refl, count) in
    let target : SecondFrom 9 (codes " N * 2; }") 30 = (codes " ", codes "N", codes " * 2; }", refl, refl, (refl, is_name, refl), refl, refl, refl, star) in
    let colon : SecondFrom 8 (codes ": N * 2; }") 29 = ([], codes ":", codes " N * 2; }", refl, refl, (refl, tt, refl), refl, refl, refl, target) in
    let field : SecondFrom 7 (codes " f: N * 2; }") 27 = (codes " ", codes "f", codes ": N * 2; }", refl, refl, (refl, field_is_name, refl), refl, refl, refl, colon) in
    let pointer : SecondFrom 6 (codes " ptr f: N * 2; }") 23 = (codes " ", codes "ptr", codes " f: N * 2; }", refl, refl, (refl, tt, refl), refl, refl, refl, field) in
    let brace : SecondFrom 5 (codes " { ptr f: N * 2; }") 21 = (codes " ", codes "{", codes " ptr f: N * 2; }", refl, refl, (refl, tt, refl), refl, refl, refl, pointer) in
    let limit : SecondFrom 4 (codes " 1 { ptr f: N * 2; }") 19 = (codes " ", codes "1", codes " { ptr f: N * 2; }", refl, refl, (refl, omega arith, refl), refl, refl, refl, brace) in
    let name : SecondFrom 3 (codes " N 1 { ptr f: N * 2; }") 17 = (codes " ", codes "N", codes " 1 { ptr f: N * 2; }", refl, refl, (refl, is_name, refl), refl, refl, refl, limit) in
    let head : SecondFrom 2 (codes " record N 1 { ptr f: N * 2; }") 10 = (codes " ", codes "record", codes " N 1 { ptr f: N * 2; }", refl, refl, (refl, tt, refl), refl, refl, refl, name) in
    let two : SecondFrom 1 (codes " 2 record N 1 { ptr f: N * 2; }") 8 = (codes " ", codes "2", codes " record N 1 { ptr f: N * 2; }", refl, refl, (refl, omega arith, refl), refl, refl, refl, head) in
    ([], codes "language", codes " 2 record N 1 { ptr f: N * 2; }", refl, refl, (refl, language_is_name, refl), refl, refl, refl, two)

second_shallow : IsShallow 63 15 paired
second_shallow = record { formed = (inr refl, ((refl, tt), tt)); height = omega arith; nesting = omega arith }

second_read : HasTree (codes "language 2 record N 1 { ptr f: N * 2; }") paired
second_read = (
  record { list = second_tokens; end = 1 },
  second_lexed,
  (
    record {
      opening = Second 1;
      items = Record 1 (record { line = 1; name = codes "N" }) (pos 1) (Ptr 1 (record { line = 1; name = codes "f" }) (record { line = 1; name = codes "N" }) (Some (pos 2)) ∷ []) ∷ [];
    },
    refl,
    second_shallow,
    refl,
  ),
)

-- ---- a tree that no text has

root_twice : AreNamedApart (called_typed (codes "root")).shape (called_typed (codes "root")).names → ⊥
root_twice apart =
    let one : ◌≡◌ {A = TypeNo} (record { 0 = 0 }) (record { 0 = 1 }) = apart.differ (record { 0 = 0 }) (record { 0 = 1 }) (omega arith) (omega arith) refl in
    let numbers : 0 ≡ 1 = ap (λ (t : TypeNo). t.0) one in
    omega (arith, numbers)

root_is_no_name : (text : List ℕ) → HasTree text (called (codes "root")) → ⊥
root_is_no_name text h =
    (All-head (λ i. IsName (declared_name i)) (tree.Record 1 (codes "root") (pos 1) []) [] (declared_names text (called (codes "root")) h)).no_keyword mark.Root refl

pub worked_names : WorkedNames
worked_names = record { accepted = (read, refl); second = (second_read, refl); typed = refl; not_apart = root_twice; no_text = root_is_no_name }
