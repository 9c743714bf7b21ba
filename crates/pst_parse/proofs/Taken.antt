-- Declarations are taken from the tokens at hand, one after another.
use Rattle.std.specs.Prelude.{◌≡◌, ℕ, ◌≤◌, ◌<◌, ◌-◌, ◌⊎◌, true, false, List, [], ◌∷◌, ◌++◌, length}
use Rattle.std.proofs.Common.{refl, sym, ap, ◌∙◌, subst, arith, inr, append_assoc}
use Rattle.std.proofs.Math.Seq.{drop-length}
use Rattle.pst_parse_expressions.specs.declared.lexeme.Atom.{Atom}
use Rattle.pst_grammar.specs.declared.declaration.Declaration.{Declaration}
use Rattle.pst_grammar.specs.Syntax as tree
use Rattle.pst_grammar.specs.View.{item_of}
use Rattle.pst_grammar.specs.Lexemes.{Lexeme}
use Rattle.pst_parse_expressions.specs.View.{lexeme_of, lexemes_of}
use Rattle.pst_grammar.specs.Reader.{Got, Bad, Fault, Unexpected, TooDeep}
use Rattle.pst_grammar.specs.Declarations.{item, any}
use Rattle.pst_grammar.specs.Laws.{IsBehind}
use Rattle.pst_grammar.proofs.Many.{many-start}
use Rattle.pst_grammar.proofs.DeclarationLaw.{item_short}
use Rattle.pst_grammar.proofs.Stays.{read_stays, fault_stays, from_front, end_not_deep}
use Rattle.pst_parse_statements.specs.View.{begins}
use Rattle.pst_parse.specs.Taking.{last, StandsOn, read_with, FaultsAmong}
use Rattle.pst_parse_statements.proofs.Loops.{loop_more, no_token}
use Rattle.pst_parse.proofs.Parsed.{last_same, last_within}

-- what stands before and what is read, as far as the tokens from there on
pub record IsAt (l : ℕ) (tokens rest : List Atom) (read more : List Declaration) : Type 0 where
  pub front : List Lexeme
  pub split : lexemes_of tokens ≡ front ++ lexemes_of rest
  pub same : (later : List Lexeme) → read_with l read (lexemes_of tokens ++ later) ≡ read_with l more (lexemes_of rest ++ later)

begins_more : (ts later : List Lexeme) → begins any ts ≡ true → begins any (ts ++ later) ≡ true
begins_more [] later e = cc
begins_more (t ∷ ts) later e = refl

-- one more declaration
pub at_next : (l : ℕ) (tokens rest next : List Atom) (read more more' : List Declaration) (d : Declaration) → IsAt l tokens rest read more → true ≡ begins any (lexemes_of rest) →
    item l 63 15 (lexemes_of rest) ≡ Got (item_of d) (lexemes_of next) → more' ≡ more ++ d ∷ [] → IsAt l tokens next read more'
at_next l tokens rest next read more more' d at some e pushed =
    let (part, is) : IsBehind (Got (item_of d) (lexemes_of next)) (lexemes_of rest) = subst (λ r. IsBehind r (lexemes_of rest)) e (from_front l 63 15 (lexemes_of rest)) in
    record {
      front = at.front ++ part;
      split = at.split ∙ ap (λ x. at.front ++ x) is ∙ sym (append_assoc at.front part (lexemes_of next));
      same = λ later.
          sym (loop_more any (item l 63 15) item_of more more' d (lexemes_of rest ++ later) (lexemes_of next ++ later) (read_with l read (lexemes_of tokens ++ later)) (item_short l 63 15) pushed
          (sym (begins_more (lexemes_of rest) later (sym some))) (read_stays l 63 15 (lexemes_of rest) (lexemes_of next) later (item_of d) e) (sym (at.same later)));
    }

-- all declarations are read
pub at_end : (l : ℕ) (tokens rest : List Atom) (read more : List Declaration) → IsAt l tokens rest read more → false ≡ begins any (lexemes_of rest) →
    (later : List Lexeme) → read_with l read (lexemes_of tokens ++ later) ≡ read_with l more (lexemes_of (last 0 tokens) ++ later)
at_end l tokens rest read more at none later =
    let gone : lexemes_of rest ≡ [] = no_token (lexemes_of rest) none in
    let nothing : last 0 tokens ≡ [] = rw (nat_zero (length tokens)) (drop-length tokens) in
    at.same later ∙ ap (λ x. read_with l more (x ++ later)) (gone ∙ sym (ap lexemes_of nothing))
  where
    nat_zero : (n : ℕ) → n - 0 ≡ n
    nat_zero n = omega arith

-- a declaration is broken off
pub at_break : (l : ℕ) (tokens rest place : List Atom) (read more : List Declaration) → IsAt l tokens rest read more
    → item l 63 15 (lexemes_of rest) ≡ Bad Unexpected (lexemes_of place) → length place ≡ 0 →
    (length rest ≤ length tokens) × ((length rest ≡ 0) ⊎ (item l 63 15 (lexemes_of (last (length rest) tokens)) ≡ Bad Unexpected []))
    × ((later : List Lexeme) → read_with l read (lexemes_of tokens ++ later) ≡ read_with l more (lexemes_of (last (length rest) tokens) ++ later))
at_break l tokens rest [] read more at e none =
    let there = last_same tokens rest at.front at.split in
    (last_within tokens rest at.front at.split, inr (ap (item l 63 15) there ∙ e), λ later. at.same later ∙ ap (λ x. read_with l more (x ++ later)) (sym there))
at_break l tokens rest (t ∷ place) read more at e none = absurd (omega arith)

fault_with : (l : ℕ) (k : Fault) (read : List Declaration) (ts rest : List Lexeme) → begins any ts ≡ true → item l 63 15 ts ≡ Bad k rest → read_with l read ts ≡ Bad k rest
fault_with l k read [] rest some e = cc
fault_with l k read (t ∷ ts) rest some e = rw (many-start any (item l 63 15) (item_short l 63 15) t ts refl, e) refl

pub broken_with : (l : ℕ) (read : List Declaration) (ts : List Atom) → 0 < length ts → item l 63 15 (lexemes_of ts) ≡ Bad Unexpected [] → read_with l read (lexemes_of ts) ≡ Bad Unexpected []
broken_with l read [] some e = absurd (omega arith)
broken_with l read (t ∷ ts) some e = fault_with l Unexpected read (lexemes_of (t ∷ ts)) [] refl e

-- the tokens from a fault on are some of the last
pub place_within : (l : ℕ) (k : Fault) (tokens rest place : List Atom) (read more : List Declaration) → IsAt l tokens rest read more → item l 63 15 (lexemes_of rest) ≡ Bad k (lexemes_of place) →
    (u : List Lexeme) × (lexemes_of tokens ≡ u ++ lexemes_of place)
place_within l k tokens rest place read more at e =
    let (part, is) : IsBehind {A = tree.Item} (Bad k (lexemes_of place)) (lexemes_of rest) = subst (λ r. IsBehind r (lexemes_of rest)) e (from_front l 63 15 (lexemes_of rest)) in
    (at.front ++ part, at.split ∙ ap (λ x. at.front ++ x) is ∙ sym (append_assoc at.front part (lexemes_of place)))

pub place_short : (l : ℕ) (k : Fault) (tokens rest place : List Atom) (read more : List Declaration) → IsAt l tokens rest read more
    → item l 63 15 (lexemes_of rest) ≡ Bad k (lexemes_of place) → length place ≤ length tokens
place_short l k tokens rest place read more at e = let (u, is) = place_within l k tokens rest place read more at e in last_within tokens place u is

-- a fault at a token
pub at_fault : (l : ℕ) (k : Fault) (line : ℕ) (tokens rest place : List Atom) (read more : List Declaration) → IsAt l tokens rest read more → true ≡ begins any (lexemes_of rest) →
    item l 63 15 (lexemes_of rest) ≡ Bad k (lexemes_of place) → 0 < length place → StandsOn line tokens (length place) → FaultsAmong l k line tokens read
at_fault l k line tokens rest [] read more at some e pos on = absurd (omega arith)
at_fault l k line tokens rest (t ∷ place) read more at some e pos on =
    let (u, is) = place_within l k tokens rest (t ∷ place) read more at e in
    let there = last_same tokens (t ∷ place) u is in (
      length (t ∷ place),
      on,
      λ later. at.same later
          ∙ fault_with l k more (lexemes_of rest ++ later) (lexemes_of (t ∷ place) ++ later) (begins_more (lexemes_of rest) later (sym some))
          (fault_stays l 63 15 (lexemes_of rest) (lexemes_of place) later (lexeme_of t) k e)
          ∙ ap (λ x. Bad k (x ++ later)) (sym there),
    )

-- no declaration is found too deep at the end
pub deep_some : (l : ℕ) (rest place : List Atom) → item l 63 15 (lexemes_of rest) ≡ Bad TooDeep (lexemes_of place) → 0 < length place
deep_some l rest [] e = absurd (end_not_deep l 63 15 (lexemes_of rest) e)
deep_some l rest (t ∷ place) e = omega arith
