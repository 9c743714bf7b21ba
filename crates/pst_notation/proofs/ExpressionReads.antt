-- The canonical text of an expression has its tokens.
use Rattle.std.specs.Prelude.{ℕ, List, [], ◌∷◌, ◌++◌, map}
use Rattle.std.specs.List.{flat_map}
use Rattle.std.proofs.Common.{refl, append_assoc}
use Rattle.pst_base.specs.declared.names.Op.TheVariants as op
use Rattle.pst_lex.specs.declared.words.Mark.TheVariants as mark
use Rattle.pst_lex.specs.Bytes.{EndsWord}
use Rattle.pst_grammar.specs.declared.lexeme.Sign.TheVariants as sign
use Rattle.pst_grammar.specs.Lexemes.{Lexeme, Operator, Plain}
use Rattle.pst_grammar.specs.Spelling.{Expr, Number, Null, Name, Parens, Field, Indexed, Negate, Not, Binary, expr, spelled, each, after_comma, listed}
use Rattle.pst_notation.specs.Texts as texts
use Rattle.pst_notation.specs.Texts.{expr_text, behind_comma}
use Rattle.pst_notation.proofs.Pieces.{Reads, written, space, name, number, fixed, open_ends, close_ends, minus_ends, dot_ends, operator}

pub expr_reads : (e : Expr) {rest : List ℕ} {ts : List Lexeme} → EndsWord rest → Reads rest ts → Reads (expr_text (expr e) ++ rest) (spelled e ts)
expr_reads (Number v) ends r = number v ends r
expr_reads Null ends r = fixed (Plain sign.Null) mark.Null refl ends r
expr_reads (Name x) ends r = name x ends r
expr_reads (Parens e) {rest} ends r =
    written (fixed (Plain sign.OpenParen) mark.OpenParen refl (open_ends _) (expr_reads e refl (fixed (Plain sign.CloseParen) mark.CloseParen refl (close_ends rest) r))) (simp append_assoc)
expr_reads (Field e x) ends r = written (expr_reads e refl (fixed (Plain sign.Dot) mark.Dot refl (dot_ends _) (name x ends r))) (simp append_assoc)
expr_reads (Indexed e x i) {rest} ends r =
    written (expr_reads e refl (fixed (Plain sign.Dot) mark.Dot refl (dot_ends _) (name x refl (fixed (Plain sign.OpenParen) mark.OpenParen refl (open_ends _)
    (expr_reads i refl (fixed (Plain sign.CloseParen) mark.CloseParen refl (close_ends rest) r)))))) (simp append_assoc)
expr_reads (Negate e) ends r = fixed (Operator op.Sub) mark.Minus refl (minus_ends _) (expr_reads e ends r)
expr_reads (Not e) ends r = fixed (Plain sign.Not) mark.Not refl refl (space (expr_reads e ends r))
expr_reads (Binary o left right) ends r = written (expr_reads left refl (space (operator o (space (expr_reads right ends r))))) (simp append_assoc)

-- how a part is read in front of what ends a word
abbrev pub PartReads : {A B : Type 0} → (A → B) → (B → List ℕ) → (A → List Lexeme → List Lexeme) → Type 0
PartReads {A} view show spell = (a : A) (rest : List ℕ) (ts : List Lexeme) → EndsWord rest → Reads rest ts → Reads (show (view a) ++ rest) (spell a ts)

others_end : {A B : Type 0} (view : A → B) (show : B → List ℕ) (l : List A) (rest : List ℕ) → EndsWord rest → EndsWord (flat_map (behind_comma show) (map view l) ++ rest)
others_end view show [] rest ends = ends
others_end view show (a ∷ l) rest ends = refl

others_read : {A B : Type 0} (view : A → B) (show : B → List ℕ) (spell : A → List Lexeme → List Lexeme) → PartReads view show spell →
    (l : List A) (rest : List ℕ) (ts : List Lexeme) → EndsWord rest → Reads rest ts → Reads (flat_map (behind_comma show) (map view l) ++ rest) (each (after_comma spell) l ts)
others_read view show spell part [] rest ts ends r = r
others_read view show spell part (a ∷ l) rest ts ends r =
    written (fixed (Plain sign.Comma) mark.Comma refl refl (space (part a _ _ (others_end view show l rest ends) (others_read view show spell part l rest ts ends r)))) (simp append_assoc)

-- parts with commas between them, and a `)` behind
pub listed_read : {A B : Type 0} (view : A → B) (show : B → List ℕ) (spell : A → List Lexeme → List Lexeme) → PartReads view show spell →
    (l : List A) (rest : List ℕ) (ts : List Lexeme) → Reads rest ts → Reads (texts.listed show (map view l) ++ (41 ∷ rest)) (listed spell l ts)
listed_read view show spell part [] rest ts r = fixed (Plain sign.CloseParen) mark.CloseParen refl (close_ends rest) r
listed_read view show spell part (a ∷ l) rest ts r =
    written (part a _ _ (others_end view show l (41 ∷ rest) refl) (others_read view show spell part l (41 ∷ rest) (Plain sign.CloseParen ∷ ts) refl
    (fixed (Plain sign.CloseParen) mark.CloseParen refl (close_ends rest) r))) (simp append_assoc)
