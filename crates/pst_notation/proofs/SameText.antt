-- The canonical text does not show lines.
use Rattle.std.specs.Prelude.{◌≡◌, ℕ, ◌+◌, List, [], ◌∷◌, ◌++◌, map, codes}
use Rattle.std.specs.List.{flat_map}
use Rattle.std.specs.Fmt.{signed_decimal}
use Rattle.std.proofs.Common.{refl, ap}
use Rattle.pst_grammar.specs.Syntax.{Phrase, New, Call, Write, Print, If, Either, While, Return, Phrases, Empty, Then, FieldText, Val, Ptr, Item, Record, Root, Procedure, ProgramText}
use Rattle.pst_notation.specs.Texts.{line, listed, behind_comma, expr_text, phrase_text, phrases_text}
use Rattle.pst_notation.specs.Canonical.{field_text, parameter_text, local_text, item_text, language_text, canonical}
use Rattle.pst_notation.specs.Lines.{phrase_lineless, block_lineless, field_lineless, local_lineless, item_lineless, lineless}

mutual
  phrase_same : (d : ℕ) (s : Phrase) → phrase_text d (phrase_lineless s) ≡ phrase_text d s
  phrase_same d (New x ty) = refl
  phrase_same d (Call x p es) = refl
  phrase_same d (Write place e) = refl
  phrase_same d (Print e) = refl
  phrase_same d (If e b) = ap (λ (t : List ℕ). line d (codes "if " ++ expr_text e ++ codes " {") ++ t ++ line d (codes "}")) (block_same (d + 2) b)
  phrase_same d (Either e b c) = rw (block_same (d + 2) b, block_same (d + 2) c) refl
  phrase_same d (While e b) = ap (λ (t : List ℕ). line d (codes "while " ++ expr_text e ++ codes " {") ++ t ++ line d (codes "}")) (block_same (d + 2) b)
  phrase_same d (Return e) = refl

  block_same : (d : ℕ) (b : Phrases) → phrases_text d (block_lineless b) ≡ phrases_text d b
  block_same d Empty = refl
  block_same d (Then at s b) = rw (phrase_same d s, block_same d b) refl

-- where each part has the same text as before, so have all
each_same : {A : Type 0} (f : A → A) (text : A → List ℕ) → ((a : A) → text (f a) ≡ text a) → (l : List A) → flat_map text (map f l) ≡ flat_map text l
each_same f text same [] = refl
each_same f text same (a ∷ l) = rw (same a, each_same f text same l) refl

listed_same : {A : Type 0} (f : A → A) (text : A → List ℕ) → ((a : A) → text (f a) ≡ text a) → (l : List A) → listed text (map f l) ≡ listed text l
listed_same f text same [] = refl
listed_same f text same (a ∷ l) = rw (same a, each_same f (behind_comma text) (λ b. ap (λ (t : List ℕ). codes ", " ++ t) (same b)) l) refl

field_same : (f : FieldText) → field_text (field_lineless f) ≡ field_text f
field_same (Val at x n) = refl
field_same (Ptr at x target n) = refl

item_same : (i : Item) → item_text (item_lineless i) ≡ item_text i
item_same (Record at x limit fields) =
    ap (λ (t : List ℕ). line 0 (codes "record " ++ x ++ codes " " ++ signed_decimal limit ++ codes " { " ++ t ++ codes "}")) (each_same field_lineless field_text field_same fields)
item_same (Root at x kind) = refl
item_same (Procedure p) =
    rw (listed_same local_lineless parameter_text (λ l. refl) p.parameters, each_same local_lineless local_text (λ l. refl) p.locals, block_same 2 p.body) refl

pub canonical_lineless : (p : ProgramText) → canonical (lineless p) ≡ canonical p
unfolding canonical
canonical_lineless p = ap (λ (t : List ℕ). language_text p.language ++ t) (each_same item_lineless item_text item_same p.items)
