-- Lines do not matter to the grammar and the limits of depth.
use Rattle.std.specs.Prelude.{◌≡◌, ℕ, ◌≤◌, max, List, [], ◌∷◌, map}
use Rattle.std.proofs.Common.{suc, refl, sym, ap, ◌∙◌, subst}
use Rattle.pst_grammar.specs.Syntax.{Phrase, New, Call, Write, Print, If, Either, While, Return, Phrases, Empty, Then, FieldText, Val, Ptr, Item, Record, Root, Procedure, ProgramText}
use Rattle.pst_grammar.specs.Depth.{height, greatest, phrase_height, phrases_height, phrase_nesting, phrases_nesting, item_height, item_nesting}
use Rattle.pst_grammar.specs.Forms.{Each, IsFormedPhrase, AreFormed, IsFormedField, IsFormedItem, IsProgram, IsShallow}
use Rattle.pst_notation.specs.Lines.{phrase_lineless, block_lineless, field_lineless, item_lineless, lineless}

mutual
  phrase_height_same : (s : Phrase) → phrase_height (phrase_lineless s) ≡ phrase_height s
  phrase_height_same (New x ty) = refl
  phrase_height_same (Call x p es) = refl
  phrase_height_same (Write place e) = refl
  phrase_height_same (Print e) = refl
  phrase_height_same (If e b) = ap (max (height e)) (height_same b)
  phrase_height_same (Either e b c) = rw (height_same b, height_same c) refl
  phrase_height_same (While e b) = ap (max (height e)) (height_same b)
  phrase_height_same (Return e) = refl

  height_same : (b : Phrases) → phrases_height (block_lineless b) ≡ phrases_height b
  height_same Empty = refl
  height_same (Then line s b) = rw (phrase_height_same s, height_same b) refl

mutual
  phrase_nesting_same : (s : Phrase) → phrase_nesting (phrase_lineless s) ≡ phrase_nesting s
  phrase_nesting_same (New x ty) = refl
  phrase_nesting_same (Call x p es) = refl
  phrase_nesting_same (Write place e) = refl
  phrase_nesting_same (Print e) = refl
  phrase_nesting_same (If e b) = ap (λ (n : ℕ). suc n) (nesting_same b)
  phrase_nesting_same (Either e b c) = rw (nesting_same b, nesting_same c) refl
  phrase_nesting_same (While e b) = ap (λ (n : ℕ). suc n) (nesting_same b)
  phrase_nesting_same (Return e) = refl

  nesting_same : (b : Phrases) → phrases_nesting (block_lineless b) ≡ phrases_nesting b
  nesting_same Empty = refl
  nesting_same (Then line s b) = rw (phrase_nesting_same s, nesting_same b) refl

mutual
  phrase_formed : (l : ℕ) (s : Phrase) → IsFormedPhrase l s → IsFormedPhrase l (phrase_lineless s)
  phrase_formed l (New x ty) h = h
  phrase_formed l (Call x p es) h = h
  phrase_formed l (Write place e) h = h
  phrase_formed l (Print e) h = h
  phrase_formed l (If e b) h = (h.0, block_formed l b h.1)
  phrase_formed l (Either e b c) h = (h.0, block_formed l b h.1, block_formed l c h.2)
  phrase_formed l (While e b) h = (h.0, block_formed l b h.1)
  phrase_formed l (Return e) h = h

  block_formed : (l : ℕ) (b : Phrases) → AreFormed l b → AreFormed l (block_lineless b)
  block_formed l Empty h = h
  block_formed l (Then line s b) h = (phrase_formed l s h.0, block_formed l b h.1)

mutual
  phrase_formed_back : (l : ℕ) (s : Phrase) → IsFormedPhrase l (phrase_lineless s) → IsFormedPhrase l s
  phrase_formed_back l (New x ty) h = h
  phrase_formed_back l (Call x p es) h = h
  phrase_formed_back l (Write place e) h = h
  phrase_formed_back l (Print e) h = h
  phrase_formed_back l (If e b) h = (h.0, block_formed_back l b h.1)
  phrase_formed_back l (Either e b c) h = (h.0, block_formed_back l b h.1, block_formed_back l c h.2)
  phrase_formed_back l (While e b) h = (h.0, block_formed_back l b h.1)
  phrase_formed_back l (Return e) h = h

  block_formed_back : (l : ℕ) (b : Phrases) → AreFormed l (block_lineless b) → AreFormed l b
  block_formed_back l Empty h = h
  block_formed_back l (Then line s b) h = (phrase_formed_back l s h.0, block_formed_back l b h.1)

field_formed : (l : ℕ) (f : FieldText) → IsFormedField l f → IsFormedField l (field_lineless f)
field_formed l (Val line x n) h = h
field_formed l (Ptr line x target n) h = h

field_formed_back : (l : ℕ) (f : FieldText) → IsFormedField l (field_lineless f) → IsFormedField l f
field_formed_back l (Val line x n) h = h
field_formed_back l (Ptr line x target n) h = h

-- where each part keeps what holds, the parts do
each_formed : {A : Type 0} (P : A → Type 0) (f : A → A) → ((a : A) → P a → P (f a)) → (l : List A) → Each P l → Each P (map f l)
each_formed P f keeps [] h = h
each_formed P f keeps (a ∷ l) h = (keeps a h.0, each_formed P f keeps l h.1)

each_formed_back : {A : Type 0} (P : A → Type 0) (f : A → A) → ((a : A) → P (f a) → P a) → (l : List A) → Each P (map f l) → Each P l
each_formed_back P f keeps [] h = h
each_formed_back P f keeps (a ∷ l) h = (keeps a h.0, each_formed_back P f keeps l h.1)

item_formed : (l : ℕ) (i : Item) → IsFormedItem l i → IsFormedItem l (item_lineless i)
item_formed l (Record line x limit fields) h = each_formed (IsFormedField l) field_lineless (field_formed l) fields h
item_formed l (Root line x kind) h = h
item_formed l (Procedure p) h = block_formed l p.body h

item_formed_back : (l : ℕ) (i : Item) → IsFormedItem l (item_lineless i) → IsFormedItem l i
item_formed_back l (Record line x limit fields) h = each_formed_back (IsFormedField l) field_lineless (field_formed_back l) fields h
item_formed_back l (Root line x kind) h = h
item_formed_back l (Procedure p) h = block_formed_back l p.body h

formed : (p : ProgramText) → IsProgram p → IsProgram (lineless p)
formed p h = (h.0, each_formed (IsFormedItem p.language) item_lineless (item_formed p.language) p.items h.1)

formed_back : (p : ProgramText) → IsProgram (lineless p) → IsProgram p
formed_back p h = (h.0, each_formed_back (IsFormedItem p.language) item_lineless (item_formed_back p.language) p.items h.1)

item_height_same : (i : Item) → item_height (item_lineless i) ≡ item_height i
item_height_same (Record line x limit fields) = refl
item_height_same (Root line x kind) = refl
item_height_same (Procedure p) = height_same p.body

item_nesting_same : (i : Item) → item_nesting (item_lineless i) ≡ item_nesting i
item_nesting_same (Record line x limit fields) = refl
item_nesting_same (Root line x kind) = refl
item_nesting_same (Procedure p) = nesting_same p.body

greatest_same : (f : Item → ℕ) → ((i : Item) → f (item_lineless i) ≡ f i) → (items : List Item) → greatest f (map item_lineless items) ≡ greatest f items
greatest_same f same [] = refl
greatest_same f same (i ∷ items) = rw (same i, greatest_same f same items) refl

-- programs that are the same, lines apart, are alike in what no line changes
alike : (f : Item → ℕ) → ((i : Item) → f (item_lineless i) ≡ f i) → (p q : ProgramText) → lineless q ≡ lineless p → greatest f p.items ≡ greatest f q.items
alike f same p q e = sym (greatest_same f same p.items) ∙ ap (λ (t : ProgramText). greatest f t.items) (sym e) ∙ greatest_same f same q.items

pub program_same : (p q : ProgramText) → lineless q ≡ lineless p → IsProgram p → IsProgram q
program_same p q e h = formed_back q (subst IsProgram (sym e) (formed p h))

pub shallow_same : (h d : ℕ) (p q : ProgramText) → lineless q ≡ lineless p → IsShallow h d p → IsShallow h d q
shallow_same h d p q e shallow = record {
  formed = program_same p q e shallow.formed;
  height = subst (λ (n : ℕ). n ≤ h) (alike item_height item_height_same p q e) shallow.height;
  nesting = subst (λ (n : ℕ). n ≤ d) (alike item_nesting item_nesting_same p q e) shallow.nesting;
}
