-- Each token has a spelling of its own.
use Rattle.std.specs.Prelude.{◌≡◌, ℕ, ℤ, ◌+◌, ◌^◌, ◌≤◌, ◌<◌, ◌==◌, ◌&&◌, Bool, true, false, List, [], ◌∷◌, ◌++◌, length, Option, Some, None, pos, negsuc, find, slice_get}
use Rattle.std.proofs.Common.{suc, zero, refl, sym, ap, ◌∙◌, arith, subst, inl, inr}
use Rattle.std.specs.List.{list_all}
use Rattle.std.specs.Fmt.{decimal}
use Rattle.std.specs.Prelude.{◌⊎◌}
use Rattle.std.proofs.lemmas.Fmt.{decimal_injective, digits_decimal, decimal_nonempty}
use Rattle.std.proofs.lemmas.Option.{slice_get_within}
use Rattle.pst_lex.specs.declared.types.TokenKind.{TokenKind}
use Rattle.pst_lex.specs.declared.types.TokenKind.TheVariants as kind
use Rattle.pst_lex.specs.declared.words.Mark.{Mark}
use Rattle.pst_lex.specs.declared.words.Mark.TheVariants.{Record, Val, Ptr, Root, Proc, Query, Var, New, Call, Print, If, Else, While, Return, Null, And, Or}
use Rattle.pst_lex.specs.declared.words.Mark.TheVariants.{Not, Int, OpenBrace, CloseBrace, OpenParen, CloseParen, Semicolon, Colon, Comma, Dot, Assign, Equal}
use Rattle.pst_lex.specs.declared.words.Mark.TheVariants.{NotEqual, Less, LessEqual, Greater, GreaterEqual, Plus, Minus, Star, Slash, Percent}
use Rattle.pst_lex.specs.Bytes.{is_word, is_letter, is_digit, is_symbol, is_pair, gap_step, StartsWithLetter, StartsWithDigit}
use Rattle.pst_lex.specs.Words.{mark_text, keywords, Word, Fixed, Name, Number, spelling, word_of}
use Rattle.pst_lex.specs.Lexing.{IsWord}
use Rattle.pst_lex.proofs.Numbers.{own}
use Rattle.pst_lex.proofs.Comparing.{and_true, or_right}
use Rattle.pst_lex.proofs.Marks.{letter_digit}

-- the text of a keyword
abbrev pub IsKeywordText : List ℕ → Type 0
IsKeywordText w = StartsWithLetter w × (list_all is_word w ≡ true) × (1 < length w) × (length w ≤ 32)

-- the text of a symbol
abbrev pub IsSymbolText : List ℕ → Type 0
IsSymbolText [] = ⊥
IsSymbolText (a ∷ []) = (is_word a ≡ false) × (gap_step false a ≡ None) × (is_symbol a ≡ true)
IsSymbolText (a ∷ b ∷ []) = (is_word a ≡ false) × (gap_step false a ≡ None) × (is_pair a b ≡ true)
IsSymbolText (a ∷ b ∷ c ∷ w) = ⊥

pub mark_sort : (m : Mark) → IsKeywordText (mark_text m) ⊎ IsSymbolText (mark_text m)
mark_sort Record = inl (refl, refl, omega arith, omega arith)
mark_sort Val = inl (refl, refl, omega arith, omega arith)
mark_sort Ptr = inl (refl, refl, omega arith, omega arith)
mark_sort Root = inl (refl, refl, omega arith, omega arith)
mark_sort Proc = inl (refl, refl, omega arith, omega arith)
mark_sort Query = inl (refl, refl, omega arith, omega arith)
mark_sort Var = inl (refl, refl, omega arith, omega arith)
mark_sort New = inl (refl, refl, omega arith, omega arith)
mark_sort Call = inl (refl, refl, omega arith, omega arith)
mark_sort Print = inl (refl, refl, omega arith, omega arith)
mark_sort If = inl (refl, refl, omega arith, omega arith)
mark_sort Else = inl (refl, refl, omega arith, omega arith)
mark_sort While = inl (refl, refl, omega arith, omega arith)
mark_sort Return = inl (refl, refl, omega arith, omega arith)
mark_sort Null = inl (refl, refl, omega arith, omega arith)
mark_sort And = inl (refl, refl, omega arith, omega arith)
mark_sort Or = inl (refl, refl, omega arith, omega arith)
mark_sort Not = inl (refl, refl, omega arith, omega arith)
mark_sort Int = inl (refl, refl, omega arith, omega arith)
mark_sort OpenBrace = inr (refl, refl, refl)
mark_sort CloseBrace = inr (refl, refl, refl)
mark_sort OpenParen = inr (refl, refl, refl)
mark_sort CloseParen = inr (refl, refl, refl)
mark_sort Semicolon = inr (refl, refl, refl)
mark_sort Colon = inr (refl, refl, refl)
mark_sort Comma = inr (refl, refl, refl)
mark_sort Dot = inr (refl, refl, refl)
mark_sort Assign = inr (refl, refl, refl)
mark_sort Equal = inr (refl, refl, refl)
mark_sort NotEqual = inr (refl, refl, refl)
mark_sort Less = inr (refl, refl, refl)
mark_sort LessEqual = inr (refl, refl, refl)
mark_sort Greater = inr (refl, refl, refl)
mark_sort GreaterEqual = inr (refl, refl, refl)
mark_sort Plus = inr (refl, refl, refl)
mark_sort Minus = inr (refl, refl, refl)
mark_sort Star = inr (refl, refl, refl)
mark_sort Slash = inr (refl, refl, refl)
mark_sort Percent = inr (refl, refl, refl)

abbrev same : List ℕ → List ℕ → Bool
same [] [] = true
same [] (b ∷ w) = false
same (a ∷ v) [] = false
same (a ∷ v) (b ∷ w) = (a == b) && same v w

-- the symbols
abbrev symbols : List Mark
symbols = OpenBrace ∷ CloseBrace ∷ OpenParen ∷ CloseParen ∷ Semicolon ∷ Colon ∷ Comma ∷ Dot ∷ Assign ∷ Equal ∷ NotEqual ∷ Less ∷ LessEqual ∷ Greater ∷
    GreaterEqual ∷ Plus ∷ Minus ∷ Star ∷ Slash ∷ Percent ∷ []

-- the keyword or symbol that is spelled so
abbrev named : List ℕ → Option Mark
named w = find (λ m. same w (mark_text m)) (keywords ++ symbols)

named_text : (m : Mark) → named (mark_text m) ≡ Some m
named_text Record = refl
named_text Val = refl
named_text Ptr = refl
named_text Root = refl
named_text Proc = refl
named_text Query = refl
named_text Var = refl
named_text New = refl
named_text Call = refl
named_text Print = refl
named_text If = refl
named_text Else = refl
named_text While = refl
named_text Return = refl
named_text Null = refl
named_text And = refl
named_text Or = refl
named_text Not = refl
named_text Int = refl
named_text OpenBrace = refl
named_text CloseBrace = refl
named_text OpenParen = refl
named_text CloseParen = refl
named_text Semicolon = refl
named_text Colon = refl
named_text Comma = refl
named_text Dot = refl
named_text Assign = refl
named_text Equal = refl
named_text NotEqual = refl
named_text Less = refl
named_text LessEqual = refl
named_text Greater = refl
named_text GreaterEqual = refl
named_text Plus = refl
named_text Minus = refl
named_text Star = refl
named_text Slash = refl
named_text Percent = refl

pub mark_same : (m n : Mark) → mark_text m ≡ mark_text n → m ≡ n
mark_same m n e = let h : Some m ≡ Some n = sym (named_text m) ∙ ap named e ∙ named_text n in cc

-- what a token is as a word tells its kind
pub kind_same : (k l : TokenKind) → word_of k ≡ word_of l → k ≡ l
kind_same (kind.Name x) (kind.Name y) e = let same : x ≡ y = cc in ap kind.Name same
kind_same (kind.Name x) (kind.Number v) e = absurd cc
kind_same (kind.Name x) (kind.Mark m) e = absurd cc
kind_same (kind.Number v) (kind.Name y) e = absurd cc
kind_same (kind.Number v) (kind.Number u) e = let same : v ≡ u = cc in ap kind.Number same
kind_same (kind.Number v) (kind.Mark m) e = absurd cc
kind_same (kind.Mark m) (kind.Name y) e = absurd cc
kind_same (kind.Mark m) (kind.Number u) e = absurd cc
kind_same (kind.Mark m) (kind.Mark n) e = let same : m ≡ n = cc in ap kind.Mark same

-- a number's text begins with a digit, and has bytes of words alone
pub number_word : (n : ℕ) → n < 2 ^ 63 → StartsWithDigit (decimal n) × (list_all is_word (decimal n) ≡ true)
number_word n h = go (decimal n) (decimal_nonempty n (omega arith)) (digits_decimal own n (omega arith))
  where
    words : (w : List ℕ) → list_all is_digit w ≡ true → list_all is_word w ≡ true
    words [] e = refl
    words (b ∷ w) e = let p = and_true (is_digit b) (list_all is_digit w) e in rw (or_right (is_letter b) (is_digit b) p.0, words w p.1) refl

    go : (w : List ℕ) → 0 < length w → list_all is_digit w ≡ true → StartsWithDigit w × (list_all is_word w ≡ true)
    go [] some all = absurd (omega arith)
    go (b ∷ w) some all = ((and_true (is_digit b) (list_all is_digit w) all).0, words (b ∷ w) all)

pub starts_twice : (w : List ℕ) → StartsWithLetter w → StartsWithDigit w → ⊥
starts_twice [] l d = l
starts_twice (b ∷ w) l d = letter_digit b l d

symbol_no_letter : (w : List ℕ) → IsSymbolText w → StartsWithLetter w → ⊥
symbol_no_letter [] h s = h
symbol_no_letter (a ∷ []) (n, g, p) s = let yes' : is_word a ≡ true = rw s refl in cc
symbol_no_letter (a ∷ b ∷ []) (n, g, p) s = let yes' : is_word a ≡ true = rw s refl in cc
symbol_no_letter (a ∷ b ∷ c ∷ w) h s = h

symbol_no_digit : (w : List ℕ) → IsSymbolText w → StartsWithDigit w → ⊥
symbol_no_digit [] h s = h
symbol_no_digit (a ∷ []) (n, g, p) s = let yes' : is_word a ≡ true = or_right (is_letter a) (is_digit a) s in cc
symbol_no_digit (a ∷ b ∷ []) (n, g, p) s = let yes' : is_word a ≡ true = or_right (is_letter a) (is_digit a) s in cc
symbol_no_digit (a ∷ b ∷ c ∷ w) h s = h

pub mark_no_digit : (m : Mark) → StartsWithDigit (mark_text m) → ⊥
mark_no_digit m d = go (mark_text m) (mark_sort m) d
  where
    go : (w : List ℕ) → IsKeywordText w ⊎ IsSymbolText w → StartsWithDigit w → ⊥
    go w (inl k) d = starts_twice w k.0 d
    go w (inr s) d = symbol_no_digit w s d

pub mark_short : (m : Mark) → StartsWithLetter (mark_text m) → length (mark_text m) ≤ 32
mark_short m l = go (mark_text m) (mark_sort m) l
  where
    go : (w : List ℕ) → IsKeywordText w ⊎ IsSymbolText w → StartsWithLetter w → length w ≤ 32
    go w (inl k) l = k.3
    go w (inr s) l = absurd (symbol_no_letter w s l)

number_name : (n : ℕ) (x : List ℕ) → n < 2 ^ 63 → StartsWithLetter x → decimal n ≡ x → ⊥
number_name n x lt s e = starts_twice x s (subst StartsWithDigit e (number_word n lt).0)

number_mark : (n : ℕ) (m : Mark) → n < 2 ^ 63 → decimal n ≡ mark_text m → ⊥
number_mark n m lt e = mark_no_digit m (subst StartsWithDigit e (number_word n lt).0)

-- tokens that are spelled alike are one
pub word_same : (t u : Word) → IsWord t → IsWord u → spelling t ≡ spelling u → t ≡ u
word_same (Name x) (Name y) h g e = ap Name e
word_same (Name x) (Number (pos n)) h g e = absurd (number_name n x g h.starts (sym e))
word_same (Name x) (Number (negsuc n)) h g e = absurd g
word_same (Name x) (Fixed m) h g e = absurd (h.no_keyword m e)
word_same (Number (pos n)) (Name y) h g e = absurd (number_name n y h g.starts e)
word_same (Number (pos n)) (Number (pos k)) h g e = ap (λ x. Number (pos x)) (decimal_injective n k (omega arith) (omega arith) e)
word_same (Number (pos n)) (Number (negsuc k)) h g e = absurd g
word_same (Number (pos n)) (Fixed m) h g e = absurd (number_mark n m h e)
word_same (Number (negsuc n)) u h g e = absurd h
word_same (Fixed m) (Name y) h g e = absurd (g.no_keyword m (sym e))
word_same (Fixed m) (Number (pos k)) h g e = absurd (number_mark k m g (sym e))
word_same (Fixed m) (Number (negsuc k)) h g e = absurd g
word_same (Fixed m) (Fixed n) h g e = ap Fixed (mark_same m n e)
