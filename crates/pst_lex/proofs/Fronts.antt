-- What stands in front of a text is cut off in one way: white bytes and comments, and tokens.
use Rattle.std.specs.Prelude.{◌≡◌, ℕ, ◌^◌, ◌≤◌, ◌<◌, Bool, true, false, List, [], ◌∷◌, ◌++◌, length, Option, Some, None, option_and_then, pos, negsuc, ◌⊎◌}
use Rattle.std.proofs.Common.{refl, sym, ap, ◌∙◌, arith, subst, inl, inr}
use Rattle.std.specs.List.{list_all}
use Rattle.std.specs.Fmt.{decimal}
use Rattle.pst_lex.specs.declared.faults.LexFault.{LexFault}
use Rattle.pst_lex.specs.declared.faults.LexFault.TheVariants as fault
use Rattle.pst_lex.specs.Bytes.{is_word, is_letter, is_digit, is_symbol, is_pair, gap_step, gap, EndsWord, NoPair, StartsWithLetter, StartsWithDigit}
use Rattle.pst_lex.specs.Words.{mark_text, Word, Fixed, Name, Number}
use Rattle.pst_lex.specs.Lexing.{IsToken, EndsMark, IsFault, line_of}
use Rattle.pst_lex.proofs.Comparing.{and_true, or_left, or_right, other_test}
use Rattle.pst_lex.proofs.Marks.{letter_low}
use Rattle.pst_lex.proofs.Numbers.{digit_range}
use Rattle.pst_lex.proofs.Spellings.{IsKeywordText, IsSymbolText, mark_sort, mark_no_digit, mark_short, number_word, starts_twice, word_same}

-- ---- white bytes and comments

-- in this state the text goes on with no more of what stands between tokens
abbrev pub Stuck : Bool → List ℕ → Type 0
Stuck s [] = ⊥
Stuck s (b ∷ bs) = gap_step s b ≡ None

pub gap_stuck : (s t : Bool) (a u : List ℕ) (i : Bool) → gap s a ≡ Some t → Stuck t u → gap s (a ++ u) ≡ Some i → ⊥
gap_stuck s t [] [] i e ends f = ends
gap_stuck s t [] (b ∷ u) i e ends f =
    let same : s ≡ t = cc in
    let none : gap_step s b ≡ None = rw same ends in
    let bad : option_and_then (λ i. gap i u) None ≡ Some i = rw none at f in
    cc
gap_stuck s t (b ∷ a) u i e ends f = go (gap_step s b) e f (λ j. gap_stuck j t a u i)
  where
    go : (o : Option Bool) → option_and_then (λ i. gap i a) o ≡ Some t → option_and_then (λ i. gap i (a ++ u)) o ≡ Some i →
        ((j : Bool) → gap j a ≡ Some t → Stuck t u → gap j (a ++ u) ≡ Some i → ⊥) → ⊥
    go None e f h = cc
    go (Some j) e f h = h j e ends f

-- two gaps in front that both stop are one
pub gap_same : (s p q : Bool) (a b u v : List ℕ) → gap s a ≡ Some p → gap s b ≡ Some q → Stuck p u → Stuck q v → a ++ u ≡ b ++ v → (p ≡ q) × (a ≡ b) × (u ≡ v)
gap_same s p q [] [] u v ga gb eu ev e = (cc, refl, e)
gap_same s p q [] (y ∷ b) [] v ga gb eu ev e = absurd eu
gap_same s p q [] (y ∷ b) (x ∷ u) v ga gb eu ev e =
    let same : s ≡ p = cc in
    let head : x ≡ y = cc in
    let none : gap_step s y ≡ None = rw (same, ← head) eu in
    let bad : option_and_then (λ i. gap i b) None ≡ Some q = rw none at gb in
    absurd cc
gap_same s p q (x ∷ a) [] u [] ga gb eu ev e = absurd ev
gap_same s p q (x ∷ a) [] u (y ∷ v) ga gb eu ev e =
    let same : s ≡ q = cc in
    let head : x ≡ y = cc in
    let none : gap_step s x ≡ None = rw (same, head) ev in
    let bad : option_and_then (λ i. gap i a) None ≡ Some p = rw none at ga in
    absurd cc
gap_same s p q (x ∷ a) (y ∷ b) u v ga gb eu ev e =
    let head : x ≡ y = cc in
    let tail : a ++ u ≡ b ++ v = cc in
    let more = go (gap_step s x) ga (rw (← head) at gb) (λ i. gap_same i p q a b u v) tail in
    (more.0, rw (head, more.1) refl, more.2)
  where
    go : (o : Option Bool) → option_and_then (λ i. gap i a) o ≡ Some p → option_and_then (λ i. gap i b) o ≡ Some q →
        ((i : Bool) → gap i a ≡ Some p → gap i b ≡ Some q → Stuck p u → Stuck q v → a ++ u ≡ b ++ v → (p ≡ q) × (a ≡ b) × (u ≡ v)) → a ++ u ≡ b ++ v → (p ≡ q) × (a ≡ b) × (u ≡ v)
    go None ga gb h tail = absurd cc
    go (Some i) ga gb h tail = h i ga gb eu ev tail

-- ---- words

word_of_letter : (b : ℕ) → is_letter b ≡ true → is_word b ≡ true
word_of_letter b e = or_left (is_letter b) (is_digit b) e

word_of_digit : (b : ℕ) → is_digit b ≡ true → is_word b ≡ true
word_of_digit b e = or_right (is_letter b) (is_digit b) e

-- the word in front is as long as it can be
word_front_same : (w x u v : List ℕ) → list_all is_word w ≡ true → list_all is_word x ≡ true → EndsWord u → EndsWord v → w ++ u ≡ x ++ v → (w ≡ x) × (u ≡ v)
word_front_same [] [] u v aw ax eu ev e = (refl, e)
word_front_same [] (y ∷ x) [] v aw ax eu ev e = absurd cc
word_front_same [] (y ∷ x) (a ∷ u) v aw ax eu ev e =
    let head : a ≡ y = cc in
    let yes' = (and_true (is_word y) (list_all is_word x) ax).0 in
    let no' : is_word y ≡ false = rw (← head) eu in
    absurd cc
word_front_same (a ∷ w) [] u [] aw ax eu ev e = absurd cc
word_front_same (a ∷ w) [] u (y ∷ v) aw ax eu ev e =
    let head : a ≡ y = cc in
    let yes' = (and_true (is_word a) (list_all is_word w) aw).0 in
    let no' : is_word a ≡ false = rw head ev in
    absurd cc
word_front_same (a ∷ w) (y ∷ x) u v aw ax eu ev e =
    let head : a ≡ y = cc in
    let tail : w ++ u ≡ x ++ v = cc in
    let more = word_front_same w x u v (and_true (is_word a) (list_all is_word w) aw).1 (and_true (is_word y) (list_all is_word x) ax).1 eu ev tail in
    (rw (head, more.0) refl, more.1)

pub word_low : (b : ℕ) → is_word b ≡ true → 48 ≤ b
word_low b e = go (is_letter b) refl
  where
    go : (t : Bool) → is_letter b ≡ t → 48 ≤ b
    go true h = omega (arith, letter_low b h)
    go false h =
        let digit : is_digit b ≡ true = rw h at e in
        (digit_range b digit).0

word_gap : (b : ℕ) → is_word b ≡ true → gap_step false b ≡ None
word_gap b e =
    let low = word_low b e in
    rw (other_test b 9 (λ h. omega arith), other_test b 10 (λ h. omega arith), other_test b 13 (λ h. omega arith), other_test b 32 (λ h. omega arith), other_test b 35 (λ h. omega arith)) refl

-- ---- tokens are words or symbols

-- a word, its first byte, and what follows it
pub record IsWordFront (w rest : List ℕ) : Type 0 where
  pub all : list_all is_word w ≡ true
  pub ends : EndsWord rest
  pub first : ℕ
  pub more : List ℕ
  pub begins : w ≡ first ∷ more
  pub word : is_word first ≡ true

-- a symbol that makes no longer one with what follows
abbrev pub IsSymbolFront : List ℕ → List ℕ → Type 0
IsSymbolFront [] rest = ⊥
IsSymbolFront (a ∷ []) rest = (is_word a ≡ false) × (gap_step false a ≡ None) × (is_symbol a ≡ true) × NoPair a rest
IsSymbolFront (a ∷ b ∷ []) rest = (is_word a ≡ false) × (gap_step false a ≡ None) × (is_pair a b ≡ true)
IsSymbolFront (a ∷ b ∷ c ∷ w) rest = ⊥

letter_front : (w rest : List ℕ) → StartsWithLetter w → list_all is_word w ≡ true → EndsWord rest → IsWordFront w rest
letter_front [] rest s all e = absurd s
letter_front (b ∷ w) rest s all e = record { all = all; ends = e; first = b; more = w; begins = refl; word = word_of_letter b s }

digit_front : (w rest : List ℕ) → StartsWithDigit w → list_all is_word w ≡ true → EndsWord rest → IsWordFront w rest
digit_front [] rest s all e = absurd s
digit_front (b ∷ w) rest s all e = record { all = all; ends = e; first = b; more = w; begins = refl; word = word_of_digit b s }

keyword_front : (w rest : List ℕ) → IsKeywordText w → EndsMark w rest → IsWordFront w rest
keyword_front [] rest k e = absurd k.0
keyword_front (a ∷ []) rest k e = absurd (let long = k.2 in omega arith)
keyword_front (a ∷ b ∷ w) rest k e =
    let word = word_of_letter a k.0 in
    letter_front (a ∷ b ∷ w) rest k.0 k.1 (rw word at e)

symbol_front : (w rest : List ℕ) → IsSymbolText w → EndsMark w rest → IsSymbolFront w rest
symbol_front [] rest s e = s
symbol_front (a ∷ []) rest (n, g, p) e = (n, g, p, e)
symbol_front (a ∷ b ∷ []) rest s e = s
symbol_front (a ∷ b ∷ c ∷ w) rest s e = s

mark_front : (w rest : List ℕ) → IsKeywordText w ⊎ IsSymbolText w → EndsMark w rest → IsWordFront w rest ⊎ IsSymbolFront w rest
mark_front w rest (inl k) e = inl (keyword_front w rest k e)
mark_front w rest (inr s) e = inr (symbol_front w rest s e)

pub token_front : (t : Word) (w rest : List ℕ) → IsToken t w rest → IsWordFront w rest ⊎ IsSymbolFront w rest
token_front (Name x) w rest (is, h, e) = inl (letter_front w rest (subst StartsWithLetter (sym is) h.starts) (subst (λ y. list_all is_word y ≡ true) (sym is) h.all) e)
token_front (Number (pos n)) w rest (is, h, e) =
    let p = number_word n h in
    inl (digit_front w rest (subst StartsWithDigit (sym is) p.0) (subst (λ y. list_all is_word y ≡ true) (sym is) p.1) e)
token_front (Number (negsuc n)) w rest (is, h, e) = absurd h
token_front (Fixed m) w rest (is, h, e) = subst (λ y. IsWordFront y rest ⊎ IsSymbolFront y rest) (sym is) (mark_front (mark_text m) rest (mark_sort m) e)

symbol_first : (w u : List ℕ) → IsSymbolFront w u → (a : ℕ) × (x : List ℕ) × (w ≡ a ∷ x) × (is_word a ≡ false) × (gap_step false a ≡ None)
symbol_first [] u p = absurd p
symbol_first (a ∷ []) u (n, g, p, pair) = (a, [], refl, n, g)
symbol_first (a ∷ b ∷ []) u (n, g, p) = (a, b ∷ [], refl, n, g)
symbol_first (a ∷ b ∷ c ∷ w) u p = absurd p

word_symbol : (w u x v : List ℕ) → IsWordFront w u → IsSymbolFront x v → w ++ u ≡ x ++ v → ⊥
word_symbol w u x v p q e =
    let (a, y, is, n, g) = symbol_first x v q in
    let both : p.first ∷ (p.more ++ u) ≡ a ∷ (y ++ v) = sym (ap (λ z. z ++ u) p.begins) ∙ e ∙ ap (λ z. z ++ v) is in
    let head : p.first ≡ a = cc in
    let bad : is_word p.first ≡ false = rw head n in
    let yes' = p.word in
    cc

symbols_same : (w x u v : List ℕ) → IsSymbolFront w u → IsSymbolFront x v → w ++ u ≡ x ++ v → (w ≡ x) × (u ≡ v)
symbols_same [] x u v p q e = absurd p
symbols_same (a ∷ []) [] u v p q e = absurd q
symbols_same (a ∷ b ∷ []) [] u v p q e = absurd q
symbols_same (a ∷ b ∷ c ∷ w) x u v p q e = absurd p
symbols_same (a ∷ []) (b ∷ []) u v p q e = (cc, cc)
symbols_same (a ∷ []) (b ∷ c ∷ []) u v (n, g, p, pair) (n', g', q) e =
    let head : a ≡ b = cc in
    let tail : u ≡ c ∷ v = cc in
    let none : is_pair a c ≡ false = subst (NoPair a) tail pair in
    let some : is_pair a c ≡ true = ap (λ x. is_pair x c) head ∙ q in
    absurd cc
symbols_same (a ∷ b ∷ []) (c ∷ []) u v (n, g, p) (n', g', q, pair) e =
    let head : c ≡ a = cc in
    let tail : v ≡ b ∷ u = cc in
    let none : is_pair c b ≡ false = subst (NoPair c) tail pair in
    let some : is_pair c b ≡ true = ap (λ x. is_pair x b) head ∙ p in
    absurd cc
symbols_same (a ∷ b ∷ []) (c ∷ d ∷ []) u v p q e = (cc, cc)
symbols_same w (a ∷ b ∷ c ∷ x) u v p q e = absurd q

fronts_same : (w x u v : List ℕ) → IsWordFront w u ⊎ IsSymbolFront w u → IsWordFront x v ⊎ IsSymbolFront x v → w ++ u ≡ x ++ v → (w ≡ x) × (u ≡ v)
fronts_same w x u v (inl p) (inl q) e = word_front_same w x u v p.all q.all p.ends q.ends e
fronts_same w x u v (inl p) (inr q) e = absurd (word_symbol w u x v p q e)
fronts_same w x u v (inr p) (inl q) e = absurd (word_symbol x v w u q p (sym e))
fronts_same w x u v (inr p) (inr q) e = symbols_same w x u v p q e

-- two tokens in front are one
pub token_same : (t y : Word) (w x u v : List ℕ) → IsToken t w u → IsToken y x v → w ++ u ≡ x ++ v → (t ≡ y) × (w ≡ x) × (u ≡ v)
token_same t y w x u v p q e =
    let both = fronts_same w x u v (token_front t w u p) (token_front y x v q) e in
    (word_same t y p.1 q.1 (sym p.0 ∙ both.0 ∙ q.0), both.0, both.1)

word_stuck : (w rest : List ℕ) → IsWordFront w rest → Stuck false (w ++ rest)
word_stuck w rest p = rw p.begins (word_gap p.first p.word)

pub token_stuck : (t : Word) (w rest : List ℕ) → IsToken t w rest → Stuck false (w ++ rest)
token_stuck t w rest p = go w rest (token_front t w rest p)
  where
    go : (w rest : List ℕ) → IsWordFront w rest ⊎ IsSymbolFront w rest → Stuck false (w ++ rest)
    go w rest (inl q) = word_stuck w rest q
    go w rest (inr q) = let (a, y, is, n, g) = symbol_first w rest q in rw is g

-- a token has a byte at least
pub token_some : (t : Word) (w rest : List ℕ) → IsToken t w rest → 0 < length w
token_some t w rest p = go w (token_front t w rest p)
  where
    go : (w : List ℕ) → IsWordFront w rest ⊎ IsSymbolFront w rest → 0 < length w
    go [] (inl q) = let none : [] ≡ q.first ∷ q.more = q.begins in absurd cc
    go (b ∷ w) (inl q) = omega arith
    go [] (inr q) = absurd q
    go (b ∷ w) (inr q) = omega arith

-- ---- faults

pub fault_stuck : (f : LexFault) (inside : Bool) (bad : List ℕ) → IsFault f inside bad → Stuck inside bad
fault_stuck (fault.Byte l) true [] h = h
fault_stuck (fault.Byte l) false [] h = h
fault_stuck (fault.Byte l) true (b ∷ bs) h = h
fault_stuck (fault.Byte l) false (b ∷ bs) (g, n, s, p) = g
fault_stuck (fault.Number l) true bad h = absurd h
fault_stuck (fault.Number l) false bad (w, rest, e, d, all, ends, no') = rw e (word_stuck w rest (digit_front w rest d all ends))
fault_stuck (fault.NameLength l) true bad h = absurd h
fault_stuck (fault.NameLength l) false bad (w, rest, e, s, all, ends, long) = rw e (word_stuck w rest (letter_front w rest s all ends))

-- a byte that begins no token
abbrev IsNoFront : List ℕ → Type 0
IsNoFront [] = ⊥
IsNoFront (b ∷ bs) = (gap_step false b ≡ None) × (is_word b ≡ false) × (is_symbol b ≡ false) × NoPair b bs

word_no_byte : (w rest : List ℕ) → IsWordFront w rest → IsNoFront (w ++ rest) → ⊥
word_no_byte w rest p bad =
    let h : IsNoFront (p.first ∷ (p.more ++ rest)) = subst (λ y. IsNoFront (y ++ rest)) p.begins bad in
    let no' = h.1 in
    let yes' = p.word in
    cc

symbol_no_byte : (w rest : List ℕ) → IsSymbolFront w rest → IsNoFront (w ++ rest) → ⊥
symbol_no_byte [] rest p bad = p
symbol_no_byte (a ∷ []) rest (n, g, p, pair) (g', n', none, pair') = cc
symbol_no_byte (a ∷ b ∷ []) rest (n, g, p) (g', n', none, pair') = cc
symbol_no_byte (a ∷ b ∷ c ∷ w) rest p bad = p

token_no_byte : (w rest : List ℕ) → IsWordFront w rest ⊎ IsSymbolFront w rest → IsNoFront (w ++ rest) → ⊥
token_no_byte w rest (inl p) bad = word_no_byte w rest p bad
token_no_byte w rest (inr p) bad = symbol_no_byte w rest p bad

-- a token that begins with a digit is a number
digit_token : (t : Word) (w rest : List ℕ) → IsToken t w rest → StartsWithDigit w → (n : ℕ) × (n < 2 ^ 63) × (w ≡ decimal n)
digit_token (Name x) w rest (is, h, e) d = absurd (starts_twice w (subst StartsWithLetter (sym is) h.starts) d)
digit_token (Number (pos n)) w rest (is, h, e) d = (n, h, is)
digit_token (Number (negsuc n)) w rest (is, h, e) d = absurd h
digit_token (Fixed m) w rest (is, h, e) d = absurd (mark_no_digit m (subst StartsWithDigit is d))

-- a token that begins with a letter has no more than 32 bytes
letter_token : (t : Word) (w rest : List ℕ) → IsToken t w rest → StartsWithLetter w → length w ≤ 32
letter_token (Name x) w rest (is, h, e) s = let short = h.short in let same = ap length is in omega arith
letter_token (Number (pos n)) w rest (is, h, e) s = absurd (starts_twice w s (subst StartsWithDigit (sym is) (number_word n h).0))
letter_token (Number (negsuc n)) w rest (is, h, e) s = absurd h
letter_token (Fixed m) w rest (is, h, e) s = let short = mark_short m (subst StartsWithLetter is s) in let same = ap length is in omega arith

byte_front : (l : ℕ) (bad w r : List ℕ) → bad ≡ w ++ r → IsFault (fault.Byte l) false bad → IsNoFront (w ++ r)
byte_front l bad w r is h = subst IsNoFront is (go bad h)
  where
    go : (x : List ℕ) → IsFault (fault.Byte l) false x → IsNoFront x
    go [] h = h
    go (b ∷ bs) h = h

-- no token stands where a fault stands
pub token_no_fault : (t : Word) (w rest : List ℕ) (f : LexFault) → IsToken t w rest → IsFault f false (w ++ rest) → ⊥
token_no_fault t w rest (fault.Byte l) p bad = token_no_byte w rest (token_front t w rest p) (byte_front l (w ++ rest) w rest refl bad)
token_no_fault t w rest (fault.Number l) p (x, r, e, d, all, ends, no') =
    let both = fronts_same w x rest r (token_front t w rest p) (inl (digit_front x r d all ends)) e in
    let (n, lt, is) = digit_token t w rest p (subst StartsWithDigit (sym both.0) d) in
    no' n lt (sym both.0 ∙ is)
token_no_fault t w rest (fault.NameLength l) p (x, r, e, s, all, ends, long) =
    let both = fronts_same w x rest r (token_front t w rest p) (inl (letter_front x r s all ends)) e in
    let short = letter_token t w rest p (subst StartsWithLetter (sym both.0) s) in
    let same = ap length both.0 in
    omega arith

-- two faults at one place are one
pub fault_same : (f g : LexFault) (inside : Bool) (bad : List ℕ) → IsFault f inside bad → IsFault g inside bad → line_of f ≡ line_of g → f ≡ g
fault_same (fault.Byte l) (fault.Byte k) inside bad h g e = ap fault.Byte e
fault_same (fault.Byte l) (fault.Number k) true bad h g e = absurd g
fault_same (fault.Byte l) (fault.Number k) false bad h (w, r, is, d, all, ends, no') e = absurd (word_no_byte w r (digit_front w r d all ends) (byte_front l bad w r is h))
fault_same (fault.Byte l) (fault.NameLength k) true bad h g e = absurd g
fault_same (fault.Byte l) (fault.NameLength k) false bad h (w, r, is, s, all, ends, long) e = absurd (word_no_byte w r (letter_front w r s all ends) (byte_front l bad w r is h))
fault_same (fault.Number l) g true bad h g' e = absurd h
fault_same (fault.Number l) (fault.Byte k) false bad (w, r, is, d, all, ends, no') g e = absurd (word_no_byte w r (digit_front w r d all ends) (byte_front k bad w r is g))
fault_same (fault.Number l) (fault.Number k) false bad h g e = ap fault.Number e
fault_same (fault.Number l) (fault.NameLength k) false bad (w, r, is, d, all, ends, no') (x, v, is', s, all', ends', long) e =
    let both = word_front_same w x r v all all' ends ends' (sym is ∙ is') in
    absurd (starts_twice x s (subst StartsWithDigit both.0 d))
fault_same (fault.NameLength l) g true bad h g' e = absurd h
fault_same (fault.NameLength l) (fault.Byte k) false bad (w, r, is, s, all, ends, long) g e = absurd (word_no_byte w r (letter_front w r s all ends) (byte_front k bad w r is g))
fault_same (fault.NameLength l) (fault.Number k) false bad (w, r, is, s, all, ends, long) (x, v, is', d, all', ends', no') e =
    let both = word_front_same w x r v all all' ends ends' (sym is ∙ is') in
    absurd (starts_twice x (subst StartsWithLetter both.0 s) d)
fault_same (fault.NameLength l) (fault.NameLength k) false bad h g e = ap fault.NameLength e
