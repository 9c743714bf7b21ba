-- Lemmas on words, keywords and symbols.
use Rattle.std.specs.Prelude.{◌≡◌, ℕ, ◌≤◌, ◌<◌, nat_le, Bool, true, false, List, [], ◌∷◌, length, Option, Some, None, take, drop, slice_index, slice_get, map, IsSomeAnd}
use Rattle.std.proofs.Common.{suc, zero, refl, sym, ap, ◌∙◌, arith, drop-cons, subst}
use Rattle.std.specs.Option.{option_map}
use Rattle.std.proofs.lemmas.Option.{slice_get-map}
use Rattle.std.specs.List.{list_all}
use Rattle.std.proofs.lemmas.List.Folds.{list_all_more}
use Rattle.std.proofs.lemmas.List.{drop_all}
use Rattle.std.proofs.lemmas.Bool.Decides.{nat_tests}
use Rattle.pst_lex.specs.declared.words.Mark.{Mark}
use Rattle.pst_lex.specs.declared.words.Mark.TheVariants.{Record, Val, Ptr, Root, Proc, Query, Var, New, Call, Print, If, Else, While, Return, Null, And, Or}
use Rattle.pst_lex.specs.declared.words.Mark.TheVariants.{Not, Int, OpenBrace, CloseBrace, OpenParen, CloseParen, Semicolon, Colon, Comma, Dot, Assign, Equal}
use Rattle.pst_lex.specs.declared.words.Mark.TheVariants.{NotEqual, Less, LessEqual, Greater, GreaterEqual, Plus, Minus, Star, Slash, Percent}
use Rattle.pst_lex.specs.Bytes.{is_word, is_letter, is_digit, is_pair, EndsWord, NoPair, StartsWithLetter, StartsWithDigit}
use Rattle.pst_lex.specs.Words.{mark_text, IsKeyword, Fixed, Name}
use Rattle.pst_lex.specs.Lexing.{IsToken, EndsMark}
use Rattle.pst_lex.proofs.Comparing.{and_true, or_false, or_left, le_true, lt_test, other_test}

pub word_ends : (text : List ℕ) (n : ℕ) → n < length text → is_word (slice_index text n) ≡ false → EndsWord (drop n text)
word_ends text n h e = rw (drop-cons text n 0 h) e

pub all_ends : (text : List ℕ) (n : ℕ) → length text ≤ n → EndsWord (drop n text)
all_ends text n h = rw (drop_all n text h) tt

-- a word at the front is not empty, and begins as the text does
pub letter_word : (text : List ℕ) (n : ℕ) → StartsWithLetter text → n ≤ length text → EndsWord (drop n text) → (0 < n) × StartsWithLetter (take n text)
letter_word [] n h le e = absurd h
letter_word (b ∷ bs) zero h le e = absurd (let t : is_letter b ≡ false = (or_false (is_letter b) (is_digit b) e).0 in cc)
letter_word (b ∷ bs) (suc n) h le e = (omega arith, h)

pub digit_word : (text : List ℕ) (n : ℕ) → StartsWithDigit text → n ≤ length text → EndsWord (drop n text) → (0 < n) × StartsWithDigit (take n text)
digit_word [] n h le e = absurd h
digit_word (b ∷ bs) zero h le e = absurd (let t : is_digit b ≡ false = (or_false (is_letter b) (is_digit b) e).1 in cc)
digit_word (b ∷ bs) (suc n) h le e = (omega arith, h)

pub letter_low : (b : ℕ) → is_letter b ≡ true → 65 ≤ b
letter_low b e = go (nat_le 65 b) refl
  where
    go : (t : Bool) → nat_le 65 b ≡ t → 65 ≤ b
    go true h = le_true 65 b h
    go false h =
        let no' : is_letter b ≡ false = rw (h, lt_test 97 b (let l = below h in omega arith), other_test b 95 (λ e'. let l = below h in omega arith)) refl in
        absurd cc
      where
        below : nat_le 65 b ≡ false → b < 65
        below h = grind (arith, nat_tests)

pub letter_digit : (b : ℕ) → is_letter b ≡ true → is_digit b ≡ true → ⊥
letter_digit b e f =
    let low = letter_low b e in
    let high = le_true b 57 (and_true (nat_le 48 b) (nat_le b 57) f).1 in
    omega arith

letter_pair : (a b : ℕ) → is_letter a ≡ true → is_pair a b ≡ false
letter_pair a b e =
    let low = letter_low a e in
    rw (other_test a 61 (λ e'. omega arith), other_test a 33 (λ e'. omega arith), other_test a 60 (λ e'. omega arith), other_test a 62 (λ e'. omega arith)) refl

letter_no_pair : (a : ℕ) (rest : List ℕ) → is_letter a ≡ true → NoPair a rest
letter_no_pair a [] e = tt
letter_no_pair a (b ∷ rest) e = letter_pair a b e

-- a keyword ends where its word does
pub keyword_ends : (w rest : List ℕ) → StartsWithLetter w → EndsWord rest → EndsMark w rest
keyword_ends [] rest h e = h
keyword_ends (a ∷ []) rest h e = letter_no_pair a rest h
keyword_ends (a ∷ b ∷ w) rest h e = rw (or_left (is_letter a) (is_digit a) h) e

-- a word with letters that is none of the keywords is spelled as no keyword and as no symbol
pub no_mark : (w : List ℕ) → StartsWithLetter w → IsKeyword None w → (m : Mark) → w ≡ mark_text m → ⊥
no_mark w s h Record e = h 0 Record (omega arith) e
no_mark w s h Val e = h 1 Record (omega arith) e
no_mark w s h Ptr e = h 2 Record (omega arith) e
no_mark w s h Root e = h 3 Record (omega arith) e
no_mark w s h Proc e = h 4 Record (omega arith) e
no_mark w s h Query e = h 5 Record (omega arith) e
no_mark w s h Var e = h 6 Record (omega arith) e
no_mark w s h New e = h 7 Record (omega arith) e
no_mark w s h Call e = h 8 Record (omega arith) e
no_mark w s h Print e = h 9 Record (omega arith) e
no_mark w s h If e = h 10 Record (omega arith) e
no_mark w s h Else e = h 11 Record (omega arith) e
no_mark w s h While e = h 12 Record (omega arith) e
no_mark w s h Return e = h 13 Record (omega arith) e
no_mark w s h Null e = h 14 Record (omega arith) e
no_mark w s h And e = h 15 Record (omega arith) e
no_mark w s h Or e = h 16 Record (omega arith) e
no_mark w s h Not e = h 17 Record (omega arith) e
no_mark w s h Int e = h 18 Record (omega arith) e
no_mark w s h OpenBrace e = let bad = subst StartsWithLetter e s in absurd cc
no_mark w s h CloseBrace e = let bad = subst StartsWithLetter e s in absurd cc
no_mark w s h OpenParen e = let bad = subst StartsWithLetter e s in absurd cc
no_mark w s h CloseParen e = let bad = subst StartsWithLetter e s in absurd cc
no_mark w s h Semicolon e = let bad = subst StartsWithLetter e s in absurd cc
no_mark w s h Colon e = let bad = subst StartsWithLetter e s in absurd cc
no_mark w s h Comma e = let bad = subst StartsWithLetter e s in absurd cc
no_mark w s h Dot e = let bad = subst StartsWithLetter e s in absurd cc
no_mark w s h Assign e = let bad = subst StartsWithLetter e s in absurd cc
no_mark w s h Equal e = let bad = subst StartsWithLetter e s in absurd cc
no_mark w s h NotEqual e = let bad = subst StartsWithLetter e s in absurd cc
no_mark w s h Less e = let bad = subst StartsWithLetter e s in absurd cc
no_mark w s h LessEqual e = let bad = subst StartsWithLetter e s in absurd cc
no_mark w s h Greater e = let bad = subst StartsWithLetter e s in absurd cc
no_mark w s h GreaterEqual e = let bad = subst StartsWithLetter e s in absurd cc
no_mark w s h Plus e = let bad = subst StartsWithLetter e s in absurd cc
no_mark w s h Minus e = let bad = subst StartsWithLetter e s in absurd cc
no_mark w s h Star e = let bad = subst StartsWithLetter e s in absurd cc
no_mark w s h Slash e = let bad = subst StartsWithLetter e s in absurd cc
no_mark w s h Percent e = let bad = subst StartsWithLetter e s in absurd cc

-- the word with letters is that keyword
pub keyword_token : (m : Mark) (w rest : List ℕ) → StartsWithLetter w → EndsWord rest → IsKeyword (Some m) w → IsToken (Fixed m) w rest
keyword_token m w rest s e is = (is, tt, subst (λ x. EndsMark x rest) is (keyword_ends w rest s e))

-- the word with letters is a name
pub name_token : (w rest : List ℕ) → StartsWithLetter w → list_all is_word w ≡ true → length w ≤ 32 → EndsWord rest → IsKeyword None w → IsToken (Name w) w rest
name_token w rest s all short e h = (refl, record { starts = s; all = all; short = short; no_keyword = no_mark w s h }, e)

pub ruleset words = (list_all_more, word_ends, all_ends)
