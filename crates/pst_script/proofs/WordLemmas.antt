-- The words of a line, from its front.
use Rattle.std.proofs.Common.{◌≡◌, ℕ, suc, ◌+◌, ◌<◌, ◌≤◌, Bool, true, false, cond, not, List, [], ◌∷◌, length, get_or, take, drop, refl, sym, ap, ◌∙◌, arith, drop-cons, ◌⊎◌, inl, inr, ⊎_elim}
use Rattle.std.proofs.Math.Nat.{eq-or-lt_of_le}
use Rattle.std.specs.Prelude.{filter}
use Rattle.std.specs.List.{slice_split, onto_first, prefix_len}
use Rattle.std.proofs.lemmas.List.{take_all, drop_all}
use Rattle.std.proofs.lemmas.List.Folds.{length-prefix_len}
use Rattle.std.proofs.lemmas.List.Splits.{slice_split-cons_yes, slice_split-cons_no, slice_split_first}
use Rattle.std.proofs.lemmas.List.Sums.{prefix_len-le-length, prefix_len_stops}
use Rattle.pst_script.specs.Words.{is_blank, is_some_text, words}

abbrev pub is_word_byte : ℕ → Bool
is_word_byte b = not (is_blank b)

not_false : (b : Bool) → not b ≡ false → b ≡ true
not_false true h = refl
not_false false h = sym h

lt_or_eq : (m n : ℕ) → m ≤ n → (m < n) ⊎ (m ≡ n)
lt_or_eq m n h = elim (eq-or-lt_of_le h) [ inl e ↦ inr e | inr l ↦ inl l ]

-- a blank in front changes no word
pub words-blank : (b : ℕ) (xs : List ℕ) → is_blank b ≡ true → words (b ∷ xs) ≡ words xs
unfolding words
words-blank b xs h = ap (filter is_some_text) (slice_split-cons_yes is_blank b xs h)

-- nor do more of them
pub words-blanks : (xs : List ℕ) → words (drop (prefix_len is_blank xs) xs) ≡ words xs
words-blanks [] = refl
words-blanks (x ∷ xs) = by_first (is_blank x) refl (words-blanks xs)
  where
    by_first : (b : Bool) → is_blank x ≡ b → words (drop (prefix_len is_blank xs) xs) ≡ words xs → words (drop (cond b (1 + prefix_len is_blank xs) 0) (x ∷ xs)) ≡ words (x ∷ xs)
    by_first true h rec = let e : 1 + prefix_len is_blank xs ≡ suc (prefix_len is_blank xs) = omega arith in rw e (rec ∙ sym (words-blank x xs h))
    by_first false h rec = refl

-- no word where there is no byte
pub words-none : words [] ≡ []
unfolding words
words-none = refl

filter-word : (word : List ℕ) (rest : List (List ℕ)) → 0 < length word → filter is_some_text (word ∷ rest) ≡ word ∷ filter is_some_text rest
filter-word [] rest h = absurd (omega arith)
filter-word (b ∷ word) rest h = refl

-- a line without a blank is one part
one_part : (xs : List ℕ) → prefix_len is_word_byte xs ≡ length xs → slice_split is_blank xs ≡ xs ∷ []
one_part [] h = refl
one_part (x ∷ xs) h = by_first (is_blank x) refl (one_part xs) h
  where
    by_first : (b : Bool) → is_blank x ≡ b → (prefix_len is_word_byte xs ≡ length xs → slice_split is_blank xs ≡ xs ∷ [])
        → cond (not b) (1 + prefix_len is_word_byte xs) 0 ≡ length (x ∷ xs) → slice_split is_blank (x ∷ xs) ≡ (x ∷ xs) ∷ []
    by_first true e rec h = absurd (omega arith)
    by_first false e rec h = slice_split-cons_no is_blank x xs e ∙ ap (onto_first x) (rec (omega arith))

-- a line that has a blank behind its first word
first_at : (xs : List ℕ) → 0 < prefix_len is_word_byte xs → prefix_len is_word_byte xs < length xs → words xs ≡ take (prefix_len is_word_byte xs) xs ∷ words (drop (prefix_len is_word_byte xs) xs)
unfolding words
first_at xs some more = let n : ℕ = prefix_len is_word_byte xs in
    let e : n + 1 ≡ suc n = omega arith in
    let blank : is_blank (get_or xs n 0) ≡ true = not_false (is_blank (get_or xs n 0)) (prefix_len_stops is_word_byte xs 0 more) in
    let cut : words (drop n xs) ≡ words (drop (suc n) xs) = ap words (drop-cons xs n 0 more) ∙ words-blank (get_or xs n 0) (drop (suc n) xs) blank in
    let parts : words xs ≡ filter is_some_text (take n xs ∷ slice_split is_blank (drop (n + 1) xs)) = ap (filter is_some_text) (slice_split_first is_blank xs 0 more) in
    let front : 0 < length (take n xs) = omega (arith, length-prefix_len is_word_byte xs) in
    parts ∙ (filter-word (take n xs) (slice_split is_blank (drop (n + 1) xs)) front ∙ (ap (λ k. take n xs ∷ words (drop k xs)) e ∙ ap (λ ws. take n xs ∷ ws) (sym cut)))

-- a line that is one word
first_all : (xs : List ℕ) → 0 < length xs → prefix_len is_word_byte xs ≡ length xs → words xs ≡ take (prefix_len is_word_byte xs) xs ∷ words (drop (prefix_len is_word_byte xs) xs)
unfolding words
first_all xs some all = rw (all, take_all (length xs) xs (omega arith), drop_all (length xs) xs (omega arith)) (ap (filter is_some_text) (one_part xs all) ∙ filter-word xs [] some)

-- the first word is what stands before the first blank
pub words-first : (xs : List ℕ) → 0 < prefix_len is_word_byte xs → words xs ≡ take (prefix_len is_word_byte xs) xs ∷ words (drop (prefix_len is_word_byte xs) xs)
words-first xs some = ⊎_elim (λ more. first_at xs some more) (λ all. first_all xs (omega (arith, prefix_len-le-length is_word_byte xs)) all) (cases xs)
  where
    cases : (xs : List ℕ) → (prefix_len is_word_byte xs < length xs) ⊎ (prefix_len is_word_byte xs ≡ length xs)
    cases xs = lt_or_eq _ _ (prefix_len-le-length is_word_byte xs)

-- a line that does not begin with a blank begins with a word
pub word_in_front : (xs : List ℕ) → prefix_len is_blank xs ≡ 0 → 0 < length xs → 0 < prefix_len is_word_byte xs
word_in_front [] none some = absurd (omega arith)
word_in_front (x ∷ xs) none some = by_first (is_blank x) none
  where
    by_first : (b : Bool) → cond b (1 + prefix_len is_blank xs) 0 ≡ 0 → 0 < cond (not b) (1 + prefix_len is_word_byte xs) 0
    by_first true e = absurd (omega arith)
    by_first false e = omega arith

-- and no word is left where nothing is
pub no_words : (xs : List ℕ) → length xs ≡ 0 → words xs ≡ []
no_words [] h = words-none
no_words (x ∷ xs) h = absurd (omega arith)

-- behind the blanks that a line begins with there is none
pub no_blank_left : (xs : List ℕ) → prefix_len is_blank (drop (prefix_len is_blank xs) xs) ≡ 0
no_blank_left [] = refl
no_blank_left (x ∷ xs) = by_first (is_blank x) refl (no_blank_left xs)
  where
    by_first : (b : Bool) → is_blank x ≡ b → prefix_len is_blank (drop (prefix_len is_blank xs) xs) ≡ 0 → prefix_len is_blank (drop (cond b (1 + prefix_len is_blank xs) 0) (x ∷ xs)) ≡ 0
    by_first true h rec = let e : 1 + prefix_len is_blank xs ≡ suc (prefix_len is_blank xs) = omega arith in rw e rec
    by_first false h rec = ap (λ b. cond b (1 + prefix_len is_blank xs) 0) h
