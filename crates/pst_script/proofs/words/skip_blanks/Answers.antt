use Rattle.std.proofs.Common.{◌≡◌, ℕ, ◌-◌, List, length, take, drop}
use Rattle.std.specs.List.{prefix_len}
use Rattle.std.proofs.lemmas.List.{take_rest}
use Rattle.pst_script.specs.Words.{is_blank, words}
use Rattle.pst_script.proofs.WordLemmas.{words-blanks, no_blank_left}
use Rattle.pst_script.proofs.words.skip_blanks.Goals as goal

words_rest : (xs : List ℕ) (n : ℕ) → n ≡ prefix_len is_blank xs → words (take (length xs - n) (drop n xs)) ≡ words xs
words_rest xs n e = rw (take_rest xs n, e) (words-blanks xs)

pub returns-clause-words : goal.returns-clause-words
returns-clause-words c = words_rest _ _ c.count_blanks.ensures.count

no_blank : (xs : List ℕ) (n : ℕ) → n ≡ prefix_len is_blank xs → prefix_len is_blank (take (length xs - n) (drop n xs)) ≡ 0
no_blank xs n e = rw (take_rest xs n, e) (no_blank_left xs)

pub returns-clause-at_word : goal.returns-clause-at_word
returns-clause-at_word c = no_blank _ _ c.count_blanks.ensures.count
