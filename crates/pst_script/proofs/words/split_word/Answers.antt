use Rattle.std.proofs.Common.{◌≡◌, ◌<◌, ◌∷◌, ℕ, List, length, take, drop, sym, ◌∙◌, arith, rules, tests}
use Rattle.std.specs.List.{prefix_len}
use Rattle.std.proofs.lemmas.Bool.Decides.{nat_tests}
use Rattle.pst_script.specs.Words.{is_blank, words}
use Rattle.pst_script.proofs.WordLemmas.{is_word_byte, words-first, word_in_front, no_words}
use Rattle.pst_script.proofs.words.split_word.Goals as goal

pub returns-then-is_empty-clause-words : goal.returns-then-is_empty-clause-words
returns-then-is_empty-clause-words c = sym c.skip_blanks-rest.ensures.words ∙ no_words c.skip_blanks-rest.result.now (search (rules, tests, nat_tests))

split_at_first : (line rest front back : List ℕ) (n : ℕ) → words rest ≡ words line → prefix_len is_blank rest ≡ 0 → 0 < length rest
    → n ≡ prefix_len is_word_byte rest → front ≡ take n rest → back ≡ drop n rest → words line ≡ front ∷ words back
split_at_first line rest front back n same none some count fr bk =
    rw (fr, bk, count) (sym same ∙ words-first rest (word_in_front rest none some))

pub returns-clause-words : goal.returns-clause-words
returns-clause-words c = split_at_first _ c.skip_blanks-rest.result.now _ _ _ c.skip_blanks-rest.ensures.words c.skip_blanks-rest.ensures.at_word
    (grind (arith, nat_tests)) c.count_to_blank.ensures.count c.split_at.ensures.front c.split_at.ensures.back

pub returns-clause-some : goal.returns-clause-some
returns-clause-some c = omega (arith, word_in_front c.skip_blanks-rest.result.now c.skip_blanks-rest.ensures.at_word (grind (arith, nat_tests)))

pub returns-clause-shorter : goal.returns-clause-shorter
returns-clause-shorter c = omega (arith, word_in_front c.skip_blanks-rest.result.now c.skip_blanks-rest.ensures.at_word (grind (arith, nat_tests)))
