use Rattle.std.proofs.Common.{◌∙◌, ◌∷◌, [], List, ℕ, sym, ap}
use Rattle.pst_script.specs.Words.{words}
use Rattle.pst_cli_words.specs.Asked.{is_asked}
use Rattle.pst_cli_words.proofs.Asking.{by_words, one_word}
use Rattle.pst_cli_words.proofs.asked.question_in.Goals as goal

pub returns-in_err-word : goal.returns-in_err-word
returns-in_err-word c = ap is_asked c.from_residual.ensures ∙ sym (by_words c.args.line.now [] c.in_err-word.ensures.words)

pub returns-in_err-version : goal.returns-in_err-version
returns-in_err-version c =
    let word = c.in_ok-word.word.now in
    ap is_asked c.from_residual-in_err-version.ensures
    ∙ sym (by_words c.args.line.now (word ∷ []) (c.in_ok-word.ensures.words ∙ ap (λ (ws : List (List ℕ)). word ∷ ws) c.in_err-version.ensures.words) ∙ one_word word)

pub returns-in-None : goal.returns-in-None
returns-in-None c =
    let word = c.in_ok-word.word.now in
    let version = c.in_ok-version.version.now in
    let behind = c.in_ok-version.ensures.words ∙ ap (λ (ws : List (List ℕ)). version ∷ ws) c.in-None.ensures.words in
    c.asked_by_two.ensures
    ∙ sym (by_words c.args.line.now (word ∷ version ∷ []) (c.in_ok-word.ensures.words ∙ ap (λ (ws : List (List ℕ)). word ∷ ws) behind))

pub returns-in-None-split_word : goal.returns-in-None-split_word
returns-in-None-split_word c =
    let word = c.in_ok-word.word.now in
    let version = c.in_ok-version.version.now in
    let path = c.in-Some.path.now in
    let two = c.in_ok-version.ensures.words ∙ ap (λ (ws : List (List ℕ)). version ∷ ws) (c.in-Some.ensures.words ∙ ap (λ (ws : List (List ℕ)). path ∷ ws) c.in-None-split_word.ensures.words) in
    c.asked_by_three.ensures ∙ sym (by_words c.args.line.now (word ∷ version ∷ path ∷ []) (c.in_ok-word.ensures.words ∙ ap (λ (ws : List (List ℕ)). word ∷ ws) two))

pub returns-in-Some-split_word : goal.returns-in-Some-split_word
returns-in-Some-split_word c =
    let word = c.in_ok-word.word.now in
    let version = c.in_ok-version.version.now in
    let path = c.in-Some.path.now in
    let two = c.in_ok-version.ensures.words ∙ ap (λ (ws : List (List ℕ)). version ∷ ws) (c.in-Some.ensures.words ∙ ap (λ (ws : List (List ℕ)). path ∷ ws) c.in-Some-split_word.ensures.words) in
    sym (by_words c.args.line.now (word ∷ version ∷ path ∷ c.in-Some-split_word.field-0.0.now ∷ words c.in-Some-split_word.field-0.1.now)
    (c.in_ok-word.ensures.words ∙ ap (λ (ws : List (List ℕ)). word ∷ ws) two))
