use Rattle.std.proofs.Common.{◌+◌, ◌∷◌, ◌∙◌, ap, sym, refl, subst, arith, take, drop}
use Rattle.std.proofs.lemmas.List.{take_rest}
use Rattle.pst_io.specs.Text.{lines_of, IsFirstFeed}
use Rattle.pst_io.proofs.TextLemmas.{lines_of-feed, lines_of-unfed, split_at_feed, first_feed, no_feed}
use Rattle.pst_cli_scripts.proofs.text.split_line.Goals as goal

pub returns-in-None-clause-lines : goal.returns-in-None-clause-lines
returns-in-None-clause-lines c =
    let text = c.args.text.now in
    lines_of-unfed text (no_feed text text 0 refl refl c.in-None.ensures) (grind arith)

pub returns-in-Some-clause-lines : goal.returns-in-Some-clause-lines
returns-in-Some-clause-lines c =
    let text = c.args.text.now in
    let feed = c.in-Some.feed in
    let (none, here) = c.in-Some.ensures in
    let first = subst (λ n. IsFirstFeed n text) (omega arith) (first_feed text text 0 feed refl refl none here) in
    ap lines_of (split_at_feed text feed first) ∙ lines_of-feed (take feed text) (drop (feed + 1) text) first.before
    ∙ ap (λ l. take feed text ∷ lines_of l) (sym (take_rest text (feed + 1)))
