use Rattle.std.proofs.Common.{sym, refl, take, drop}
use Rattle.std.proofs.lemmas.List.{take-append-drop}
use Rattle.pst_lex.proofs.Marks.{digit_word}
use Rattle.pst_lex.proofs.pieces.numeral.Goals as goal

pub returns-in-None : goal.returns-in-None
returns-in-None c =
    let text = c.args.text.now in
    let n = c.word_length-length.result in
    let w = c.word_length-length.ensures in
    let p = digit_word text n c.requires w.within w.longest in
    ((take n text, drop n text, sym (take-append-drop n text), p.1, w.all, w.longest, c.in-None.ensures), refl)
