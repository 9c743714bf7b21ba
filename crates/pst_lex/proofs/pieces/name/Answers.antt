use Rattle.std.proofs.Common.{drop}
use Rattle.pst_lex.proofs.Marks.{letter_word}
use Rattle.pst_lex.proofs.pieces.name.Goals as goal

pub name_kind-requires-clause-starts : goal.name_kind-requires-clause-starts
name_kind-requires-clause-starts c =
    let w = c.word_length-length.ensures in
    (letter_word c.args.text.now c.word_length-length.result c.requires w.within w.longest).1

pub returns : goal.returns
returns c =
    let w = c.word_length-length.ensures in
    (w.within, (letter_word c.args.text.now c.word_length-length.result c.requires w.within w.longest).0, c.name_kind.ensures (drop c.word_length-length.result c.args.text.now) w.longest)
