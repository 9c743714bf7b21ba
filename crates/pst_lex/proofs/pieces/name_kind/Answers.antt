use Rattle.std.proofs.Common.{sym, subst}
use Rattle.pst_lex.specs.Lexing.{IsName}
use Rattle.pst_lex.proofs.Marks.{keyword_token, name_token}
use Rattle.pst_lex.proofs.pieces.name_kind.Goals as goal

pub returns-in-Some : goal.returns-in-Some
returns-in-Some c = λ rest ends. keyword_token c.in-Some.mark c.args.word.now rest c.requires.starts ends c.in-Some.ensures

pub returns-in-None : goal.returns-in-None
returns-in-None c = λ rest ends.
    let h = name_token c.args.word.now rest c.requires.starts c.requires.all c.requires.short ends c.in-None.ensures in
    (sym c.new.ensures, subst IsName (sym c.new.ensures) h.1, ends)
