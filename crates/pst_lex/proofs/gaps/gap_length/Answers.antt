use Rattle.std.proofs.Common.{sym, arith}
use Rattle.std.proofs.lemmas.Bool.Decides.{nat_tests}
use Rattle.pst_lex.proofs.Blanks.{gap_more, feeds_more}
use Rattle.pst_lex.proofs.gaps.gap_length.Goals as goal

pub loop-n-preserved : goal.loop-n-preserved
loop-n-preserved c =
    let inv = c.loop-n.invariant in
    let more = feeds_more c.args.text.now c.loop-n.n c.loop-n-test.true in
    (omega arith, gap_more _ _ _ _ c.loop-n-test.true inv.1 (sym c.in-Some.ensures), grind (arith, nat_tests), grind (arith, nat_tests))
