use Rattle.std.proofs.Common.{◌+◌, arith}
use Rattle.pst_script.proofs.NumeralLemmas.{numeral_great, numeral_more}
use Rattle.pst_script.proofs.numerals.number.Goals as goal

pub returns-then-value-from : goal.returns-then-value-from
returns-then-value-from c =
    let more = numeral_more c.args.word.now c.loop-digit.digit-index c.requires c.loop-digit-test.true in
    numeral_great c.args.word.now (c.loop-digit.digit-index + 1) c.requires (omega (arith, more, c.loop-digit.invariant.0, c.from.ensures))

pub loop-digit-preserved : goal.loop-digit-preserved
loop-digit-preserved c =
    let more = numeral_more c.args.word.now c.loop-digit.digit-index c.requires c.loop-digit-test.true in
    (omega (arith, more, c.loop-digit.invariant.0, c.from.ensures), omega arith)
