use Rattle.std.proofs.Common.{◌∙◌}
use Rattle.pst_script.proofs.NumeralLemmas.{argument_utf8, never_none, text_now, argument_read}
use Rattle.pst_script.proofs.numerals.argument.Goals as goal

pub returns-in_err-ok : goal.returns-in_err-ok
returns-in_err-ok c = absurd (never_none _ _ _ _ c.from_utf8.result c.ok.ensures.value c.in_err-ok.was c.from_utf8.ensures.cases (argument_utf8 c.args.word.now c.requires))

pub returns : goal.returns
returns c = c.ok-2.ensures.value ∙ argument_read c.args.word.now c.in_ok-ok.field-0.now c.parse.result c.requires
    (text_now _ _ _ _ c.from_utf8.result _ c.ok.ensures.value c.in_ok-ok.was c.from_utf8.ensures.cases) c.parse.ensures.value.0
