use Rattle.std.proofs.Common.{sym, ap, ◌∙◌}
use Rattle.pst_script.specs.Numerals.{is_numeral}
use Rattle.pst_cli_words.proofs.Numerals.{number_read}
use Rattle.pst_cli_words.proofs.job.long_number.Goals as goal

pub returns : goal.returns
returns c =
    let numeral = ap is_numeral (sym c.as_bytes.ensures.value) ∙ sym c.is_numeral.ensures ∙ c.if-not-is_numeral.false in
    c.ok.ensures.value ∙ number_read c.args.word.now c.parse.result numeral c.parse.ensures.value.0
