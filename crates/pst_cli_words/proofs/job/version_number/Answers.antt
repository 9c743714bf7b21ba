use Rattle.std.proofs.Common.{ℕ, ap, sym, ◌∙◌}
use Rattle.std.specs.Option.{option_map}
use Rattle.pst_base.specs.declared.names.VersionNo.{VersionNo}
use Rattle.pst_cli_words.proofs.Numerals.{no_version, version_read}
use Rattle.pst_cli_words.proofs.job.version_number.Goals as goal

pub returns-in_err-number : goal.returns-in_err-number
returns-in_err-number c = c.from_residual.ensures ∙ sym (no_version c.args.word.now (sym c.in_err-number.ensures))

pub returns-in_err-ok : goal.returns-in_err-ok
returns-in_err-ok c =
    let of : ℕ → VersionNo = λ n. record { 0 = n } in
    c.from_residual-in_err-ok.ensures ∙ ap (option_map of) (sym c.in_err-ok.was ∙ c.ok.ensures.value)
    ∙ version_read c.args.word.now c.in_ok-number.number c.try_from.result (sym c.in_ok-number.ensures) c.try_from.ensures

pub returns : goal.returns
returns c =
    let of : ℕ → VersionNo = λ n. record { 0 = n } in
    ap (option_map of) (sym c.in_ok-ok.was ∙ c.ok.ensures.value) ∙ version_read c.args.word.now c.in_ok-number.number c.try_from.result (sym c.in_ok-number.ensures) c.try_from.ensures
