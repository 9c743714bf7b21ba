use Rattle.std.proofs.lemmas.Result.{err_from_is_err_and}
use Rattle.pst_grammar.specs.View.{phrases_of}
use Rattle.pst_types_scope.specs.View.{scope_of, setting_of}
use Rattle.pst_types_procedures.specs.View.{procedure_text_of}
use Rattle.pst_types_procedures.proofs.Parts.{stands_fail, stands_then}
use Rattle.pst_types_procedures.proofs.procedure.approve_procedure.Goals as goal

pub returns-in_err-setting : goal.returns-in_err-setting
returns-in_err-setting c =
    let body = phrases_of c.args.body.now in
    let p = err_from_is_err_and c.from_residual.result c.from_residual.ensures.1 in
    rw (p.1, p.2) (stands_fail (scope_of c.args.scope.now) (procedure_text_of c.args.head.now body) c.in_err-setting.field-0.0 (c.in_err-setting.ensures body))

pub returns : goal.returns
returns c =
    let body = phrases_of c.args.body.now in
    stands_then (scope_of c.args.scope.now) (procedure_text_of c.args.head.now body) (setting_of c.in_ok-setting.setting) c.in_ok-setting._arguments
    c.approve_block.result (c.in_ok-setting.ensures body) c.approve_block.ensures
