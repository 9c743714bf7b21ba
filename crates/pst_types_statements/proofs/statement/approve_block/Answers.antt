use Rattle.std.proofs.Common.{◌≡◌, length, arith}
use Rattle.std.proofs.lemmas.Result.{err_from_is_err_and}
use Rattle.pst_program.specs.Syntax.{Empty, Then}
use Rattle.pst_types_scope.specs.View.{setting_of}
use Rattle.pst_types_statements.proofs.Blocks.{before, approved_from, approved_on, approved_all, approved_none}
use Rattle.pst_types_statements.proofs.statement.approve_block.Goals as goal

pub loop-statement-init : goal.loop-statement-init
loop-statement-init c = (Empty, approved_from (setting_of c.args.setting.now) c.args.statements.now _ c.deref-statement-items.ensures.value)

pub loop-statement-preserved : goal.loop-statement-preserved
loop-statement-preserved c =
    let gone = c.loop-statement.invariant.0 in
    let action = c.in_ok-approve_form.ensures.0 in (
      before gone (Then c.statement-item.result.line action Empty),
      approved_on (setting_of c.args.setting.now) c.deref-statement-items.result.now c.loop-statement.statement-index c.statement-item.result gone
          action _ c.loop-statement-test.true c.statement-item.is
          c.in_ok-approve_form.ensures.1 c.loop-statement.invariant.1,
    )

pub returns : goal.returns
returns c =
    let end : c.loop-statement.statement-index ≡ length c.deref-statement-items.result.now = omega arith in
    approved_all (setting_of c.args.setting.now) c.args.statements.now c.deref-statement-items.result.now c.loop-statement.statement-index c.loop-statement.invariant.0 end c.loop-statement.invariant.1

pub returns-in_err-approve_form : goal.returns-in_err-approve_form
returns-in_err-approve_form c =
    let p = err_from_is_err_and c.from_residual.result c.from_residual.ensures.1 in
    rw (p.1, p.2) (approved_none (setting_of c.args.setting.now) c.deref-statement-items.result.now c.loop-statement.statement-index c.statement-item.result c.loop-statement.invariant.0
    c.in_err-approve_form.field-0.0 _ c.loop-statement-test.true c.statement-item.is c.in_err-approve_form.ensures c.loop-statement.invariant.1)
