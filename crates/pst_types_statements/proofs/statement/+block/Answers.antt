use Rattle.std.proofs.Common.{◌≡◌, length, ap, arith}
use Rattle.pst_program.specs.declared.block.TypedBlock.{out-roll-TypedBlock}
use Rattle.pst_types_scope.specs.View.{setting_of}
use Rattle.pst_types_statements.proofs.Blocks.{block_starts, block_on, block_ends}
use Rattle.pst_types_statements.proofs.statement.+block.Goals as goal

pub judge_block-loop-statement-init : goal.judge_block-loop-statement-init
judge_block-loop-statement-init t c = block_starts (setting_of c.args.setting.now) c.args.statements.now _ _ c.in_ok-items.ensures.items c.deref-statement-items.ensures.value

pub judge_block-loop-statement-preserved : goal.judge_block-loop-statement-preserved
judge_block-loop-statement-preserved t c =
    block_on (setting_of c.args.setting.now) c.deref-statement-items.result.now c.loop-statement.statement-index c.statement-item.result _ _
    c.in_ok-form.form _ c.loop-statement-test.true c.statement-item.is
    c.in_ok-form.ensures c.in_ok-push.ensures.items c.loop-statement.invariant

pub judge_block-returns : goal.judge_block-returns
judge_block-returns t c =
    let end : c.loop-statement.statement-index ≡ length c.deref-statement-items.result.now = omega arith in
    block_ends (setting_of c.args.setting.now) c.args.statements.now c.deref-statement-items.result.now c.loop-statement.statement-index _
    c.loop-statement.items.items end (ap (λ o. o.items.items) (out-roll-TypedBlock _)) c.loop-statement.invariant
