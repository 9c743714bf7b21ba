use Rattle.std.proofs.Common.{◌≡◌, ◌++◌, ◌+◌, length, arith, ap, sym, subst, ◌∙◌}
use Rattle.pst_program.specs.Syntax.{Actions}
use Rattle.pst_program.specs.View.{actions_of, statements_of}
use Rattle.pst_translation.specs.Code.{Temp, block_code}
use Rattle.pst_translation.specs.Needs.{temp_of}
use Rattle.pst_codegen_expressions.specs.Ready.{HasNoted, AreReady}
use Rattle.pst_codegen_expressions.proofs.Bridge.{block_is_list}
use Rattle.pst_codegen.proofs.blocks.+blocks.Goals as goal

pub emit_block-loop-statement-init : goal.emit_block-loop-statement-init
emit_block-loop-statement-init t c =
    let shape = c.args.layout.now.shape.now in
    let temp : Temp = temp_of c.args.layout.now.locals c.args.layout.now.table in
    let same : actions_of c.args.block.now ≡ statements_of c.deref-statement-items.result.now = block_is_list c.args.block.now ∙ sym (ap statements_of c.deref-statement-items.ensures.value) in
    let start : c.args.at + 0 ≡ c.args.at = omega arith in
    record {
      ready = subst (AreReady shape (HasNoted c.args.layout.now.table)) same c.requires;
      rest = ap (λ l. l ++ block_code shape temp (statements_of c.deref-statement-items.result.now) (c.args.at + length l)) c.new-code.ensures.items
          ∙ ap (block_code shape temp (statements_of c.deref-statement-items.result.now)) start
          ∙ ap (λ (a : Actions). block_code shape temp a c.args.at) (sym same);
    }
