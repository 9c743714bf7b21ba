use Rattle.std.proofs.Common.{◌++◌, ap, ◌∙◌, sym}
use Rattle.pst_grammar.specs.Syntax.{Phrases}
use Rattle.pst_grammar.specs.View.{statements_of}
use Rattle.pst_notation.specs.Texts.{phrases_text}
use Rattle.pst_notation.proofs.Blocks.{block_is_list}
use Rattle.pst_notation.proofs.statements.+statements.Goals as goal

pub put_block-loop-statement-init : goal.put_block-loop-statement-init
put_block-loop-statement-init t c =
    ap (λ (b : Phrases). c.args.out.now.items ++ phrases_text c.args.indent b) (ap statements_of c.deref-statement-items.ensures.value ∙ sym (block_is_list c.args.block.now))
