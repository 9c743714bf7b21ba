use Rattle.pst_notation.proofs.ReadBack.{keeps_tokens, keeps_tree}
use Rattle.pst_notation.proofs.laws.canonical_text_keeps_what_was_read.Goals as goal

pub returns-clause-tokens : goal.returns-clause-tokens
returns-clause-tokens c = keeps_tokens c.args.text.now c.args.tree.now

pub returns-clause-program : goal.returns-clause-program
returns-clause-program c = keeps_tree c.args.text.now c.args.tree.now
