use Rattle.pst_grammar.specs.View.{text_of}
use Rattle.pst_notation.proofs.ReadBack.{has_its_tokens, has_no_fault, reads_back, reads_as_no_other, drops_lines}
use Rattle.pst_notation.proofs.laws.canonical_text_reads_as_its_tree.Goals as goal

pub returns-clause-tokens : goal.returns-clause-tokens
returns-clause-tokens c = has_its_tokens (text_of c.args.tree.now)

pub returns-clause-no_fault : goal.returns-clause-no_fault
returns-clause-no_fault c = has_no_fault (text_of c.args.tree.now)

pub returns-clause-program : goal.returns-clause-program
returns-clause-program c = reads_back (text_of c.args.tree.now)

pub returns-clause-no_other : goal.returns-clause-no_other
returns-clause-no_other c = reads_as_no_other (text_of c.args.tree.now)

pub returns-clause-no_lines : goal.returns-clause-no_lines
returns-clause-no_lines c = drops_lines (text_of c.args.tree.now)
