use Rattle.pst_lex.proofs.Unique.{one_lexing, one_fault, not_both}
use Rattle.pst_lex.proofs.laws.text_is_read_in_one_way.Goals as goal

pub returns-clause-lexing : goal.returns-clause-lexing
returns-clause-lexing c = one_lexing c.args.text.now

pub returns-clause-fault : goal.returns-clause-fault
returns-clause-fault c = one_fault c.args.text.now

pub returns-clause-not_both : goal.returns-clause-not_both
returns-clause-not_both c = not_both c.args.text.now
