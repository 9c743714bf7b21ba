use Rattle.pst_grammar.proofs.Stays.{read_stays, fault_stays, end_not_deep, from_front}
use Rattle.pst_grammar.proofs.laws.reading_needs_no_more_tokens.Goals as goal

pub returns-clause-read : goal.returns-clause-read
returns-clause-read c = read_stays

pub returns-clause-fault : goal.returns-clause-fault
returns-clause-fault c = fault_stays

pub returns-clause-end : goal.returns-clause-end
returns-clause-end c = end_not_deep

pub returns-clause-front : goal.returns-clause-front
returns-clause-front c = from_front
