use Rattle.pst_lex.proofs.Places.{tokens_in_place, fault_in_place}
use Rattle.pst_lex.proofs.laws.tokens_and_faults_stand_in_place.Goals as goal

pub returns-clause-tokens : goal.returns-clause-tokens
returns-clause-tokens c = tokens_in_place c.args.text.now

pub returns-clause-fault : goal.returns-clause-fault
returns-clause-fault c = fault_in_place c.args.text.now
