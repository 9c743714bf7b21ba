use Rattle.pst_grammar.proofs.ProgramLaw.{program_rest}
use Rattle.pst_grammar.proofs.Faults.{found, only, unexpected, deep}
use Rattle.pst_grammar.proofs.laws.reading_answers_as_the_grammar.Goals as goal

pub returns-clause-programs : goal.returns-clause-programs
returns-clause-programs c = λ h d ts rest whole e. (program_rest h d ts rest whole e, found h d ts rest whole e)

pub returns-clause-each : goal.returns-clause-each
returns-clause-each c = only

pub returns-clause-unexpected : goal.returns-clause-unexpected
returns-clause-unexpected c = unexpected

pub returns-clause-deep : goal.returns-clause-deep
returns-clause-deep c = deep
