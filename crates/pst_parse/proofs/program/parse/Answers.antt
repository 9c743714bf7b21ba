use Rattle.pst_parse.proofs.Parsed.{has_found, finds_only, faults_unexpected, faults_deep}
use Rattle.pst_parse.proofs.program.parse.Goals as goal

pub returns-clause-found : goal.returns-clause-found
returns-clause-found c = λ tokens lexes. has_found c.program.result tokens (c.program.ensures.parses tokens.list tokens.end lexes)

pub returns-clause-only : goal.returns-clause-only
returns-clause-only c = λ tokens lexes. finds_only c.program.result tokens (c.program.ensures.parses tokens.list tokens.end lexes)

pub returns-clause-unexpected : goal.returns-clause-unexpected
returns-clause-unexpected c = λ tokens lexes. faults_unexpected c.program.result tokens (c.program.ensures.parses tokens.list tokens.end lexes)

pub returns-clause-deep : goal.returns-clause-deep
returns-clause-deep c = λ tokens lexes. faults_deep c.program.result tokens (c.program.ensures.parses tokens.list tokens.end lexes)
