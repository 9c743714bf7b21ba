use Rattle.pst_lex.proofs.Unique.{its_words, no_fault, are_words}
use Rattle.pst_lex.proofs.laws.words_are_those_of_the_text.Goals as goal

pub returns-clause-words : goal.returns-clause-words
returns-clause-words c = its_words c.args.text.now

pub returns-clause-no_fault : goal.returns-clause-no_fault
returns-clause-no_fault c = no_fault c.args.text.now

pub returns-clause-formed : goal.returns-clause-formed
returns-clause-formed c = are_words c.args.text.now
