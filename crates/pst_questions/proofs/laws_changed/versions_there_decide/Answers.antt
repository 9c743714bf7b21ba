use Rattle.pst_questions.proofs.LawLemmas.{versions_there_decide}
use Rattle.pst_questions.proofs.laws_changed.versions_there_decide.Goals as goal

pub returns : goal.returns
returns c = versions_there_decide
