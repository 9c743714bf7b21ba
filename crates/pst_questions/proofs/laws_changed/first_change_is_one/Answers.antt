use Rattle.pst_questions.proofs.LawLemmas.{first_change_is_one}
use Rattle.pst_questions.proofs.laws_changed.first_change_is_one.Goals as goal

pub returns : goal.returns
returns c = first_change_is_one
