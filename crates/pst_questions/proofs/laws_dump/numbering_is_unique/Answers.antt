use Rattle.pst_questions.proofs.Numbered.{AreNumbered-same}
use Rattle.pst_questions.proofs.laws_dump.numbering_is_unique.Goals as goal

pub returns : goal.returns
returns c = AreNumbered-same
