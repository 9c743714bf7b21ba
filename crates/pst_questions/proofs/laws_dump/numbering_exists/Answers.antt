use Rattle.pst_questions.proofs.Existing.{numbering}
use Rattle.pst_questions.proofs.laws_dump.numbering_exists.Goals as goal

pub returns : goal.returns
returns c = numbering
