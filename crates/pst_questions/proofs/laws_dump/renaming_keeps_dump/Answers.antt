use Rattle.pst_questions.proofs.Renamed.{IsDump-renamed}
use Rattle.pst_questions.proofs.laws_dump.renaming_keeps_dump.Goals as goal

pub returns : goal.returns
returns c = λ types h g to text f d. IsDump-renamed h g to f types text d
