use Rattle.pst_questions.proofs.Renamed.{lines_of-renamed}
use Rattle.pst_questions.proofs.Told.{counterpart, IsRenaming-told}
use Rattle.pst_questions.proofs.laws_dump.lines_tell_heaps.Goals as goal

pub returns : goal.returns
returns c = λ shape h g names others w v a b. (λ e. (counterpart names others, IsRenaming-told shape h g names others w v a b e), λ f. lines_of-renamed h g f.0 f.1 names others a b)
