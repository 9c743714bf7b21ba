use Rattle.std.proofs.Common.{refl}
use Rattle.pst_translation.proofs.worked.code_worked_by_hand.Goals as goal

pub returns : goal.returns
returns c = record { add_is = λ name. refl; sum_is = λ name. refl; count_is = λ name. refl; make_is = λ name. refl; see_is = λ name. refl }
