use Rattle.pst_typing.proofs.Plain.{plain_stays}
use Rattle.pst_typing.proofs.laws.texts_without_arrays_stay_so.Goals as goal

pub returns : goal.returns
returns c = plain_stays
