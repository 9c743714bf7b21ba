use Rattle.pst_rows.proofs.OfPartsLemmas.{parts_hold}
use Rattle.pst_rows.proofs.laws.parts_hold.Goals as goal

pub returns : goal.returns
returns c = parts_hold
