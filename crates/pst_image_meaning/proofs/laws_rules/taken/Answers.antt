use Rattle.pst_image_meaning.proofs.Built.{built_law}
use Rattle.pst_image_meaning.proofs.StoreRules.{chains_law}
use Rattle.pst_image_meaning.proofs.Whole.{taken_law}
use Rattle.pst_image_meaning.proofs.laws_rules.taken.Goals as goal

pub returns : goal.returns
returns c = record { store = taken_law; built = built_law; chains = chains_law }
