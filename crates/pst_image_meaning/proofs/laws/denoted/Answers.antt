use Rattle.pst_image_meaning.proofs.Numbers.{numbers_back}
use Rattle.pst_image_meaning.proofs.Shown.{shown_denotes}
use Rattle.pst_image_meaning.proofs.laws.denoted.Goals as goal

pub returns : goal.returns
returns c = record { numbers = numbers_back; shown = shown_denotes }
