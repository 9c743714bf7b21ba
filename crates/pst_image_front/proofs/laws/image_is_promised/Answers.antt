use Rattle.pst_image_front.proofs.Sizes.{image_front}
use Rattle.pst_image_front.proofs.laws.image_is_promised.Goals as goal

pub returns : goal.returns
returns c = image_front
