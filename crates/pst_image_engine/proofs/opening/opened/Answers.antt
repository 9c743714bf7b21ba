use Rattle.pst_image_engine.proofs.Opens.{opens_law}
use Rattle.pst_image_engine.proofs.opening.opened.Goals as goal

pub returns : goal.returns
returns c = record { opens = opens_law }
