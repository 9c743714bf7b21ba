use Rattle.pst_image_meaning.proofs.Narrow.{narrow_law}
use Rattle.pst_image_meaning.proofs.All.{rules_law}
use Rattle.pst_image_meaning.proofs.Versions.{versions_law}
use Rattle.pst_image_meaning.proofs.parts.rules.Goals as goal

pub returns : goal.returns
returns c = record { rules = rules_law; versions = versions_law; narrow = narrow_law }
