use Rattle.pst_image_unpack.proofs.Alone.{one_fails_law}
use Rattle.pst_image_unpack.proofs.Deciding.{never_both}
use Rattle.pst_image_unpack.proofs.laws.accepted_or_refused.Goals as goal

pub returns : goal.returns
returns c = record { never_both = never_both; one_fails = one_fails_law }
