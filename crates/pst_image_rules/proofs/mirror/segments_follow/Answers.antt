use Rattle.pst_image_rules.proofs.Following.{segments_follow}
use Rattle.pst_image_rules.proofs.mirror.segments_follow.Goals as goal

pub returns : goal.returns
returns c = segments_follow
