use Rattle.pst_mirror.proofs.LivesLemmas.{unique_law, walk_law, last_law, split_life_law, stays_live_law}
use Rattle.pst_mirror.proofs.lives.Goals as goal

pub returns : goal.returns
returns c = record { unique = unique_law; walk = walk_law; last = last_law; split = split_life_law; live = stays_live_law }
