use Rattle.pst_repair.proofs.PairedLemmas.{links_are_seen, unlinks_are_seen}
use Rattle.pst_repair.proofs.joint.pairs_are_seen.Goals as goal

pub returns : goal.returns
returns c = record { links = links_are_seen; unlinks = unlinks_are_seen }
