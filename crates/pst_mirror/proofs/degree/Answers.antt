use Rattle.pst_mirror.proofs.DegreeLemmas.{degree_law, limit_law, full_law, full_apart_law}
use Rattle.pst_mirror.proofs.degree.Goals as goal

pub returns : goal.returns
returns c = record { same = degree_law; limit = limit_law; full = full_law; apart = full_apart_law }
