use Rattle.pst_image_engine.proofs.Counted.{counts_law, few_counts_law, opening_counts_law}
use Rattle.pst_image_engine.proofs.leaving.counts.Goals as goal

pub returns : goal.returns
returns c = record { history = counts_law; within = few_counts_law; opening = opening_counts_law }
