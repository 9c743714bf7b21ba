use Rattle.pst_line_nodes.proofs.Runs.{next_law, drop_law, left_behind_law}
use Rattle.pst_line_nodes.proofs.laws.runs.Goals as goal

pub returns : goal.returns
returns c = record { next = next_law; drop = drop_law; left_behind = left_behind_law }
