use Rattle.pst_line_nodes.proofs.Writes.{number_law, null_law, point_law}
use Rattle.pst_line_nodes.proofs.Made.{made_law}
use Rattle.pst_line_nodes.proofs.laws.writes.Goals as goal

pub returns : goal.returns
returns c = record { number = number_law; null = null_law; point = point_law; made = made_law }
