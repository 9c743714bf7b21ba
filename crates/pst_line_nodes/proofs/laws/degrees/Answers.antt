use Rattle.pst_line_nodes.proofs.Degree.{full_law, open_law}
use Rattle.pst_line_nodes.proofs.laws.degrees.Goals as goal

pub returns : goal.returns
returns c = record { full = full_law; open_slot = open_law }
