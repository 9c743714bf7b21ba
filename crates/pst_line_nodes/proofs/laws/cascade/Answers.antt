use Rattle.pst_line_nodes.proofs.Writes.{redirect_law}
use Rattle.pst_line_nodes.proofs.Copy.{copy_law, quiet_law, walk_law}
use Rattle.pst_line_nodes.proofs.laws.cascade.Goals as goal

pub returns : goal.returns
returns c = record { copy = copy_law; redirect = redirect_law; quiet = quiet_law; walk = walk_law }
