use Rattle.pst_cli_images.proofs.Counted.{script_counts_law}
use Rattle.pst_cli_images.proofs.pack.scripts.Goals as goal

pub returns : goal.returns
returns c = record { counts = script_counts_law }
