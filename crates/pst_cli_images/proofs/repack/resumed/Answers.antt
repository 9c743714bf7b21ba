use Rattle.pst_cli_images.proofs.Resumes.{accepted_law, resumed_law, never_refused_law, goes_on_law}
use Rattle.pst_cli_images.proofs.repack.resumed.Goals as goal

pub returns : goal.returns
returns c = record { accepted = accepted_law; replies = resumed_law; never_refused = never_refused_law; goes_on = goes_on_law }
