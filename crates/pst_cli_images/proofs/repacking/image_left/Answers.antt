use Rattle.std.proofs.Common.{◌^◌, subst}
use Rattle.pst_base.specs.declared.names.Counts.{Counts}
use Rattle.pst_program.specs.Sound.{CountsWithin}
use Rattle.pst_cli_images.proofs.repacking.image_left.Goals as goal

pub image_of_session-requires-clause-counts : goal.image_of_session-requires-clause-counts
image_of_session-requires-clause-counts g c = subst (λ (k : Counts). CountsWithin k (2 ^ 50)) c.counts.ensures (c.are_few.ensures.few c.if-are_few.true)
