use Rattle.std.proofs.Common.{◌≡◌, map, take}
use Rattle.pst_image_unpack.specs.Listing.{fork_in}
use Rattle.pst_image_unpack.proofs.versions.forks_of.Given as goal

abbrev pub invariant-loop-number : goal.invariant-loop-number
invariant-loop-number l = l.forks.items ≡ map (fork_in l.versions l.places) (take l.number-index l.by_run)
