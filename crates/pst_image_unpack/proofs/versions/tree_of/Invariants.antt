use Rattle.std.proofs.Common.{◌≡◌}
use Rattle.pst_base.specs.Below.{listed}
use Rattle.pst_image_unpack.specs.Listing.{row_in}
use Rattle.pst_image_unpack.proofs.versions.tree_of.Given as goal

abbrev pub invariant-loop-number : goal.invariant-loop-number
invariant-loop-number l = l.tree ≡ listed l.number (row_in l.versions l.places)
