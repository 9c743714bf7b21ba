use Rattle.std.proofs.Common.{◌≡◌, take}
use Rattle.pst_image_meaning.specs.Denoted.{contents_from}
use Rattle.pst_image_unpack.proofs.contents.put_bases.Given as goal

abbrev pub invariant-loop-slot : goal.invariant-loop-slot
invariant-loop-slot l = l.bases.items ≡ contents_from l.ty 0 (take l.slot l.numbers)
