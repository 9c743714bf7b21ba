use Rattle.std.proofs.Common.{◌≡◌, map, take}
use Rattle.pst_image_meaning.specs.Denoted.{stamp_of as denoted_stamp}
use Rattle.pst_image_unpack.proofs.contents.put_stamps.Given as goal

abbrev pub invariant-loop-part : goal.invariant-loop-part
invariant-loop-part l = l.stamps.items ≡ map (denoted_stamp l.ty) (take l.part-index l.parts)
